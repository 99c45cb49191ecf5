use Rattle.std.proofs.Common.{length}
use Rattle.kept_records.specs.Keeping.{IsKept}
use Rattle.kept_records_tests.proofs.told.by_words.Given as goal

abbrev pub invariant-loop-records : goal.invariant-loop-records
invariant-loop-records l = IsKept l.records

abbrev pub decreases-loop-records : goal.decreases-loop-records
decreases-loop-records l = length l.records
