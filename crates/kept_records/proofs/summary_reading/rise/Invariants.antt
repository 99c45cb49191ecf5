use Rattle.std.proofs.Common.{◌≡◌, length}
use Rattle.kept_records.specs.Summary.{rises}
use Rattle.kept_records.proofs.summary_reading.rise.Given as goal

abbrev pub invariant-loop-rest : goal.invariant-loop-rest
invariant-loop-rest l = rises l.rest ≡ rises l.fn.totals

abbrev pub decreases-loop-rest : goal.decreases-loop-rest
decreases-loop-rest l = length l.rest
