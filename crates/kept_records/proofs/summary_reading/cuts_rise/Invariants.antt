use Rattle.std.proofs.Common.{◌≡◌, length}
use Rattle.kept_records.specs.Summary.{cuts_rise}
use Rattle.kept_records.proofs.summary_reading.cuts_rise.Given as goal

abbrev pub invariant-loop-rest : goal.invariant-loop-rest
invariant-loop-rest l = cuts_rise l.rest ≡ cuts_rise l.fn.totals

abbrev pub decreases-loop-rest : goal.decreases-loop-rest
decreases-loop-rest l = length l.rest
