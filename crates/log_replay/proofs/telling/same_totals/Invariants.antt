use Rattle.std.proofs.Common.{◌≡◌, length}
use Rattle.kept_records.specs.Summary.{same_totals}
use Rattle.log_replay.proofs.telling.same_totals.Given as goal

abbrev pub invariant-loop-left : goal.invariant-loop-left
invariant-loop-left l = same_totals l.left l.right ≡ same_totals l.fn.a l.fn.b

abbrev pub decreases-loop-left : goal.decreases-loop-left
decreases-loop-left l = length l.left
