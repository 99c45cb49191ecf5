use Rattle.std.proofs.Common.{◌≡◌, length}
use Rattle.kept_records.specs.Summary.{same_cuts}
use Rattle.log_replay.proofs.telling.same_cuts.Given as goal

abbrev pub invariant-loop-left : goal.invariant-loop-left
invariant-loop-left l = same_cuts l.left l.right ≡ same_cuts l.fn.a l.fn.b

abbrev pub decreases-loop-left : goal.decreases-loop-left
decreases-loop-left l = length l.left
