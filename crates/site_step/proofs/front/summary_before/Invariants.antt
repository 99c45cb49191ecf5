-- No summary's line starts from the letters on that were looked at.
use Rattle.std.proofs.Common.{◌≤◌}
use Rattle.site_step.specs.Shortening.{NoneBetween}
use Rattle.site_step.proofs.front.summary_before.Given as goal

abbrev pub invariant-loop-at : goal.invariant-loop-at
invariant-loop-at l = record {
  within : l.left ≤ l.fn.end;
  none : NoneBetween l.bytes l.left l.fn.end;
}

abbrev pub decreases-loop-at : goal.decreases-loop-at
decreases-loop-at l = l.left
