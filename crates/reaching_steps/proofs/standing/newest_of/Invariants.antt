use Rattle.std.proofs.Common.{◌≤◌, length}
use Rattle.reaching_steps.proofs.standing.newest_of.Given as goal

abbrev pub invariant-loop-i : goal.invariant-loop-i
invariant-loop-i l = l.i ≤ length l.held

abbrev pub decreases-loop-i : goal.decreases-loop-i
decreases-loop-i l = l.i
