-- The records in front of the lines that are left were noted.
use Rattle.std.proofs.Common.{length}
use Rattle.site_step.proofs.FrontEnds.{TellsFront}
use Rattle.site_step.proofs.front.read_front.Given as goal

abbrev pub invariant-loop-of-by_line : goal.invariant-loop-of-by_line
invariant-loop-of-by_line l = TellsFront l.bytes l.front l.lines.left

abbrev pub decreases-loop-of-by_line : goal.decreases-loop-of-by_line
decreases-loop-of-by_line l = length l.lines.left
