-- The records in front of the lines that are left were taken in.
use Rattle.std.proofs.Common.{length}
use Rattle.site_step.proofs.Fronts.{HasRead}
use Rattle.site_step.proofs.site.opening.find.Given as goal

abbrev pub invariant-loop-of-by_line : goal.invariant-loop-of-by_line
invariant-loop-of-by_line g l =
    HasRead l.fn.schema l.fn._site.0 g.gone l.bytes l.based.list.items l.number l.count l.standing l.lines.left

abbrev pub decreases-loop-of-by_line : goal.decreases-loop-of-by_line
decreases-loop-of-by_line g l = length l.lines.left
