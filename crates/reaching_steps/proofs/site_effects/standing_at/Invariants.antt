use Rattle.reaching_steps.specs.FieldHoldings.{Stands}
use Rattle.reaching_steps.proofs.Reading.{front_at}
use Rattle.reaching_steps.proofs.site_effects.standing_at.Given as goal

abbrev pub invariant-loop-i : goal.invariant-loop-i
invariant-loop-i l = Stands l.field.0 l.standing (front_at l.world.schema l.site.0 l.trace l.i)
