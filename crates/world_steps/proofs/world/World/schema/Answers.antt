use Rattle.std.proofs.Common.{subst}
use Rattle.field_bounds.specs.Limits.{IsSchema}
use Rattle.world_steps.specs.View.{WorldValue}
use Rattle.world_steps.proofs.world.World.schema.Goals as goal

pub returns-clause-limits : goal.returns-clause-limits
returns-clause-limits c = subst (λ (w : WorldValue). IsSchema w.schema) c.self.view_is c.self.invariant.good
