use Rattle.field_bounds.proofs.Conserved.{outcomes_between}
use Rattle.field_bounds.proofs.laws.outcomes_lie_between.Goals as goal

pub returns : goal.returns
returns c = record { within = λ schema trace f chosen. outcomes_between schema trace f chosen }
