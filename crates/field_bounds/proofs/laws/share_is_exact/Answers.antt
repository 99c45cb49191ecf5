use Rattle.field_bounds.specs.Effects.{effects}
use Rattle.field_bounds.proofs.Lawful.{covered}
use Rattle.field_bounds.proofs.Runs.{run_is_lawful}
use Rattle.field_bounds.proofs.laws.share_is_exact.Goals as goal

pub returns : goal.returns
returns c = record {
  covered = λ schema s base o kept run f k.
      covered schema base (effects base kept o) (run_is_lawful schema s base o run kept) f k;
}
