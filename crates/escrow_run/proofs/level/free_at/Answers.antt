use Rattle.std.proofs.Common.{arith}
use Rattle.escrow_run.proofs.LevelLemmas.{field_few}
use Rattle.escrow_run.proofs.level.free_at.Goals as goal

pub returns-in-Lower-clause-few : goal.returns-in-Lower-clause-few
returns-in-Lower-clause-few c = λ is.
    omega (arith, field_few c.args.world.now.schema is c.args.level.field.0 c.requires.named, c.in_ok-lower.ensures.within)

pub returns-in-Raise-clause-few : goal.returns-in-Raise-clause-few
returns-in-Raise-clause-few c = λ is.
    omega (arith, field_few c.args.world.now.schema is c.args.level.field.0 c.requires.named, c.in_ok-lower.ensures.within)
