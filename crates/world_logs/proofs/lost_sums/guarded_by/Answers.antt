use Rattle.std.proofs.Common.{arith, rules}
use Rattle.std.proofs.lemmas.Grind.{common_steps}
use Rattle.world_logs.proofs.lost_sums.guarded_by.Goals as goal

pub returns-then-is_lost : goal.returns-then-is_lost
returns-then-is_lost c = grind (arith, common_steps)

pub guarded-requires : goal.guarded-requires
guarded-requires c = search rules

pub returns : goal.returns
returns c = grind (arith, common_steps)
