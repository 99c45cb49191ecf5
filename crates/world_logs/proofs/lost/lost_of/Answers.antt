use Rattle.std.proofs.Common.{arith}
use Rattle.std.proofs.lemmas.Grind.{common_steps}
use Rattle.world_logs.proofs.lost.lost_of.Goals as goal

pub loop-log-preserved : goal.loop-log-preserved
loop-log-preserved g c = grind (arith, common_steps)
