use Rattle.std.proofs.Common.{rules}
use Rattle.world_logs.proofs.excess_search.first_at.Goals as goal

pub loop-number-preserved : goal.loop-number-preserved
loop-number-preserved c = search rules
