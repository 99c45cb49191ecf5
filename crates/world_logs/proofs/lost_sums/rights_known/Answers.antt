use Rattle.std.proofs.Common.{rules}
use Rattle.world_logs.proofs.lost_sums.rights_known.Goals as goal

pub returns : goal.returns
returns c = search rules
