use Rattle.std.proofs.Common.{rules}
use Rattle.world_logs.proofs.excess_search.is_lost.Goals as goal

pub returns-in-Some : goal.returns-in-Some
returns-in-Some c = search rules
