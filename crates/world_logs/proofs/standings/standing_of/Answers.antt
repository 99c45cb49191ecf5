use Rattle.std.proofs.Common.{rules}
use Rattle.world_logs.proofs.standings.standing_of.Goals as goal

pub returns-in-BreaksRule-clause-fault : goal.returns-in-BreaksRule-clause-fault
returns-in-BreaksRule-clause-fault c = search rules
