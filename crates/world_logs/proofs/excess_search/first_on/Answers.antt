use Rattle.std.proofs.Common.{rules}
use Rattle.world_logs.proofs.excess_search.first_on.Goals as goal

pub returns-clause-none : goal.returns-clause-none
returns-clause-none c = search rules
