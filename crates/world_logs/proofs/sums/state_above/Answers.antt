use Rattle.std.proofs.Common.{rules}
use Rattle.world_logs.proofs.sums.state_above.Goals as goal

pub returns-clause-value : goal.returns-clause-value
returns-clause-value c = search rules
