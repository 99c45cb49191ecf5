use Rattle.std.proofs.Common.{rules}
use Rattle.world_logs.proofs.settle.settled_field.Goals as goal

pub returns : goal.returns
returns c = search rules
