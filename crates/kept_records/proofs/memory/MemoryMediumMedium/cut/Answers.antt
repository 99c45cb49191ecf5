use Rattle.std.proofs.Common.{rules}
use Rattle.kept_records.proofs.memory.MemoryMediumMedium.cut.Goals as goal

pub returns-clause-ok : goal.returns-clause-ok
returns-clause-ok c = search rules
