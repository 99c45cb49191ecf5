use Rattle.std.proofs.Common.{rules}
use Rattle.folder_logs.proofs.first.replay_records.Goals as goal

pub returns-in_default : goal.returns-in_default
returns-in_default c = search rules

pub returns-in-BadLine : goal.returns-in-BadLine
returns-in-BadLine c = search rules
