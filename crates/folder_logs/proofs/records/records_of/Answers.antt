use Rattle.std.proofs.Common.{rules}
use Rattle.folder_logs.proofs.records.records_of.Goals as goal

pub returns : goal.returns
returns c = search rules
