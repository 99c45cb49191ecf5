use Rattle.std.proofs.Common.{rules}
use Rattle.folder_logs.proofs.records.Records.as_slice.Goals as goal

pub returns-in-Taken : goal.returns-in-Taken
returns-in-Taken c = search rules
