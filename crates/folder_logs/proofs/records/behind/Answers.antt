use Rattle.folder_logs.proofs.Names.{stripped}
use Rattle.folder_logs.proofs.records.behind.Goals as goal

pub returns : goal.returns
returns c = record { rest = stripped c.args.bytes.now c.args.name.now c.strip_prefix.result c.strip_prefix.ensures.cases }
