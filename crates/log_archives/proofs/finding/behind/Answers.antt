use Rattle.folder_logs.proofs.Names.{stripped}
use Rattle.log_archives.proofs.finding.behind.Goals as goal

pub returns : goal.returns
returns c = record { rest = stripped c.args.bytes.now c.args.line.now c.strip_prefix.result c.strip_prefix.ensures.cases }
