use Rattle.log_head.proofs.Told.{stripped}
use Rattle.folder_serving.proofs.serving.behind.Goals as goal

pub returns : goal.returns
returns c = record { rest = stripped c.args.bytes.now c.args.name.now c.strip_prefix.result c.strip_prefix.ensures.cases }
