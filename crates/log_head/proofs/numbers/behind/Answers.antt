use Rattle.log_head.proofs.Told.{stripped}
use Rattle.log_head.proofs.numbers.behind.Goals as goal

pub returns : goal.returns
returns c = record { rest = stripped c.args.bytes.now c.args.word.now c.strip_prefix.result c.strip_prefix.ensures.cases }
