use Rattle.entry_text.proofs.Taken.{named_says}
use Rattle.entry_text.proofs.word.named.Goals as goal

pub returns : goal.returns
returns c = named_says c.take_text.result c.args.line.now c.take_text.new.self _ c.args.text.now c.requires c.take_text.ensures.taken
