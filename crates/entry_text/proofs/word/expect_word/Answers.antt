use Rattle.entry_text.proofs.Taken.{asked_none, asked_some}
use Rattle.entry_text.proofs.word.expect_word.Goals as goal

pub returns-then-named : goal.returns-then-named
returns-then-named c = asked_some c.args.text.now c.args.line.now c.named.new.line c.if-named.ensures

pub returns-else-named : goal.returns-else-named
returns-else-named c = asked_none c.args.text.now c.args.line.now c.if-named.ensures.1
