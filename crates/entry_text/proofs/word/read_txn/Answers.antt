use Rattle.std.proofs.Common.{sym, ◌∙◌}
use Rattle.line_words.proofs.Numbers.{some_from}
use Rattle.line_words.proofs.Forms.{read_says}
use Rattle.entry_text.proofs.WordKinds.{id_read}
use Rattle.entry_text.proofs.word.read_txn.Goals as goal

pub returns-clause-found : goal.returns-clause-found
returns-clause-found c = (read_says id_read c.args.word.now c.txn_of.result c.txn_of.ensures).found

pub returns-clause-fits : goal.returns-clause-fits
returns-clause-fits c = some_from c.txn_of.result _ (λ t h. (id_read.takes c.args.word.now t (sym c.txn_of.ensures ∙ h)).0)

pub returns-clause-only : goal.returns-clause-only
returns-clause-only c = (read_says id_read c.args.word.now c.txn_of.result c.txn_of.ensures).only
