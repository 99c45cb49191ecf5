use Rattle.std.proofs.Common.{sym}
use Rattle.entry_text.proofs.FieldLemmas.{text_cut}
use Rattle.entry_text.proofs.front.behind_name.Goals as goal

pub returns : goal.returns
returns c = text_cut c.args.bytes.now c.args.name.now (sym c.if-not-is_text.ensures)
