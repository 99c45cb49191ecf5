use Rattle.std.proofs.Common.{sym}
use Rattle.entry_text.proofs.FieldLemmas.{field_cut}
use Rattle.entry_text.proofs.front.field_by_word.Goals as goal

pub returns : goal.returns
returns c = field_cut c.args.fields.now c.requires c.args.bytes.now c.word_length-end.result c.in_ok-field.field (sym c.in_ok-field.ensures)
