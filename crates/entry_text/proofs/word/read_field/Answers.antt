use Rattle.std.proofs.Common.{◌≡◌, ap, ◌∙◌}
use Rattle.entry_text.specs.Reading.{field_of}
use Rattle.line_words.proofs.Forms.{read_says}
use Rattle.entry_text.proofs.WordKinds.{field_read}
use Rattle.entry_text.proofs.word.read_field.Goals as goal

value : (c : goal.After-read) → c.read.result ≡ field_of c.args.schema.now c.args.word.now
value c = c.read.ensures ∙ ap (λ schema. field_of schema c.args.word.now) c.new.ensures.schema

pub returns-clause-found : goal.returns-clause-found
returns-clause-found c = (read_says (field_read c.args.schema.now c.new.ensures.limits) c.args.word.now _ (value c)).found

pub returns-clause-only : goal.returns-clause-only
returns-clause-only c = (read_says (field_read c.args.schema.now c.new.ensures.limits) c.args.word.now _ (value c)).only
