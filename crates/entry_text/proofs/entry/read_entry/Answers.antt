use Rattle.std.proofs.Common.{◌≡◌, subst}
use Rattle.field_bounds.specs.Schema.{SchemaValue}
use Rattle.entry_text.specs.Spelling.{entry_text}
use Rattle.entry_text.proofs.Entries.{entry_says, entry_spelled}
use Rattle.entry_text.proofs.entry.read_entry.Goals as goal

pub returns-in-Some : goal.returns-in-Some
returns-in-Some c =
    entry_says c.args.schema.now c.new.ensures.limits c.args.line.now _
    (entry_spelled c.args.schema.now c.new.ensures.limits c.args.line.now c.in-Some.entry c.in-Some.ensures.fits
    (subst (λ (schema : SchemaValue). c.args.line.now ≡ entry_text schema c.in-Some.entry) c.new.ensures.schema c.in-Some.ensures.text))

pub returns : goal.returns
returns c = entry_says c.args.schema.now c.new.ensures.limits c.args.line.now c.cut_entry.result c.cut_entry.ensures
