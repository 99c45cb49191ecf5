use Rattle.std.proofs.Common.{rules, ◌≡◌, ap, ◌∙◌}
use Rattle.entry_text.specs.Reading.{field_named, field_of}
use Rattle.entry_text.proofs.FieldLemmas.{named_is, plain_field}
use Rattle.entry_text.proofs.word.Fields.read.Goals as goal

pub returns-in_default : goal.returns-in_default
unfolding field_of
returns-in_default c =
    let by_name : c.field_no_of.result ≡ field_named c.args.self.now c.args.word.now =
    named_is c.self.inside.schema.now c.args.word.now c.field_no_of.result c.field_no_of.ensures.place
    ∙ ap (λ schema. field_named schema c.args.word.now) c.self.view_is in
    search (rules, by_name, plain_field)
