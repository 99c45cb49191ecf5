use Rattle.std.proofs.Common.{subst, ◌∙◌}
use Rattle.field_bounds.specs.Schema.{SchemaValue}
use Rattle.field_bounds.specs.Limits.{IsSchema}
use Rattle.site_step.proofs.Fronts.{none_gone}
use Rattle.site_step.proofs.Opens.{none_behind, opens_sound, opens_tells, opens_finds}
use Rattle.site_step.proofs.site.Site.open_over.Goals as goal

pub invariant_of-result : goal.invariant_of-result
invariant_of-result g c =
    let found = c.in-Ok.field-0 in
    let limits = subst (λ (x : SchemaValue). IsSchema x) c.schema.view_is c.schema.invariant in
    let begins = c.requires.1.1.1 in
    let is = c.in-Ok.ensures.found in
    opens_sound c.args.schema c.args.site g.past found is c.in-Ok.ensures.bytes begins.each (begins.begins _ _ is.log) c.requires.1.1.0
    limits _ _ found.fresh c.told.ensures c.told-in-Ok.ensures (c.of.ensures.items ∙ c.new.ensures.items) c.new-in-Ok.ensures.empty
    (λ e. none_gone begins.begins (c.in-Ok.ensures.fresh e))

pub returns-in-Ok-clause-ok : goal.returns-in-Ok-clause-ok
returns-in-Ok-clause-ok g c =
    let found = c.in-Ok.field-0 in
    let begins = c.requires.1.1.1 in
    let is = c.in-Ok.ensures.found in
    opens_tells c.args.schema c.args.site g.past found is c.in-Ok.ensures.bytes begins.each (begins.begins _ _ is.log) _ _ _ found.fresh
    c.in-Ok.ensures.count c.told.ensures c.told-in-Ok.ensures (c.of.ensures.items ∙ c.new.ensures.items)
    (λ e. none_gone begins.begins (c.in-Ok.ensures.fresh e))
    (λ none. c.in-Ok.ensures.empty (none_behind _ _ none))

pub returns-in-Ok-clause-nothing : goal.returns-in-Ok-clause-nothing
returns-in-Ok-clause-nothing g c = λ empty.
    let found = c.in-Ok.field-0 in
    let limits = subst (λ (x : SchemaValue). IsSchema x) c.schema.view_is c.schema.invariant in
    let begins = c.requires.1.1.1 in
    let is = c.in-Ok.ensures.found in
    opens_finds c.args.schema c.args.site g.past found is c.in-Ok.ensures.bytes begins.each (begins.begins _ _ is.log) c.requires.1.1.0
    limits _ _ found.fresh c.told.ensures c.told-in-Ok.ensures (c.of.ensures.items ∙ c.new.ensures.items) empty
