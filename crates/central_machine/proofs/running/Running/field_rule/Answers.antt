use Rattle.std.proofs.Common.{◌∙◌, ap, Bool, cond, None}
use Rattle.std.proofs.lemmas.Bool.{lt-ltb}
use Rattle.central_rules.specs.Verdict.{first_broken}
use Rattle.central_machine.specs.Parts.{field_tests}
use Rattle.central_machine.proofs.running.Running.field_rule.Goals as goal

pub returns : goal.returns
returns c = λ t are.
    let schema = c.args.schema.now in
    let e = c.args.entry.now in
    c.field_broken.ensures t are.totals
    ∙ ap (λ (b : Bool). cond b (first_broken (field_tests schema t e)) None) (lt-ltb e.site.0 schema.sites c.requires.site_in)
