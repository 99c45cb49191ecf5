use Rattle.std.proofs.Common.{◌≡◌, true, sym, ◌∙◌, ap, arith}
use Rattle.std.specs.Prelude.{Option}
use Rattle.field_bounds.specs.declared.entry.Statement.{Statement}
use Rattle.central_rules.specs.Verdict.{is_told_by}
use Rattle.central_rules.proofs.Fronts.{issued_found}
use Rattle.central_rules.proofs.plain.is_issued.Goals as goal

pub returns-then-is_same : goal.returns-then-is_same
returns-then-is_same c =
    let told : is_told_by c.args.statement c.statement_of.result ≡ true =
    ap (λ (o : Option Statement). is_told_by c.args.statement o) c.in-Some.is ∙ (sym c.is_same.ensures ∙ c.if-is_same.true) in
    sym (issued_found c.args.statement c.args.front.now c.loop-entry.entry-index _ (omega arith)
    (sym (ap (λ (o : Option Statement). is_told_by c.args.statement o) c.statement_of.ensures.value) ∙ told))
