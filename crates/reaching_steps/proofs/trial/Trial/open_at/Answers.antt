use Rattle.std.proofs.Common.{◌≤◌, List, length, reverse, ◌∙◌, sym, ap, rules}
use Rattle.field_bounds.specs.declared.id.TxnId.{TxnId}
use Rattle.reaching_steps.proofs.Table.{told_of}
use Rattle.reaching_steps.proofs.trial.Trial.open_at.Goals as goal

pub returns : goal.returns
returns c =
    let short : length c.trace-trace.result.now ≤ 18446744073709551615 = search rules in
    let told = told_of c.self.inside.field.0 c.self.inside.told.items c.trace-trace.result.now (sym c.self.view_is) c.self.invariant
    c.if-not-self.false c.requires.in_schema c.from.ensures c.index.ensures short c.trace-trace.ensures.world in
    record { value = ap (λ (l : List TxnId). reverse l) c.deref.ensures.value ∙ told.ids }
