use Rattle.std.proofs.Common.{◌∙◌, sym, ap}
use Rattle.std.specs.BTreeSet.{contains}
use Rattle.statement_set.proofs.Sets.{contains_told}
use Rattle.statement_set.specs.contracts.set.StatementKeyOrd.TheImpl as order
use Rattle.statement_set.specs.declared.set.StatementKey.{StatementKey}
use Rattle.statement_set.proofs.set.is_among.Goals as goal

pub returns : goal.returns
returns c =
    let both = contains_told c.args.rest.now c.args.statement in
    let is = c.contains.ensures ∙ ap (λ (key : StatementKey). contains (order.ghosts).cmp c.args.rest.now key) c.key_of.ensures in
    (λ yes. both.0 (sym is ∙ yes), λ has. is ∙ both.1 has)
