use Rattle.std.proofs.Common.{sym, ◌∙◌}
use Rattle.site_service.proofs.Rising.{late_told, search_told}
use Rattle.site_service.proofs.txn_set.TxnSet.contains.Goals as goal

pub returns-then-contains : goal.returns-then-contains
returns-then-contains c =
    rw (← c.self.view_is) (record {
      value = (
        λ yes. late_told c.self.inside.rising.items c.self.inside.late c.args.txn.now (sym c.contains.ensures ∙ yes),
        λ has. c.if-contains.true,
      );
    })

pub returns-else-contains : goal.returns-else-contains
returns-else-contains c =
    let told = search_told c.self.inside.rising.items c.self.inside.late c.args.txn.now c.binary_search.result c.self.invariant
    (sym c.contains.ensures ∙ c.if-contains.false) (rw (← c.deref.ensures.value) c.binary_search.ensures.bound)
    (rw (← c.deref.ensures.value) c.binary_search.ensures.position) in
    rw (← c.self.view_is, c.is_ok.ensures.value) (record { value = told })
