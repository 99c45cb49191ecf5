use Rattle.std.proofs.Common.{◌≡◌, ◌-◌, ◌<◌, length, get_or, sym, ◌∙◌, arith}
use Rattle.field_bounds.specs.declared.id.TxnId.{TxnId}
use Rattle.site_service.proofs.Rising.{lt_before, before_lt, one_behind, behind_last}
use Rattle.site_service.proofs.txn_set.rises_behind.Goals as goal

pub returns-in-Some : goal.returns-in-Some
returns-in-Some c =
    let rising = c.args.rising.now in
    let some : 0 < length rising = omega (arith, c.in-Some.ensures.item.3.0) in
    let is_last : (d : TxnId) → get_or rising (length rising - 1) d ≡ c.in-Some.last.now = λ d. sym (c.in-Some.ensures.item.3.1 d) in
    record {
      value = (
        λ yes. one_behind rising c.in-Some.last.now c.args.txn some is_last c.requires.rising (lt_before _ _ (sym c.lt.ensures ∙ yes)),
        λ rises. c.lt.ensures ∙ before_lt _ _ (behind_last rising c.in-Some.last.now c.args.txn some is_last rises),
      );
    }
