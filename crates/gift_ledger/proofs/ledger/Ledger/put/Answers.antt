use Rattle.std.proofs.Common.{◌≡◌, List, [], get_or, set, sym, ap, subst, ◌∙◌}
use Rattle.std.proofs.lemmas.List.{get_or_default}
use Rattle.gift_ledger.specs.declared.account.FieldAccounts.{FieldAccounts}
use Rattle.gift_ledger.specs.Ledger.{put_in, LedgerValue, accounts_with, IsSlot, IsWithinTotal}
use Rattle.gift_ledger.proofs.LedgerLaws.{within-put_at}
use Rattle.gift_ledger.proofs.ledger.Ledger.put.Goals as goal

pub invariant_of-self : goal.invariant_of-self
invariant_of-self c =
    let rows = c.self.inside.sites.items in
    let s = c.args.site.0 in
    let was : LedgerValue = record { site = c.self.inside.site.0; rows = rows } in
    let place : IsSlot was s c.args.field.0 = subst (λ (l : LedgerValue). IsSlot l s c.args.field.0)
    (sym c.self.view_is) c.requires.place in
    let found : c.index_mut.result.now ≡ accounts_with rows s =
    c.index_mut.ensures.value ∙ ap (λ i. get_or rows i c.index_mut.result.now) c.from.ensures
    ∙ get_or_default rows s c.index_mut.result.now [] place.site_in in
    let made : c.put.new.self ≡ put_in (accounts_with rows s) c.args.field.0 c.args.kind c.args.account =
    c.put.ensures.put ∙ ap (λ (fields : List FieldAccounts). put_in fields c.args.field.0 c.args.kind c.args.account) found in
    let same : set rows c.from.result c.put.new.self
    ≡ set rows s (put_in (accounts_with rows s) c.args.field.0 c.args.kind c.args.account) =
    ap (λ i. set rows i c.put.new.self) c.from.ensures ∙ ap (λ (fields : List FieldAccounts). set rows s fields) made in
    subst IsWithinTotal (sym same) (within-put_at was s c.args.field.0 c.args.kind c.args.account place c.requires.within c.self.invariant)
