use Rattle.std.proofs.Common.{◌≡◌, ◌+◌, ◌<◌, List, length, sym, ap, subst, ◌∙◌, arith}
use Rattle.std.specs.Vec.{with_items}
use Rattle.std.proofs.Math.ListN.{length-set}
use Rattle.std.proofs.lemmas.List.{with_items_is}
use Rattle.gift_ledger.specs.declared.account.FieldAccounts.{FieldAccounts}
use Rattle.gift_ledger.specs.Ledger.{of_fields, put_in}
use Rattle.gift_ledger.proofs.Written.{length-of_fields, put_in-of_fields}
use Rattle.gift_ledger.proofs.accounts.Accounts.put.Goals as goal

pub returns : goal.returns
returns c =
    let first = c.self.inside.written.items in
    let n = c.self.inside.fields in
    let f = c.args.field.0 in
    let put : List FieldAccounts → List FieldAccounts = λ rows. put_in rows f c.args.kind c.args.account in
    let out : c.deref_mut.result.now ≡ of_fields (f + 1) first =
    c.deref_mut.ensures.value ∙ c.write_out.ensures.out ∙ ap (λ m. of_fields (m + 1) first) c.from.ensures in
    let in_fields : f < n = subst (λ m. f < m) (ap length (sym c.self.view_is) ∙ length-of_fields n first c.self.invariant.0)
    c.requires.field_in in
    let kept : (with_items c.write_out.new.written c.set.new.written).items ≡ c.set.new.written =
    with_items_is c.write_out.new.written c.set.new.written
    (ap length c.set.ensures.put ∙ length-set c.deref_mut.result.now f _ ∙ ap length c.deref_mut.ensures.value
    ∙ omega (arith, c.write_out.new.written.ok)) in
    record {
      put =
          ap (of_fields n) (kept ∙ c.set.ensures.put ∙ ap put out)
          ∙ put_in-of_fields n f first c.args.kind c.args.account c.self.invariant.0 in_fields
          ∙ ap put c.self.view_is;
    }
