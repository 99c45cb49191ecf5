use Rattle.std.proofs.Common.{◌≤◌, length, refl, rules}
use Rattle.central_machine.proofs.Rows.{added_is, not_added}
use Rattle.central_machine.proofs.Apart.{same_apart}
use Rattle.central_machine.proofs.journal.OpenSet.add.Goals as goal

pub invariant_of-self : goal.invariant_of-self
invariant_of-self c =
    let j = c.args.self.now in
    record {
      apart = same_apart j.rising j.top j.rows.items c.place-at.result c.in-Some.row.now _ j.apart c.in-Some.ensures.item.1 refl;
    }

pub returns-in_ok-push-in-Some : goal.returns-in_ok-push-in-Some
returns-in_ok-push-in-Some c =
    let rows = c.args.self.now.rows.items in
    let item = c.in-Some.ensures.item in
    added_is rows rows rows c.args.txn refl refl c.place-at.result c.place-at.ensures.value c.args.escrow c.in-Some.row.now _ item.0 item.1
    refl c.in_ok-push-in-Some.ensures.items

pub returns-in-None : goal.returns-in-None
returns-in-None c =
    let rows = c.args.self.now.rows.items in
    let past : length rows ≤ c.place-at.result = search rules in
    not_added rows rows rows c.args.txn refl refl c.place-at.result c.place-at.ensures.value c.args.escrow past
