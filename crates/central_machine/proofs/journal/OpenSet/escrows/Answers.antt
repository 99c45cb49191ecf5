use Rattle.std.proofs.Common.{◌≡◌, true, false, ltb, length, refl, rules, ◌∙◌}
use Rattle.central_machine.proofs.Rows.{looked, found}
use Rattle.central_machine.proofs.journal.OpenSet.escrows.Goals as goal

pub returns-in-Some-clause-there : goal.returns-in-Some-clause-there
returns-in-Some-clause-there c =
    let rows = c.args.self.now.rows.items in
    let look = c.in-Some.ensures.lookup in
    looked rows c.deref.result.now rows c.args.txn c.deref.ensures.value refl c.place-at.result c.place-at.ensures.value true look.0

pub returns-in-Some-clause-value : goal.returns-in-Some-clause-value
returns-in-Some-clause-value c =
    let rows = c.args.self.now.rows.items in
    let look = c.in-Some.ensures.lookup in
    c.deref-in-Some.ensures.value
    ∙ found rows c.deref.result.now rows c.args.txn c.deref.ensures.value refl c.place-at.result c.place-at.ensures.value
    c.in-Some.row.now look.0 look.1

pub returns-in-None-clause-there : goal.returns-in-None-clause-there
returns-in-None-clause-there c =
    let rows = c.args.self.now.rows.items in
    let past : false ≡ ltb c.place-at.result (length c.deref.result.now) = search rules in
    looked rows c.deref.result.now rows c.args.txn c.deref.ensures.value refl c.place-at.result c.place-at.ensures.value false past
