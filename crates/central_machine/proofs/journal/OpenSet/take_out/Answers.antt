use Rattle.std.proofs.Common.{◌≡◌, true, false, ltb, length, sym, refl, rules, subst}
use Rattle.std.proofs.lemmas.Fn.{filter_same}
use Rattle.central_machine.specs.declared.journal.OpenSet.{OpenSet}
use Rattle.central_machine.specs.Open.{has_row, IsClosed}
use Rattle.central_machine.proofs.Rows.{none_at, found}
use Rattle.central_machine.proofs.Apart.{no_row, closed_none, closed_alone, closed_all, fewer_apart}
use Rattle.central_machine.proofs.journal.OpenSet.take_out.Goals as goal
use Rattle.central_machine.proofs.journal.OpenSet.take_out.Goals.{then-not-self, else-not-self}

none : (c : goal.Then-at-len) → has_row c.args.txn c.args.self.now.rows.items ≡ false
none c = no_row c.args.txn c.args.self.now.rows.items (search rules)

pub returns-then-at-len-clause-rows : goal.returns-then-at-len-clause-rows
returns-then-at-len-clause-rows c = closed_none c.args.txn c.args.self.now.rows.items (none c)

pub returns-then-at-len-clause-none : goal.returns-then-at-len-clause-none
returns-then-at-len-clause-none c = none_at c.args.txn c.args.self.now.rows.items (none c)

pub invariant_of-self-else-not-self : goal.invariant_of-self-else-not-self
invariant_of-self-else-not-self c =
    let j = c.args.self.now in
    record {
      apart = fewer_apart j.rising j.top j.rows.items c.remove-escrows.new.self.items c.place-at.result j.apart c.remove-escrows.ensures.items;
    }

pub returns-clause-rows : goal.returns-clause-rows
returns-clause-rows c =
    let j = c.args.self.now in
    let at = c.place-at.ensures.value in
    let fewer = c.remove-escrows.ensures.items in
    elim c.if-not-self.branch [
      | then-not-self w ↦
          let left = filter_same _ _ _ (λ x b f' k. search rules) _ _ w.retain.ensures.filtered in
          subst (λ (after : OpenSet). IsClosed j.rows.items after.rows.items c.args.txn) (sym w.self-is)
          (closed_all c.args.txn j.rows.items c.remove-escrows.new.self.items w.retain.new.self.items c.place-at.result at fewer left)
      | else-not-self w ↦
          subst (λ (after : OpenSet). IsClosed j.rows.items after.rows.items c.args.txn) (sym w.self-is)
          (closed_alone j.rising j.top c.args.txn j.rows.items c.remove-escrows.new.self.items c.place-at.result j.apart
          w.if-not-self.false at fewer)
    ]

pub returns-clause-value : goal.returns-clause-value
returns-clause-value c =
    let rows = c.args.self.now.rows.items in
    let below : true ≡ ltb c.place-at.result (length rows) = search rules in
    found rows rows rows c.args.txn refl refl c.place-at.result c.place-at.ensures.value c.remove-escrows.result below
    c.remove-escrows.ensures.value
