use Rattle.std.proofs.Common.{rules}
use Rattle.std.specs.Prelude.{◌≤◌, unsigned_abs, OnOk}
use Rattle.field_bounds.specs.Kind.{kind_of}
use Rattle.reaching_steps.specs.FieldHoldings.{Grows}
use Rattle.reaching_steps.proofs.Growing.{on_ok}
use Rattle.reaching_steps.proofs.Standings.{notes_begin, notes_grant, notes_elsewhere, notes_abort, notes_give, notes_accept, notes_stop}
use Rattle.reaching_steps.proofs.standing.note.Goals as goal

pub returns-in_ok-push-in-Begins : goal.returns-in_ok-push-in-Begins
returns-in_ok-push-in-Begins c = record {
  noted = rw c.in-Begins.is
      (notes_begin c.args.field.0 c.args.standing.now c.push.new.self c.in-Begins.txn c.in_ok-push-in-Begins.ensures.items);
}

pub returns-then-at-field : goal.returns-then-at-field
returns-then-at-field c = record {
  noted = rw c.in-Grants.is
      (notes_elsewhere c.args.field.0 c.args.standing.now c.in-Grants.txn c.in-Grants.at c.in-Grants.change c.if-at-field.true);
}

pub returns-else-at-field : goal.returns-else-at-field
returns-else-at-field c =
    let f = c.args.field.0 in
    let had = c.args.standing.now in
    let i = c.in-Grants in
    let more = c.grant.new.held in
    let small : unsigned_abs i.change ≤ 9223372036854775808 = search rules in
    let grows : OnOk c.grant.result (Grows i.txn (kind_of i.change) (unsigned_abs i.change) had.held.items more.items) = search rules in
    record {
      noted = rw i.is (on_ok c.grant.result _ _
          (λ grows. notes_grant f had more i.txn i.at i.change c.if-at-field.false small grows)
          grows);
    }

pub returns-in-Commits : goal.returns-in-Commits
returns-in-Commits c = record { noted = rw c.in-Commits.is (c.commit.ensures.noted c.args.field.0) }

pub returns-in-Aborts : goal.returns-in-Aborts
returns-in-Aborts c = record {
  noted = rw c.in-Aborts.is
      (notes_abort c.args.field.0 c.args.standing.now c.end.new.standing c.in-Aborts.txn c.end.ensures.ids c.end.ensures.held
      c.end.ensures.gifts c.end.ensures.sums.0 c.end.ensures.sums.1);
}

pub returns-in-Gives : goal.returns-in-Gives
returns-in-Gives c =
    let f = c.args.field.0 in
    let had = c.args.standing.now in
    let i = c.in-Gives in
    record {
      noted = rw i.is (on_ok c.push_on.result _ _
          (λ is. notes_give f had c.push_on.new.list i.to i.at i.kind i.amount is)
          c.push_on.ensures.pushed);
    }

pub returns-in-Accepts : goal.returns-in-Accepts
returns-in-Accepts c =
    let f = c.args.field.0 in
    let had = c.args.standing.now in
    let i = c.in-Accepts in
    record {
      noted = rw i.is (on_ok c.push_on-in-Accepts.result _ _
          (λ is. notes_accept f had c.push_on-in-Accepts.new.list i.from i.at i.kind i.total is)
          c.push_on-in-Accepts.ensures.pushed);
    }

pub returns-in-Stops : goal.returns-in-Stops
returns-in-Stops c = record {
  noted = rw c.in-Stops.is
      (notes_stop c.args.field.0 c.args.standing.now c.clear.new.self c.clear-in-Stops.new.self c.clear.ensures.items
      c.clear-in-Stops.ensures.items);
}
