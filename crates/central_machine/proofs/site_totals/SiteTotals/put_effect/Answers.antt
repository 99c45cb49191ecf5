use Rattle.std.proofs.Common.{subst, sym, Option}
use Rattle.field_bounds.specs.declared.effect.Effect.{Effect}
use Rattle.field_bounds.specs.declared.entry.Reply.{Reply}
use Rattle.central_machine.specs.Running.{MayTake, NumbersAfter}
use Rattle.central_machine.proofs.site_totals.SiteTotals.put_effect.Goals as goal

pub returns-in_ok-may_take-in-Restarted-2-clause-numbers : goal.returns-in_ok-may_take-in-Restarted-2-clause-numbers
returns-in_ok-may_take-in-Restarted-2-clause-numbers c =
    let n = c.args.self.now.numbers in
    let first = subst (λ (d : Option Effect). MayTake d n c.may_take.new.self) c.settled.ensures c.in_ok-may_take-in-Restarted.ensures in
    subst (λ (r : Reply). NumbersAfter c.args.effect r c.args.self.now.doubt n c.may_take-in-Restarted.new.self) (sym c.in-Restarted.is)
    (c.may_take.new.self, first, c.in_ok-may_take-in-Restarted-2.ensures)
