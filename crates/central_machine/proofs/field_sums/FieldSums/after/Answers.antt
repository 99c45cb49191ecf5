use Rattle.std.proofs.Common.{subst, sym, List, Option}
use Rattle.field_bounds.specs.declared.effect.Effect.{Effect}
use Rattle.field_bounds.specs.declared.entry.Reply.{Reply}
use Rattle.central_machine.specs.declared.journal.OpenRow.{OpenRow}
use Rattle.central_machine.specs.Open.{all_escrows}
use Rattle.central_machine.specs.Sums.{SettlesDoubt, Closes, SumsAfter}
use Rattle.central_machine.proofs.field_sums.FieldSums.after.Goals as goal

pub returns-in-Restarted : goal.returns-in-Restarted
returns-in-Restarted c =
    let rows = c.args.journal.now.rows.items in
    let first = subst (λ (d : Option Effect). SettlesDoubt d rows c.args.self.now c.settle.new.self)
    c.settled.ensures c.settle.ensures in
    let then = subst (λ (rs : List OpenRow). Closes c.settle.new.self c.close_all.new.self (all_escrows rs))
    c.deref.ensures.value c.close_all.ensures in
    subst (λ (r : Reply). SumsAfter c.args.effect r c.args.doubt rows c.args.self.now c.close_all.new.self)
    (sym c.in-Restarted.is) (c.settle.new.self, first, then)
