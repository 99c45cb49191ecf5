use Rattle.std.proofs.Common.{sym, ◌∙◌, rules}
use Rattle.std.proofs.Math.Facts.{to_z-of_z}
use Rattle.reaching_steps.proofs.Growing.{planned_all, planned_none}
use Rattle.reaching_steps.proofs.Fronts.{took_none, front_of_aborts, front_of_passing, front_of_moves}
use Rattle.reaching_steps.proofs.steps.plan.Goals as goal

pub returns : goal.returns
returns c =
    let same = to_z-of_z c.ranges.target in
    let last = rw same at c.in_ok-move_all.ensures.grew in
    let there = rw same at c.in_ok-there.ensures.value in
    record {
      reached = planned_all c.args.named.0 c.args.field.0 c.args.target c.args.sites c.requires.all c.new-taken.ensures.items
          (sym there ∙ c.if-there.false) c.in_ok-abort_all.ensures.grew c.in_ok-pass_all.ensures.grew last;
      front = tt;
    }

pub returns-then-there : goal.returns-then-there
returns-then-there c =
    let there = rw (to_z-of_z c.ranges.target) at c.in_ok-there.ensures.value in
    record {
      reached = planned_none c.args.trial.now c.new-taken.result.items c.args.named c.args.field c.args.target c.new-taken.ensures.items
          (sym there ∙ c.if-there.true);
      front = tt;
    }

pub returns-in_err-there-clause-front : goal.returns-in_err-there-clause-front
returns-in_err-there-clause-front c = search (rules, took_none)

pub returns-in_err-abort_all-clause-front : goal.returns-in_err-abort_all-clause-front
returns-in_err-abort_all-clause-front c =
    let there = rw (to_z-of_z c.ranges.target) at c.in_ok-there.ensures.value in
    let t = front_of_aborts c.args.trial.now c.args.named.0 c.args.field.0 c.args.target c.args.sites c.requires.all
    (sym there ∙ c.if-there.false) c.in_err-abort_all.ensures.grew in
    search (rules, t)

pub returns-in_err-pass_all-clause-front : goal.returns-in_err-pass_all-clause-front
returns-in_err-pass_all-clause-front c =
    let there = rw (to_z-of_z c.ranges.target) at c.in_ok-there.ensures.value in
    let t = front_of_passing c.args.trial.now c.args.named.0 c.args.field.0 c.args.target c.args.sites c.requires.all
    (sym there ∙ c.if-there.false) c.in_ok-abort_all.ensures.grew c.in_err-pass_all.ensures.grew in
    search (rules, t)

pub returns-in_err-move_all-clause-front : goal.returns-in_err-move_all-clause-front
returns-in_err-move_all-clause-front c =
    let same = to_z-of_z c.ranges.target in
    let there = rw same at c.in_ok-there.ensures.value in
    let last = rw same at c.in_err-move_all.ensures.grew in
    let t = front_of_moves c.args.trial.now c.args.named.0 c.args.field.0 c.args.target c.args.sites c.requires.all
    (sym there ∙ c.if-there.false) c.in_ok-abort_all.ensures.grew c.in_ok-pass_all.ensures.grew last in
    search (rules, t)
