use Rattle.std.proofs.Common.{◌≡◌, ◌≢◌, ℕ, List, [], ◌++◌, length, refl, arith, add-one}
use Rattle.rebalance.specs.EvenPlan.{even_plan, above, missing, sum_before, pair_moves}
use Rattle.rebalance.proofs.Stretches.{Progress, start, step_from, step_to, pair_added, plan_some}
use Rattle.rebalance.proofs.Division.{same_in_all, apart, above_read, missing_read, above_in, missing_in}
use Rattle.rebalance.proofs.Plans.{walked, reached, least, least_settling, plan_is, on_err, turn}
use Rattle.std.proofs.lemmas.Grind.{common_steps}
use Rattle.rebalance.proofs.even_plan.plan_even.Goals as goal

pub loop-from-init : goal.loop-from-init
unfolding sum_before
loop-from-init c = record {
  sites_are = refl;
  total_is = grind (arith, common_steps);
  from_in = omega arith;
  above_is = refl;
  missing_is = refl;
  progress = rw c.new-plan.ensures.items (start (above c.args.shares.now) (missing c.args.shares.now) (length c.args.shares.now)
      (same_in_all c.args.shares.now));
}

pub overflow_add-above_end : goal.overflow_add-above_end
overflow_add-above_end c =
    let xs : List ℕ = c.args.shares.now in
    let high : c.saturating_sub-above.result ≡ above xs c.loop-from.from =
    above_read xs c.sum-total.result c.loop-from.from c.target_of.result c.saturating_sub-above.result c.loop-from.invariant.total_is
    c.target_of.ensures c.saturating_sub-above.ensures in
    omega (arith, above_in xs c.loop-from.from c.loop-from-test.true)

pub overflow_add-missing_end : goal.overflow_add-missing_end
overflow_add-missing_end c =
    let xs : List ℕ = c.args.shares.now in
    let low : c.saturating_sub-missing.result ≡ missing xs c.loop-from.to =
    missing_read xs c.sum-total.result c.loop-from.to c.target_of-in-loop-from.result c.saturating_sub-missing.result
    c.loop-from.invariant.total_is c.target_of-in-loop-from.ensures c.saturating_sub-missing.ensures in
    omega (arith, missing_in xs c.loop-from.to (c.loop-from.invariant.progress.to_left c.loop-from-test.true))

pub returns-in_err-add_move-clause-err : goal.returns-in_err-add_move-clause-err
unfolding even_plan
returns-in_err-add_move-clause-err c =
    let xs : List ℕ = c.args.shares.now in
    let i : ℕ = c.loop-from.from in
    let j : ℕ = c.loop-from.to in
    let so : Progress (above xs) (missing xs) (length xs) i j c.loop-from.plan.items = c.loop-from.invariant.progress in
    let here = turn xs c.sum-total.result i j c.target_of.result c.target_of-in-loop-from.result
    c.saturating_sub-above.result c.saturating_sub-missing.result c.loop-from.above_before c.loop-from.missing_before c.max-start.result
    c.min-end.result
    c.loop-from.invariant.total_is c.loop-from.invariant.above_is c.loop-from.invariant.missing_is c.target_of.ensures
    c.saturating_sub-above.ensures
    c.target_of-in-loop-from.ensures c.saturating_sub-missing.ensures c.max-start.ensures c.min-end.ensures in
    on_err c.from_residual.result (even_plan xs ≢ [])
    (plan_some (above xs) (missing xs) (length xs) i j c.max-start.result c.min-end.result here.first_is here.last_is
    c.in_err-add_move.ensures.err
    c.loop-from-test.true (so.to_left c.loop-from-test.true))

pub loop-from-preserved-then-above_end-missing_end :
    goal.loop-from-preserved-then-above_end-missing_end
loop-from-preserved-then-above_end-missing_end c =
    let xs : List ℕ = c.args.shares.now in
    let i : ℕ = c.loop-from.from in
    let j : ℕ = c.loop-from.to in
    let so : Progress (above xs) (missing xs) (length xs) i j c.loop-from.plan.items = c.loop-from.invariant.progress in
    let here = turn xs c.sum-total.result i j c.target_of.result c.target_of-in-loop-from.result
    c.saturating_sub-above.result c.saturating_sub-missing.result c.loop-from.above_before c.loop-from.missing_before c.max-start.result
    c.min-end.result
    c.loop-from.invariant.total_is c.loop-from.invariant.above_is c.loop-from.invariant.missing_is c.target_of.ensures
    c.saturating_sub-above.ensures
    c.target_of-in-loop-from.ensures c.saturating_sub-missing.ensures c.max-start.ensures c.min-end.ensures in
    let plan : c.add_move.new.plan.items ≡ c.loop-from.plan.items ++ pair_moves (above xs) (missing xs) i j =
    pair_added (above xs) (missing xs) i j c.max-start.result c.min-end.result c.loop-from.plan.items c.add_move.new.plan.items
    here.first_is here.last_is c.in_ok-add_move.ensures.some c.in_ok-add_move.ensures.none in
    record {
      sites_are = refl;
      total_is = c.loop-from.invariant.total_is;
      from_in = omega arith;
      above_is = rw add-one here.above_end_is;
      missing_is = c.loop-from.invariant.missing_is;
      progress = rw (plan, add-one) (step_from (above xs) (missing xs) (length xs) i j c.loop-from.plan.items so
          (apart xs) c.loop-from-test.true
          (omega (arith, here.above_end_is, here.missing_end_is)));
    }

pub loop-from-preserved : goal.loop-from-preserved
loop-from-preserved c =
    let xs : List ℕ = c.args.shares.now in
    let i : ℕ = c.loop-from.from in
    let j : ℕ = c.loop-from.to in
    let so : Progress (above xs) (missing xs) (length xs) i j c.loop-from.plan.items = c.loop-from.invariant.progress in
    let here = turn xs c.sum-total.result i j c.target_of.result c.target_of-in-loop-from.result
    c.saturating_sub-above.result c.saturating_sub-missing.result c.loop-from.above_before c.loop-from.missing_before c.max-start.result
    c.min-end.result
    c.loop-from.invariant.total_is c.loop-from.invariant.above_is c.loop-from.invariant.missing_is c.target_of.ensures
    c.saturating_sub-above.ensures
    c.target_of-in-loop-from.ensures c.saturating_sub-missing.ensures c.max-start.ensures c.min-end.ensures in
    let plan : c.add_move.new.plan.items ≡ c.loop-from.plan.items ++ pair_moves (above xs) (missing xs) i j =
    pair_added (above xs) (missing xs) i j c.max-start.result c.min-end.result c.loop-from.plan.items c.add_move.new.plan.items
    here.first_is here.last_is c.in_ok-add_move.ensures.some c.in_ok-add_move.ensures.none in
    record {
      sites_are = refl;
      total_is = c.loop-from.invariant.total_is;
      from_in = c.loop-from.invariant.from_in;
      above_is = c.loop-from.invariant.above_is;
      missing_is = rw add-one here.missing_end_is;
      progress = rw (plan, add-one) (step_to (above xs) (missing xs) (length xs) i j c.loop-from.plan.items so (apart xs)
          (same_in_all xs) c.loop-from-test.true
          (omega (arith, here.above_end_is, here.missing_end_is)));
    }

pub returns-clause-plan : goal.returns-clause-plan
returns-clause-plan c = plan_is c.args.shares.now c.loop-from.plan.items
    (walked c.args.shares.now c.loop-from.from c.loop-from.to c.loop-from.plan.items (omega arith) c.loop-from.invariant.progress)

pub returns-clause-reached : goal.returns-clause-reached
returns-clause-reached c = reached c.args.shares.now c.loop-from.plan.items
    (walked c.args.shares.now c.loop-from.from c.loop-from.to c.loop-from.plan.items (omega arith) c.loop-from.invariant.progress)

pub returns-clause-gifts : goal.returns-clause-gifts
returns-clause-gifts c = c.loop-from.invariant.progress.gifts

pub returns-clause-few : goal.returns-clause-few
returns-clause-few c =
    let done = walked c.args.shares.now c.loop-from.from c.loop-from.to c.loop-from.plan.items
    (omega arith) c.loop-from.invariant.progress in
    λ h. omega (arith, done.few h)

pub returns-clause-least : goal.returns-clause-least
returns-clause-least c = least c.args.shares.now c.loop-from.plan.items
    (walked c.args.shares.now c.loop-from.from c.loop-from.to c.loop-from.plan.items (omega arith) c.loop-from.invariant.progress)

pub returns-clause-least_settling : goal.returns-clause-least_settling
returns-clause-least_settling c = least_settling c.args.shares.now c.loop-from.plan.items
    (walked c.args.shares.now c.loop-from.from c.loop-from.to c.loop-from.plan.items (omega arith) c.loop-from.invariant.progress)
