use Rattle.std.proofs.Common.{◌≤◌, ℕ, ◌==◌, ◌&&◌, Bool, true, false, cond, get_or, arith}
use Rattle.std.proofs.lemmas.List.Sums.{sum_by_more}
use Rattle.field_bounds.specs.declared.kind.Kind.{Kind}
use Rattle.field_bounds.specs.Kind.{same_kind}
use Rattle.kept_records.specs.declared.total.Total.{Total}
use Rattle.kept_records.specs.Text.{IsListed}
use Rattle.log_replay.proofs.FromSummary.{no_total, each_at}
use Rattle.log_bases.specs.Numbers.{on_field}
use Rattle.log_bases.proofs.balance.sum_on.Goals as goal

one_few : (f : ℕ) (k : Kind) (t : Total) → IsListed t → on_field f k t ≤ 1_000_000_000_000_000_000
one_few f k t is = by ((t.field.0 == f) && same_kind t.kind k)
  where
    by : (b : Bool) → cond b t.total 0 ≤ 1_000_000_000_000_000_000
    by true = is.2.1
    by false = omega arith

pub loop-told-preserved : goal.loop-told-preserved
loop-told-preserved c =
    let ts = c.args.totals.now in
    let i = c.loop-told.told-index in
    let f = c.args.field.0 in
    let k = c.args.kind in
    let below = c.loop-told-test.true in
    let few = one_few f k (get_or ts i no_total) (each_at IsListed ts i no_total below c.requires.in_range) in
    record {
      so_far = omega (arith, c.loop-told.invariant.so_far, sum_by_more (on_field f k) ts i no_total below, c.from-sum.ensures, c.total_on.ensures.value);
      few = omega (arith, c.loop-told.invariant.few, c.from-sum.ensures, c.total_on.ensures.value, few);
    }

pub overflow_add-sum : goal.overflow_add-sum
overflow_add-sum c = omega (arith, c.loop-told.invariant.few, c.from-sum.ensures, c.total_on.type_inv)
