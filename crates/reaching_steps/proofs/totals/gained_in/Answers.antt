use Rattle.std.proofs.Common.{◌∙◌, ℕ, arith}
use Rattle.field_bounds.specs.Effects.{fresh, total_accepted}
use Rattle.reaching_steps.proofs.Walking.{sum_next, sum_whole}
use Rattle.reaching_steps.proofs.totals.gained_in.Goals as goal

pub loop-from-preserved : goal.loop-from-preserved
loop-from-preserved c =
    let l = c.loop-from in (
      λ schema s. sum_next (λ (from : ℕ). total_accepted (fresh schema s) from c.args.field.0 c.args.kind c.args.told.now) l.from l.all
          c.from-all.result (l.invariant.0 schema s) (c.from-all.ensures ∙ c.accepted_in.ensures.value schema s),
      omega (arith, l.invariant.1, c.from-all.ensures, c.accepted_in.type_inv),
    )

pub returns-clause-value : goal.returns-clause-value
returns-clause-value c =
    λ schema s. sum_whole (λ (from : ℕ). total_accepted (fresh schema s) from c.args.field.0 c.args.kind c.args.told.now) c.loop-from.from
    c.args.sites c.loop-from.all c.loop-from.auto.from-end c.loop-from-test.false (c.loop-from.invariant.0 schema s)
