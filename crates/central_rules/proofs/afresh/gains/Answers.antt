use Rattle.std.proofs.Common.{List, arith, rules}
use Rattle.field_bounds.specs.declared.effect.Effect.{Effect}
use Rattle.field_bounds.specs.Effects.{gains, fresh}
use Rattle.central_rules.proofs.Fronts.{sum_more}
use Rattle.central_rules.proofs.afresh.gains.Goals as goal

pub loop-i-preserved : goal.loop-i-preserved
loop-i-preserved c = record {
  value = λ schema site.
      sum_more (λ (es : List Effect). gains (fresh schema site) c.args.field.0 c.args.kind es) c.args.effects.now c.loop-i.i _ (omega arith)
      c.gain.result c.from-sum.result c.loop-i.sum (c.gain.ensures schema site) c.from-sum.ensures (c.loop-i.invariant.value schema site);
  small = search rules;
}
