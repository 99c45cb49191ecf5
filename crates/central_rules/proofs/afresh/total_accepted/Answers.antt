use Rattle.std.proofs.Common.{List, sym, ap, ◌∙◌, arith}
use Rattle.field_bounds.specs.declared.effect.Effect.{Effect}
use Rattle.field_bounds.specs.Effects.{total_accepted, fresh}
use Rattle.central_rules.proofs.Fronts.{front_more}
use Rattle.central_rules.proofs.afresh.total_accepted.Goals as goal

pub loop-effect-preserved : goal.loop-effect-preserved
loop-effect-preserved c = λ schema site.
    c.accepted_after-total.ensures (fresh schema site) _ (c.loop-effect.invariant schema site)
    ∙ sym (ap (λ (x : List Effect). total_accepted (fresh schema site) c.args.from.0 c.args.field.0 c.args.kind x)
    (front_more c.args.effects.now c.loop-effect.effect-index _ (omega arith)))
