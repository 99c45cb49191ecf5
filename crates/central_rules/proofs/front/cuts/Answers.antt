use Rattle.std.proofs.Common.{◌≡◌, ap, arith, reverse, rules, List, ◌∙◌}
use Rattle.field_bounds.specs.declared.effect.Effect.{Effect}
use Rattle.field_bounds.specs.Effects.{cut, fresh}
use Rattle.field_bounds.specs.Central.{at_site}
use Rattle.central_rules.proofs.Across.{sum_more}
use Rattle.central_rules.proofs.front.cuts.Goals as goal

pub loop-site-preserved : goal.loop-site-preserved
loop-site-preserved c =
    let schema = c.args.schema.now in
    let t = reverse c.args.front.now in
    let f = c.args.field.0 in
    let k = c.args.kind in
    let s = c.loop-site.site in
    let here : c.cut-sum.result ≡ cut (fresh schema s) f k (at_site schema t s) =
    c.cut-sum.ensures.value schema s
    ∙ ap (λ (xs : List Effect). cut (fresh schema s) f k (reverse xs)) c.deref.ensures.value
    ∙ ap (λ (es : List Effect). cut (fresh schema s) f k es) c.in_ok-made.ensures.value in
    record {
      value = omega (arith, c.loop-site.invariant.value, here, sum_more s (λ s. cut (fresh schema s) f k (at_site schema t s)));
      small = search rules;
    }
