use Rattle.std.proofs.Common.{◌≡◌, arith, reverse, ap, sym, List, ◌∙◌}
use Rattle.field_bounds.specs.declared.effect.Effect.{Effect}
use Rattle.field_bounds.specs.Effects.{Base, fresh, share, held_rights}
use Rattle.field_bounds.specs.Owed.{Place, free}
use Rattle.central_rules.specs.Here.{Seen, here}
use Rattle.central_rules.proofs.here.HereAtPlace.own_rights.Goals as goal

pub returns-clause-value : goal.returns-clause-value
returns-clause-value c = λ at is inside.
    let base : Base = fresh c.self.inside.schema.now c.self.inside.site.0 in
    let f = c.args.field.0 in
    let k = c.args.kind in
    let share : c.share.result ≡ free at c.args.field k =
    c.share.ensures.value
    ∙ ap (λ (xs : List Effect). share base f k (reverse xs)) c.deref.ensures.value
    ∙ ap (λ (es : List Effect). share base f k es) c.self.invariant.made
    ∙ ap (λ (v : Seen). free (here v) c.args.field k) c.self.view_is
    ∙ ap (λ (p : Place). free p c.args.field k) (sym is) in
    let held_rights : c.granted_sizes.result ≡ held_rights f k at.effects =
    c.granted_sizes.ensures.value
    ∙ ap (λ (xs : List Effect). held_rights f k (reverse xs)) c.deref-2.ensures.value
    ∙ ap (λ (es : List Effect). held_rights f k es) c.self.invariant.made
    ∙ ap (λ (v : Seen). held_rights f k (here v).effects) c.self.view_is
    ∙ ap (λ (p : Place). held_rights f k p.effects) (sym is) in
    omega (arith, share, held_rights)
