use Rattle.std.proofs.Common.{reverse, ap, sym, List, ◌∙◌}
use Rattle.field_bounds.specs.declared.effect.Effect.{Effect}
use Rattle.field_bounds.specs.Effects.{Base, fresh, cut}
use Rattle.field_bounds.specs.Owed.{Place, cut_so_far}
use Rattle.central_rules.specs.Here.{Seen, here}
use Rattle.central_rules.proofs.here.HereAtPlace.cut.Goals as goal

pub returns-clause-value : goal.returns-clause-value
returns-clause-value c = λ at is inside.
    let base : Base = fresh c.self.inside.schema.now c.self.inside.site.0 in
    c.cut.ensures.value c.self.inside.schema.now c.self.inside.site.0
    ∙ ap (λ (xs : List Effect). cut base c.args.field.0 c.args.kind (reverse xs)) c.deref.ensures.value
    ∙ ap (λ (es : List Effect). cut base c.args.field.0 c.args.kind es) c.self.invariant.made
    ∙ ap (λ (v : Seen). cut_so_far (here v) c.args.field c.args.kind) c.self.view_is
    ∙ ap (λ (p : Place). cut_so_far p c.args.field c.args.kind) (sym is)
