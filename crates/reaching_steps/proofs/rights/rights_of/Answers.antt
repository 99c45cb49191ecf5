use Rattle.std.proofs.Common.{◌≡◌, List, ◌+◌, ◌-◌, ◌∙◌, arith}
use Rattle.field_bounds.specs.Kind.{other}
use Rattle.field_bounds.specs.declared.effect.Effect.{Effect}
use Rattle.field_bounds.specs.Effects.{fresh}
use Rattle.field_bounds.specs.Lawful.{IsLawful}
use Rattle.reaching_steps.specs.FieldHoldings.{Tells}
use Rattle.reaching_steps.proofs.Owning.{rights_are, settled_fits}
use Rattle.reaching_steps.proofs.rights.rights_of.Goals as goal

pub returns : goal.returns
returns c =
    let both = λ (es : List Effect) (lawful : IsLawful c.args.schema.now (fresh c.args.schema.now c.args.site.0) es)
    (was : Tells c.args.field.0 c.args.standing.now es).
    let f = c.args.field.0 in
    let turned = c.settled_of-settled.ensures.turned f es was in
    let few = settled_fits f (other c.args.kind) c.args.standing.now es was c.settled_of-settled.result.1 turned in
    let own_is : c.saturating_sub-own.result
    ≡ ((c.from.result + c.gained_in-gained.result) + c.settled_of-settled.result.1) - c.settled_of-settled.result.0 - c.gifts_in-given.result =
    omega (arith, c.saturating_add.ensures, c.saturating_sub.ensures, c.saturating_sub-own.ensures, few, c.gained_in-gained.ensures.few, c.from.ensures, c.part_at.type_inv) in
    let gained = rw (c.sites.ensures.value, c.deref-2.ensures.value) at (c.gained_in-gained.ensures.value c.args.schema.now c.args.site.0) in
    rights_are c.args.schema.now c.args.site.0 f c.args.kind c.args.standing.now es lawful was _ _ _ _ _ _ _ _
    (c.from.ensures ∙ c.part_at.ensures.value) turned (c.settled_of-settled.ensures.settled f es was) gained
    (rw c.deref.ensures.value at c.gifts_in-given.ensures.value) (c.held_of-held.ensures.held f es was) own_is c.saturating_sub-2.ensures in
    record { own = λ es lawful was. (both es lawful was).0; free = λ es lawful was. (both es lawful was).1 }
