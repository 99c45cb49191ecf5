use Rattle.std.proofs.Common.{◌≡◌, ℕ, pos, refl, ap, ◌∙◌}
use Rattle.std.specs.Prelude.{◌+ℤ◌, ◌-ℤ◌}
use Rattle.field_bounds.specs.declared.kind.Kind.TheVariants.{Lower, Raise}
use Rattle.field_bounds.specs.Owed.{guarded_rights}
use Rattle.field_bounds.specs.Parts.{field_at}
use Rattle.site_step.specs.Site.{SiteValue, here}
use Rattle.site_step.proofs.Calls.{tells_guarded}
use Rattle.site_step.proofs.site.Site.bounds_known.Goals as goal

-- a pair is the one of its parts
pair_is : {A B : Type 0} (p : A × B) (a : A) (b : B) → p.0 ≡ a → p.1 ≡ b → p ≡ (a, b)
pair_is p a b first second = rw (← first, ← second) refl

pub returns : goal.returns
returns g c =
    let f = c.args.field in
    let schema = c.self.inside.schema in
    let at = here c.args.self.now in
    let lower = tells_guarded c.self.invariant c.self.view_is c.requires.up f Lower c.requires.field_in in
    let raise = tells_guarded c.self.invariant c.self.view_is c.requires.up f Raise c.requires.field_in in
    let floor = ap (λ (v : SiteValue). (field_at v.schema f.0).floor +ℤ pos (guarded_rights at f Lower)) c.self.view_is in
    let ceiling = ap (λ (v : SiteValue). (field_at v.schema f.0).ceiling -ℤ pos (guarded_rights at f Raise)) c.self.view_is in
    pair_is c.interval.result _ _
    (c.interval.ensures.lo ∙ ap (λ (n : ℕ). (field_at schema f.0).floor +ℤ pos n) lower ∙ floor)
    (c.interval.ensures.hi ∙ ap (λ (n : ℕ). (field_at schema f.0).ceiling -ℤ pos n) raise ∙ ceiling)
