-- What a world tells of a site's free rights lies within the field's width.
use Rattle.std.proofs.Common.{◌≡◌, ℕ, ◌+◌, ◌<◌, ◌≤◌, Bool, true, false, not, List, Option, None, Some, sym, subst, arith}
use Rattle.std.specs.Prelude.{is_none, nat_le, length, IfSome, if◌then◌else◌, ◌∷◌, []}
use Rattle.field_bounds.specs.declared.id.FieldNo.{FieldNo}
use Rattle.field_bounds.specs.declared.kind.Kind.TheVariants.{Lower, Raise}
use Rattle.field_bounds.specs.declared.entry.Entry.{Entry}
use Rattle.field_bounds.specs.declared.entry.Refusal.TheVariants.{Down, NoField}
use Rattle.field_bounds.specs.Schema.{SchemaValue}
use Rattle.field_bounds.specs.Limits.{IsSchema}
use Rattle.field_bounds.specs.Parts.{field_at, width_of}
use Rattle.field_bounds.specs.Effects.{fresh, share}
use Rattle.field_bounds.specs.Owed.{is_up, place, first, when, shares_of}
use Rattle.field_bounds.specs.Central.{own, at_site, IsSound}
use Rattle.world_steps.proofs.Forged.{within_width}

-- what is told where no refusal holds
told_within : (down past : Bool) (x : ℕ × ℕ) (most : ℕ) → x.0 + x.1 ≤ most
    → IfSome (if is_none (first (when down Down ∷ when past NoField ∷ [])) then Some x else None) (λ (y : ℕ × ℕ). y.0 + y.1 ≤ most)
told_within true past x most h = tt
told_within false true x most h = tt
told_within false false x most h = h

pub shares_within : (schema : SchemaValue) → IsSchema schema → (t : List Entry) → IsSound schema t → (s : ℕ) → s < schema.sites
    → (field : FieldNo) (told : Option (ℕ × ℕ))
    → told ≡ shares_of (place schema s (fresh schema s) (own s t)) field
    → IfSome told (λ (y : ℕ × ℕ). y.0 + y.1 ≤ width_of (field_at schema field.0))
shares_within schema good t sound s below field told is =
    let width = width_of (field_at schema field.0) in
    let few : share (fresh schema s) field.0 Lower (at_site schema t s) + share (fresh schema s) field.0 Raise (at_site schema t s)
    ≤ width =
    omega (arith, within_width schema good t sound s below field.0) in
    subst (λ (o : Option (ℕ × ℕ)). IfSome o (λ (y : ℕ × ℕ). y.0 + y.1 ≤ width)) (sym is)
    (told_within (not (is_up (fresh schema s) (own s t))) (nat_le (length schema.fields) field.0) _ width few)
