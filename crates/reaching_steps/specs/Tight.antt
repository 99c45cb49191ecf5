-- When an interval can't be narrower (this project).
use Rattle.std.specs.Prelude.{◌≡◌, nat_le, ℤ, ◌≤ℤ◌, ◌||◌, List, [], ◌∷◌, length, Option, None}
use Rattle.field_bounds.specs.declared.kind.Kind.TheVariants.{Lower, Raise}
use Rattle.field_bounds.specs.declared.id.SiteNo.{SiteNo}
use Rattle.field_bounds.specs.declared.id.FieldNo.{FieldNo}
use Rattle.field_bounds.specs.declared.entry.Entry.{Entry}
use Rattle.field_bounds.specs.Schema.{SchemaValue}
use Rattle.field_bounds.specs.Effects.{fresh}
use Rattle.field_bounds.specs.Owed.{place, interval_at}
use Rattle.field_bounds.specs.Central.{own}
use Rattle.reaching_steps.specs.declared.fault.ReachFault.{ReachFault}
use Rattle.reaching_steps.specs.declared.fault.ReachFault.TheVariants.{NoSite, NoField, NotUp, InFlight, Unstated, Tightened, Numbers}
use Rattle.reaching_steps.specs.Reach.{fault_if, fault_at, first_fault, least, is_down, is_short_of, is_unstated, is_tightened, has_no_number}

-- What may stand in the way of every value: each fault but the one that speaks of the value.
abbrev pub hindrances : SchemaValue → List Entry → SiteNo → FieldNo → List (Option ReachFault)
hindrances schema t site field =
    fault_if (nat_le schema.sites site.0) NoSite
    ∷ fault_if (nat_le (length schema.fields) field.0) NoField
    ∷ fault_at NotUp (least schema.sites (is_down schema t))
    ∷ fault_at InFlight (least schema.sites (λ from. is_short_of schema t field.0 site.0 from Lower
    || is_short_of schema t field.0 site.0 from Raise))
    ∷ fault_at Unstated (least schema.sites (λ to. is_unstated schema t field.0 site.0 to Lower
    || is_unstated schema t field.0 site.0 to Raise))
    ∷ fault_if (is_tightened schema t field.0) Tightened
    ∷ fault_at Numbers (least schema.sites (has_no_number schema t site.0))
    ∷ []

-- None of them does.
abbrev pub IsUnhindered : SchemaValue → List Entry → SiteNo → FieldNo → Type 0
IsUnhindered schema t site field = first_fault (hindrances schema t site field) ≡ None

-- The value lies in the interval that the site reads of the field after the trace.
abbrev pub LiesWithin : SchemaValue → List Entry → SiteNo → FieldNo → ℤ → Type 0
LiesWithin schema t site field target =
    ((interval_at (place schema site.0 (fresh schema site.0) (own site.0 t)) field).0 ≤ℤ target)
    × (target ≤ℤ (interval_at (place schema site.0 (fresh schema site.0) (own site.0 t)) field).1)
