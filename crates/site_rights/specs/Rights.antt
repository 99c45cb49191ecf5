-- The rights of a site: for each field, by number, the free and the held ones of both kinds, and those that were given up
-- (Balegas and others 2015; this project for the two kinds and for what is given up).
use Rattle.std.specs.Prelude.{◌≡◌, ℕ, ◌+◌, ◌-◌, ◌<◌, ◌≤◌, List, All, length, sum_by, slice_index_or, slice_set, unsigned_abs, fold}
use Rattle.field_bounds.specs.declared.kind.Kind.{Kind}
use Rattle.field_bounds.specs.declared.kind.Kind.TheVariants.{Lower, Raise}
use Rattle.field_bounds.specs.declared.entry.Escrow.{Escrow}
use Rattle.field_bounds.specs.Kind.{other, kind_of}
use Rattle.field_bounds.specs.Schema.{SchemaValue}
use Rattle.field_bounds.specs.Parts.{field_at, width_of, part_of}
use Rattle.site_rights.specs.declared.field_rights.Amounts.{Amounts}
use Rattle.site_rights.specs.declared.field_rights.FieldRights.{FieldRights}
use Rattle.site_rights.specs.declared.field_rights.Outcome.{Outcome}
use Rattle.site_rights.specs.declared.field_rights.Outcome.TheVariants.{Committed, Aborted}
use Rattle.field_bounds.specs.Effects.{takes}
use Rattle.field_bounds.specs.Owed.{max_change}

-- The amounts of a kind.
abbrev pub amounts_of : FieldRights → Kind → Amounts
amounts_of r Lower = r.lower
amounts_of r Raise = r.raise

-- The same rights with other amounts of a kind.
abbrev pub with_amounts : FieldRights → Kind → Amounts → FieldRights
with_amounts r Lower a = record r { lower = a }
with_amounts r Raise a = record r { raise = a }

-- The amounts of both kinds together are at most the width, and the width is within the greatest change.
abbrev pub IsWithinWidth : FieldRights → Type 0
IsWithinWidth r =
    (r.lower.free + r.lower.held + r.lower.cut + r.raise.free + r.raise.held + r.raise.cut ≤ r.width) × (r.width ≤ max_change)

-- What stands in for the rights on a field that isn't there.
abbrev pub no_rights : FieldRights
no_rights = record { width = 0; lower = record { free = 0; held = 0; cut = 0 }; raise = record { free = 0; held = 0; cut = 0 } }

-- The rights on a field.
abbrev pub row_at : List FieldRights → ℕ → FieldRights
row_at rows f = slice_index_or rows f no_rights

-- The free rights of a kind on a field, the held ones, and both together.
abbrev pub free_at : List FieldRights → ℕ → Kind → ℕ
free_at rows f k = (amounts_of (row_at rows f) k).free

abbrev pub held_at : List FieldRights → ℕ → Kind → ℕ
held_at rows f k = (amounts_of (row_at rows f) k).held

abbrev pub own_at : List FieldRights → ℕ → Kind → ℕ
own_at rows f k = free_at rows f k + held_at rows f k

-- What was given up of a kind on a field, and what is guarded of its width: that and the own rights.
abbrev pub cut_at : List FieldRights → ℕ → Kind → ℕ
cut_at rows f k = (amounts_of (row_at rows f) k).cut

abbrev pub guarded_at : List FieldRights → ℕ → Kind → ℕ
guarded_at rows f k = cut_at rows f k + own_at rows f k

-- The width of a field, and the room on it: what is guarded of both kinds leaves of the width.
abbrev pub width_at : List FieldRights → ℕ → ℕ
width_at rows f = (row_at rows f).width

abbrev pub room_at : List FieldRights → ℕ → ℕ
room_at rows f = width_at rows f - (guarded_at rows f Lower + guarded_at rows f Raise)

-- Amounts with q more, or q fewer, free or held ones, or q more given up.
abbrev pub more_free : ℕ → Amounts → Amounts
more_free q a = record a { free = a.free + q }

abbrev pub fewer_free : ℕ → Amounts → Amounts
fewer_free q a = record a { free = a.free - q }

abbrev pub more_held : ℕ → Amounts → Amounts
more_held q a = record a { held = a.held + q }

abbrev pub fewer_held : ℕ → Amounts → Amounts
fewer_held q a = record a { held = a.held - q }

abbrev pub more_cut : ℕ → Amounts → Amounts
more_cut q a = record a { cut = a.cut + q }

-- q free rights of a kind set aside.
abbrev pub after_take : FieldRights → Kind → ℕ → FieldRights
after_take r k q = with_amounts r k (more_held q (fewer_free q (amounts_of r k)))

-- q held rights of a kind set free again.
abbrev pub after_give_back : FieldRights → Kind → ℕ → FieldRights
after_give_back r k q = with_amounts r k (more_free q (fewer_held q (amounts_of r k)))

-- q held rights of a kind turned into free ones of the other kind.
abbrev pub after_turn : FieldRights → Kind → ℕ → FieldRights
after_turn r k q =
    with_amounts (with_amounts r k (fewer_held q (amounts_of r k))) (other k) (more_free q (amounts_of r (other k)))

-- q free rights of a kind gone.
abbrev pub after_drop : FieldRights → Kind → ℕ → FieldRights
after_drop r k q = with_amounts r k (fewer_free q (amounts_of r k))

-- q free rights of a kind given up.
abbrev pub after_tighten : FieldRights → Kind → ℕ → FieldRights
after_tighten r k q = with_amounts r k (more_cut q (fewer_free q (amounts_of r k)))

-- q free rights of a kind more.
abbrev pub after_add : FieldRights → Kind → ℕ → FieldRights
after_add r k q = with_amounts r k (more_free q (amounts_of r k))

-- What the end of a transaction does to held rights: they turn, or are given back.
abbrev pub ending : Outcome → FieldRights → Kind → ℕ → FieldRights
ending Committed = after_turn
ending Aborted = after_give_back

-- A change of the rights on one field; all others stay.
abbrev pub at_field : (FieldRights → Kind → ℕ → FieldRights) → List FieldRights → ℕ → Kind → ℕ → List FieldRights
at_field change rows f k q = slice_set rows f (change (row_at rows f) k q)

-- The same by an escrow, and by escrows one after another.
abbrev pub by_escrow : (FieldRights → Kind → ℕ → FieldRights) → List FieldRights → Escrow → List FieldRights
by_escrow change rows e = at_field change rows e.field.0 (kind_of e.change) (unsigned_abs e.change)

abbrev pub by_escrows : (FieldRights → Kind → ℕ → FieldRights) → List FieldRights → List Escrow → List FieldRights
by_escrows change rows es = fold (by_escrow change) rows es

-- Each escrow is on a field that is there.
abbrev pub AreInRange : List FieldRights → List Escrow → Type 0
AreInRange rows es = All (λ e. e.field.0 < length rows) es

-- What an escrow takes is held.
pub record CanEnd (rows : List FieldRights) (e : Escrow) : Type 0 where
  pub in_range : e.field.0 < length rows
  pub held : unsigned_abs e.change ≤ held_at rows e.field.0 (kind_of e.change)

-- What the escrows take together, of each field and kind, is held.
abbrev pub AreHeld : List FieldRights → List Escrow → Type 0
AreHeld rows es = (f : ℕ) (k : Kind) → f < length rows → sum_by (takes f k) es ≤ held_at rows f k

-- The rights on a field that a site begins with: its parts are free, none are held and none given up.
pub record IsFresh (schema : SchemaValue) (site field : ℕ) (r : FieldRights) : Type 0 where
  pub width : r.width ≡ width_of (field_at schema field)
  pub free : (k : Kind) → (amounts_of r k).free ≡ part_of schema site field k
  pub held : (k : Kind) → (amounts_of r k).held ≡ 0
  pub cut : (k : Kind) → (amounts_of r k).cut ≡ 0

-- The rights that a site begins with, on every field of the schema.
pub record AreFresh (schema : SchemaValue) (site : ℕ) (rows : List FieldRights) : Type 0 where
  pub count : length rows ≡ length schema.fields
  pub each : (f : ℕ) → f < length rows → IsFresh schema site f (row_at rows f)

-- ---- rights that were told, as a summary tells them

-- Of two numbers the one of a kind, to lower and to raise.
abbrev pub told_of : ℕ × ℕ → Kind → ℕ
told_of pair Lower = pair.0
told_of pair Raise = pair.1

-- The pair of a field, and zeros for a field that isn't there.
abbrev pub pair_at : List (ℕ × ℕ) → ℕ → ℕ × ℕ
pair_at pairs f = slice_index_or pairs f (0, 0)

-- The rights on a field of which so many are free and so many given up; none are held.
pub record IsTold (schema : SchemaValue) (field : ℕ) (free_ cut_ : ℕ × ℕ) (r : FieldRights) : Type 0 where
  pub width : r.width ≡ width_of (field_at schema field)
  pub free : (k : Kind) → (amounts_of r k).free ≡ told_of free_ k
  pub held : (k : Kind) → (amounts_of r k).held ≡ 0
  pub cut : (k : Kind) → (amounts_of r k).cut ≡ told_of cut_ k

-- The rights that were told, on every field of the schema.
pub record AreTold (schema : SchemaValue) (free cuts : List (ℕ × ℕ)) (rows : List FieldRights) : Type 0 where
  pub count : length rows ≡ length schema.fields
  pub each : (f : ℕ) → f < length rows → IsTold schema f (pair_at free f) (pair_at cuts f) (row_at rows f)

-- On each field, what was told of both kinds, free and given up, is no more than the field is wide.
abbrev pub AreWithin : SchemaValue → List (ℕ × ℕ) → List (ℕ × ℕ) → Type 0
AreWithin schema free cuts =
    (f : ℕ) → f < length free → (pair_at free f).0 + (pair_at free f).1 + (pair_at cuts f).0 + (pair_at cuts f).1
    ≤ width_of (field_at schema f)
