-- When a site's rights, ledger and epoch are what records stand for (this project).
use Rattle.std.specs.Prelude.{◌≡◌, ◌≢◌, ℕ, ◌-◌, ◌<◌, ◌≤◌, Bool, true, false, ◌&&◌, List, [], ◌∷◌, ◌++◌, length, sum_by}
use Rattle.std.specs.List.{list_all}
use Rattle.field_bounds.specs.declared.kind.Kind.{Kind}
use Rattle.field_bounds.specs.declared.entry.Escrow.{Escrow}
use Rattle.field_bounds.specs.Schema.{SchemaValue}
use Rattle.field_bounds.specs.Parts.{field_at, width_of}
use Rattle.field_bounds.specs.Effects.{takes}
use Rattle.kept_records.specs.declared.record.Record.{Record}
use Rattle.kept_records.specs.declared.record.Record.TheVariants.{Commit, Gift, Accept, Tighten, Restart, Summary}
use Rattle.kept_records.specs.Stands.{greatest, given_in, accepted_in, cut_in, own_in, is_field, is_other_site, is_summary, may_follow, Lawful}
use Rattle.site_rights.specs.declared.field_rights.FieldRights.{FieldRights}
use Rattle.site_rights.specs.Rights.{row_at, free_at, held_at, own_at, cut_at, room_at}
use Rattle.gift_ledger.specs.Ledger.{LedgerValue, total_at, accepted_at, IsSlot}
use Rattle.log_replay.specs.declared.standing.Standing.{Standing}

-- Another site and a field, both of the schema.
pub record IsOther (schema : SchemaValue) (s r f : ℕ) : Type 0 where
  pub other : r ≢ s
  pub site_in : r < schema.sites
  pub field_in : f < length schema.fields

-- There are rights on each field, and the ledger has a place for each other site and field.
pub record HasSlots (schema : SchemaValue) (rows : List FieldRights) (ledger : LedgerValue) : Type 0 where
  pub count : length rows ≡ length schema.fields
  pub place : (r f : ℕ) → IsOther schema ledger.site r f → IsSlot ledger r f

-- The rights, the ledger and the epoch are what the records of a site stand for: on each field of the schema its own
-- rights, free and held together, and the greatest totals given up; and for each other site the ledger has the greatest
-- totals given and accepted.
pub record StandsFor (schema : SchemaValue) (s : ℕ) (rs : List Record) (rows : List FieldRights) (ledger : LedgerValue)
    (latest : ℕ) : Type 0 where
  pub count : length rows ≡ length schema.fields
  pub width : (f : ℕ) → f < length rows → (row_at rows f).width ≡ width_of (field_at schema f)
  pub own : (f : ℕ) (k : Kind) → f < length rows → own_at rows f k ≡ own_in schema s rs f k
  pub cut : (f : ℕ) (k : Kind) → f < length rows → cut_at rows f k ≡ cut_in rs f k
  pub place : (r f : ℕ) → IsOther schema s r f → IsSlot ledger r f
  pub given : (r f : ℕ) (k : Kind) → IsOther schema s r f → total_at ledger r f k ≡ given_in rs r f k
  pub accepted : (r f : ℕ) (k : Kind) → IsOther schema s r f → accepted_at ledger r f k ≡ accepted_in rs r f k
  pub site : ledger.site ≡ s
  pub epoch : latest ≡ greatest rs

-- The same of a standing.
abbrev pub Stands : SchemaValue → ℕ → List Record → Standing → Type 0
Stands schema s rs standing = StandsFor schema s rs standing.rights standing.ledger standing.epoch

-- None of the rights are held.
abbrev pub NoneHeld : List FieldRights → Type 0
NoneHeld rows = (f : ℕ) (k : Kind) → f < length rows → held_at rows f k ≡ 0

-- A standing that is what records stand for, with no rights held: what a log that was read comes to.
pub record IsStandingFor (schema : SchemaValue) (s : ℕ) (rs : List Record) (standing : Standing) : Type 0 where
  pub for_ : Stands schema s rs standing
  pub none : NoneHeld standing.rights

-- The escrow's field is in the schema.
abbrev pub is_on_field : SchemaValue → Escrow → Bool
is_on_field schema e = is_field schema e.field.0

-- What escrows take together is free, of each kind on each field.
abbrev pub AreFree : List FieldRights → List Escrow → Type 0
AreFree rows es = (f : ℕ) (k : Kind) → f < length rows → sum_by (takes f k) es ≤ free_at rows f k

-- The record can be taken in: what it spends is free, and what it adds has room. A summary adds nothing to what records
-- stand for, and isn't taken in.
abbrev pub CanTakeIn : SchemaValue → Standing → Record → Type 0
CanTakeIn schema old (Commit txn es) = (txn.epoch ≡ old.epoch) × (list_all (is_on_field schema) es ≡ true) × AreFree old.rights es
CanTakeIn schema old (Gift to field kind total) =
    ((is_other_site schema old.ledger.site to.0 && is_field schema field.0) ≡ true) × (total_at old.ledger to.0 field.0 kind < total)
    × (total - total_at old.ledger to.0 field.0 kind ≤ free_at old.rights field.0 kind)
CanTakeIn schema old (Accept from field kind total) =
    ((is_other_site schema old.ledger.site from.0 && is_field schema field.0) ≡ true) × (accepted_at old.ledger from.0 field.0 kind < total)
    × (total - accepted_at old.ledger from.0 field.0 kind ≤ room_at old.rights field.0)
CanTakeIn schema old (Tighten field kind total) =
    (is_field schema field.0 ≡ true) × (cut_at old.rights field.0 kind < total)
    × (total - cut_at old.rights field.0 kind ≤ free_at old.rights field.0 kind)
CanTakeIn schema old (Restart epoch) = old.epoch < epoch
CanTakeIn schema old (Summary epoch rights gifts accepts tightenings) = ⊥

-- Whether a record is taken in, and what that leaves. Where nothing is held, it is taken in exactly where it may stand
-- behind those before it (answered). Where it is, the new standing is for the old records and for it, whichever lawful
-- records the old one is for (stands), and what is held stays held (held). Whatever is held, a record that can be taken
-- in is (takes_), and no other is but a summary (only).
pub record TakesIn (schema : SchemaValue) (old : Standing) (r : Record) (answer : Bool) (new : Standing) : Type 0 where
  pub answered : (s : ℕ) (rs : List Record) → Lawful schema s rs → IsStandingFor schema s rs old → answer ≡ may_follow schema s rs r
  pub stands : answer ≡ true → (s : ℕ) (rs : List Record) → Lawful schema s rs → Stands schema s rs old → Stands schema s (rs ++ r ∷ []) new
  pub held : answer ≡ true → (f : ℕ) (k : Kind) → f < length old.rights → held_at new.rights f k ≡ held_at old.rights f k
  pub takes_ : CanTakeIn schema old r → answer ≡ true
  pub only : is_summary r ≡ false → answer ≡ true → CanTakeIn schema old r
