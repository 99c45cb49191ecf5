-- The sums of all sites over the fields, and what one more effect does to them (this project).
use Rattle.std.specs.Prelude.{◌≡◌, ℕ, ◌+◌, ◌-◌, ◌<◌, ◌≤◌, ℤ, pos, ◌+ℤ◌, unsigned_abs, ◌==◌, ◌&&◌, if◌then◌else◌, true, List, length, Option, Some, None}
use Rattle.field_bounds.specs.declared.kind.Kind.{Kind}
use Rattle.field_bounds.specs.declared.kind.Kind.TheVariants.{Lower, Raise}
use Rattle.field_bounds.specs.declared.effect.Effect.{Effect}
use Rattle.field_bounds.specs.declared.effect.Effect.TheVariants.{Begins, Grants, Commits, Aborts, Gives, Accepts, Stops}
use Rattle.field_bounds.specs.declared.entry.Escrow.{Escrow as EscrowOf}
use Rattle.field_bounds.specs.declared.entry.Reply.{Reply}
use Rattle.field_bounds.specs.declared.entry.Entry.{Entry}
use Rattle.field_bounds.specs.Kind.{other, kind_of, same_kind}
use Rattle.field_bounds.specs.Schema.{SchemaValue}
use Rattle.field_bounds.specs.Parts.{field_at}
use Rattle.field_bounds.specs.Effects.{says_doubt_kept}
use Rattle.field_bounds.specs.Central.{committed_value, open_sizes, cuts}
use Rattle.field_bounds.specs.Shape.{answered, restarted, in_doubt, stays_down, refused, shape}
use Rattle.central_machine.specs.declared.amounts.FieldAmounts.{FieldAmounts}
use Rattle.central_machine.specs.declared.journal.OpenRow.{OpenRow}
use Rattle.central_machine.specs.declared.field_sums.FieldSums.{FieldSums}
use Rattle.central_machine.specs.FieldAmounts.{amount, has_slot, capped_sum}
use Rattle.central_machine.specs.Open.{escrows_at, all_escrows}
use Rattle.central_machine.specs.Running.{sizes_taken, settled_effect}

-- The amount of a field and kind grew, if it has a place, and no other.
pub record Grows (n m : FieldAmounts) (field : ℕ) (kind : Kind) (size : ℕ) : Type 0 where
  pub more : (f : ℕ) (k : Kind) → has_slot n f ≡ true
      → amount m f k ≡ (if (field == f) && same_kind kind k then capped_sum (amount n f k + size) else amount n f k)
  pub places : (g : ℕ) → has_slot m g ≡ has_slot n g

-- And so it fell.
pub record Shrinks (n m : FieldAmounts) (field : ℕ) (kind : Kind) (size : ℕ) : Type 0 where
  pub less : (f : ℕ) (k : Kind) → has_slot n f ≡ true
      → amount m f k ≡ (if (field == f) && same_kind kind k then amount n f k - size else amount n f k)
  pub places : (g : ℕ) → has_slot m g ≡ has_slot n g

-- Escrows are committed: the room of their kind goes over to the other.
pub record Moves (n m : FieldSums) (escrows : List EscrowOf) : Type 0 where
  pub room : (f : ℕ) (k : Kind) → has_slot n.room f ≡ true → amount n.room f k ≤ 18446744073709551615
      → amount m.room f k ≡ capped_sum (amount n.room f k + sizes_taken f (other k) escrows) - sizes_taken f k escrows
  pub places : (g : ℕ) → has_slot m.room g ≡ has_slot n.room g
  pub aside_same : m.aside ≡ n.aside
  pub cut_same : m.cut ≡ n.cut

pub record Tightens (n m : FieldSums) (field : ℕ) (kind : Kind) (size : ℕ) : Type 0 where
  pub cut : Grows n.cut m.cut field kind size
  pub room_same : m.room ≡ n.room
  pub aside_same : m.aside ≡ n.aside

-- What an effect that was in doubt and is kept does to the room and the cut.
abbrev pub SettlesDoubt : Option Effect → List OpenRow → FieldSums → FieldSums → Type 0
SettlesDoubt None rows n m = m ≡ n
SettlesDoubt (Some (Begins txn)) rows n m = m ≡ n
SettlesDoubt (Some (Grants txn field change)) rows n m = m ≡ n
SettlesDoubt (Some (Commits txn)) rows n m = Moves n m (escrows_at txn rows)
SettlesDoubt (Some (Aborts txn)) rows n m = m ≡ n
SettlesDoubt (Some (Gives None field kind size)) rows n m = Tightens n m field.0 kind size
SettlesDoubt (Some (Gives (Some to) field kind size)) rows n m = m ≡ n
SettlesDoubt (Some (Accepts from field kind total)) rows n m = m ≡ n
SettlesDoubt (Some Stops) rows n m = m ≡ n

-- The sums but for what is open.
pub record KeepsRest (n m : FieldSums) : Type 0 where
  pub room : m.room ≡ n.room
  pub cut : m.cut ≡ n.cut

-- An escrow is open.
pub record SetAside (n m : FieldSums) (field : ℕ) (change : ℤ) : Type 0 where
  pub more : Grows n.aside m.aside field (kind_of change) (unsigned_abs change)
  pub rest : KeepsRest n m

-- Escrows aren't open any more.
pub record Closes (n m : FieldSums) (escrows : List EscrowOf) : Type 0 where
  pub less : (f : ℕ) (k : Kind) → has_slot n.aside f ≡ true → amount m.aside f k ≡ amount n.aside f k - sizes_taken f k escrows
  pub places : (g : ℕ) → has_slot m.aside g ≡ has_slot n.aside g
  pub rest : KeepsRest n m

-- Escrows are committed, and then aren't open any more.
pub record CommitsAndCloses (n m : FieldSums) (escrows : List EscrowOf) : Type 0 where
  pub mid : FieldSums
  pub moves : Moves n mid escrows
  pub closes : Closes mid m escrows

-- The sums with one more effect.
abbrev pub SumsTake : Option Effect → List OpenRow → FieldSums → FieldSums → Type 0
SumsTake None rows n m = m ≡ n
SumsTake (Some (Begins txn)) rows n m = m ≡ n
SumsTake (Some (Grants txn field change)) rows n m = SetAside n m field.0 change
SumsTake (Some (Commits txn)) rows n m = CommitsAndCloses n m (escrows_at txn rows)
SumsTake (Some (Aborts txn)) rows n m = Closes n m (escrows_at txn rows)
SumsTake (Some (Gives None field kind size)) rows n m = Tightens n m field.0 kind size
SumsTake (Some (Gives (Some to) field kind size)) rows n m = m ≡ n
SumsTake (Some (Accepts from field kind total)) rows n m = m ≡ n
SumsTake (Some Stops) rows n m = m ≡ n

-- The sums after one more reply, with this effect where it isn't in doubt.
abbrev pub SumsAfter : Option Effect → Reply → Option Effect → List OpenRow → FieldSums → FieldSums → Type 0
SumsAfter effect r d rows n m =
    elim (shape r) [
      | answered ↦ SumsTake effect rows n m
      | restarted _ found ↦ (mid : FieldSums) × SettlesDoubt (settled_effect (says_doubt_kept found) d) rows n mid × Closes mid m (all_escrows rows)
      | in_doubt ↦ m ≡ n
      | stays_down ↦ SumsTake effect rows n m
      | refused _ ↦ SumsTake effect rows n m
    ]

-- The amounts of a field are how far its start value stands above the floor and below the ceiling.
pub record IsRoom (schema : SchemaValue) (f : ℕ) (a : FieldAmounts) : Type 0 where
  pub slot : has_slot a f ≡ true
  pub low : (field_at schema f).floor +ℤ pos (amount a f Lower) ≡ (field_at schema f).value
  pub high : (field_at schema f).value +ℤ pos (amount a f Raise) ≡ (field_at schema f).ceiling

-- The sums are those of a front: how far the committed value stands from both bounds of the schema, the sizes of the open
-- escrows, and what was given up.
pub record AreSums (schema : SchemaValue) (t : List Entry) (x : FieldSums) : Type 0 where
  pub room_in : (f : ℕ) → f < length schema.fields → has_slot x.room f ≡ true
  pub aside_in : (f : ℕ) → f < length schema.fields → has_slot x.aside f ≡ true
  pub cut_in : (f : ℕ) → f < length schema.fields → has_slot x.cut f ≡ true
  pub low : (f : ℕ) → f < length schema.fields
      → (field_at schema f).floor +ℤ pos (amount x.room f Lower) ≡ committed_value schema t f
  pub high : (f : ℕ) → f < length schema.fields
      → committed_value schema t f +ℤ pos (amount x.room f Raise) ≡ (field_at schema f).ceiling
  pub aside : (f : ℕ) (k : Kind) → f < length schema.fields → amount x.aside f k ≡ open_sizes schema t f k
  pub cut : (f : ℕ) (k : Kind) → f < length schema.fields → amount x.cut f k ≡ cuts schema t f k
