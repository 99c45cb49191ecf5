-- What is promised of every trace of a world, beside what makes it a run of one central store (this project).
use Rattle.std.specs.Prelude.{◌≡◌, ℕ, ◌≤ℤ◌, Bool, true, false, List, [], ◌∷◌}
use Rattle.field_bounds.specs.declared.entry.Reply.{Reply}
use Rattle.field_bounds.specs.declared.entry.Refusal.{Refusal}
use Rattle.field_bounds.specs.declared.entry.Refusal.TheVariants.{Down, NoSite, NoField, NoTransaction, Zero, TooLarge, Short, SelfGift, LedgerFull, NotYours, Forged, TooManyOpen, TooManyEscrows, NumbersFull, NothingGiven}
use Rattle.field_bounds.specs.declared.entry.Entry.{Entry}
use Rattle.field_bounds.specs.Schema.{SchemaValue}
use Rattle.field_bounds.specs.Central.{inf, sup, floor_in, ceiling_in, OutcomesAreBounded, IsSound, IsCentral, IsConservedThroughout}
use Rattle.field_bounds.specs.Shape.{answered, restarted, in_doubt, stays_down, refused, shape}

-- Of each field, the infimum is at the floor or above, and the supremum at the ceiling or below: however the open
-- transactions end, the value stays within its bounds (O'Neil 1986).
abbrev pub IsBounded : SchemaValue → List Entry → Type 0
IsBounded schema t =
    (f : ℕ) → (floor_in schema t f ≤ℤ inf schema t f) × (sup schema t f ≤ℤ ceiling_in schema t f)

-- So in every front of a trace, from the empty one to the whole one.
abbrev pub IsBoundedThroughout : SchemaValue → List Entry → Type 0
IsBoundedThroughout schema [] = IsBounded schema []
IsBoundedThroughout schema (e ∷ t) = IsBoundedThroughout schema t × IsBounded schema (e ∷ t)

-- In every front of a trace, whichever of the open transactions are committed and whichever aborted, the value of each
-- field is then at its floor or above, and at its ceiling or below (O'Neil 1986 for outcomes, this project for the promise).
abbrev pub OutcomesAreBoundedThroughout : SchemaValue → List Entry → Type 0
OutcomesAreBoundedThroughout schema [] = OutcomesAreBounded schema []
OutcomesAreBoundedThroughout schema (e ∷ t) = OutcomesAreBoundedThroughout schema t × OutcomesAreBounded schema (e ∷ t)

-- In every front of a trace each field's floor is at least, and its ceiling at most, what it was in the front before: no
-- bound is ever loosened (this project).
abbrev pub BoundsOnlyTighten : SchemaValue → List Entry → Type 0
BoundsOnlyTighten schema [] = Unit {0}
BoundsOnlyTighten schema (e ∷ t) =
    BoundsOnlyTighten schema t
    × ((f : ℕ) → (floor_in schema t f ≤ℤ floor_in schema (e ∷ t) f) × (ceiling_in schema (e ∷ t) f ≤ℤ ceiling_in schema t f))

-- The refusals of a statement that is another site's, and of one that tells of more rights than there is room for.
abbrev pub is_strange : Refusal → Bool
is_strange NotYours = true
is_strange (Forged room) = true
is_strange Down = false
is_strange NoSite = false
is_strange NoField = false
is_strange NoTransaction = false
is_strange Zero = false
is_strange TooLarge = false
is_strange (Short share) = false
is_strange SelfGift = false
is_strange (LedgerFull total) = false
is_strange TooManyOpen = false
is_strange TooManyEscrows = false
is_strange NumbersFull = false
is_strange NothingGiven = false

-- A reply that is neither of these refusals.
abbrev pub IsFamiliar : Reply → Type 0
IsFamiliar r =
    elim (shape r) [
      | answered ↦ Unit {0}
      | restarted _ _ ↦ Unit {0}
      | in_doubt ↦ Unit {0}
      | stays_down ↦ Unit {0}
      | refused refusal ↦ is_strange refusal ≡ false
    ]

-- No entry of a trace has one of these refusals.
abbrev pub NoneStrange : List Entry → Type 0
NoneStrange [] = Unit {0}
NoneStrange (e ∷ t) = NoneStrange t × IsFamiliar e.reply

-- A trace is one of a world: each site gave the replies that it owes after its own entries and took in only statements
-- that were issued before, the trace is a run of one central store, in every front rights are conserved, each field is
-- bounded, and however the open transactions end it is left within its bounds, no bound is ever loosened, and no statement
-- is refused as another site's or as forged.
pub record IsOneStore (schema : SchemaValue) (t : List Entry) : Type 0 where
  pub sound : IsSound schema t
  pub central : IsCentral schema t
  pub conserved : IsConservedThroughout schema t
  pub bounded : IsBoundedThroughout schema t
  pub outcomes : OutcomesAreBoundedThroughout schema t
  pub tighter : BoundsOnlyTighten schema t
  pub none_strange : NoneStrange t
