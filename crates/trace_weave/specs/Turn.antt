-- A turn of weaving, by how many entries of each history were placed (this project). Public clauses cite `upcoming` alone: the
-- rest is what the loops of weaving go by, and what they come to is told by the picks of `Weave.antt`.
use Rattle.std.specs.Prelude.{◌≡◌, ◌⊎◌, ℕ, ◌-◌, ◌+◌, ◌<◌, List, [], ◌∷◌, length, slice_index_or, Option, Some, None}
use Rattle.std.specs.List.{slice_get}
use Rattle.field_bounds.specs.declared.entry.Entry.{Entry}
use Rattle.field_bounds.specs.declared.entry.Statement.{Statement}
use Rattle.field_bounds.specs.Statements.{statement_of}
use Rattle.statement_set.specs.Issued.{HasIssued}
use Rattle.trace_weave.specs.Weave.{history_at, count_placed, MayFollow, IsPicked, IsLowest}

-- The next entry of history s.
abbrev pub upcoming : List (List Entry) → List ℕ → ℕ → Option Entry
upcoming hs counts s = slice_get (history_at hs s) (slice_index_or counts s 0)

-- The next entry of history s may not stand yet.
abbrev pub HoldsBack : List (List Entry) → List ℕ → List Entry → ℕ → Type 0
HoldsBack hs counts t s = (e : Entry) → upcoming hs counts s ≡ Some e → ¬ MayFollow t e

-- The turn is history s's, with entry e: the lowest one whose next entry may stand.
pub record IsTurn (hs : List (List Entry)) (counts : List ℕ) (t : List Entry) (s : ℕ) (e : Entry) : Type 0 where
  pub inside : s < length hs
  pub next : upcoming hs counts s ≡ Some e
  pub may : MayFollow t e
  pub lower : (j : ℕ) → j < s → HoldsBack hs counts t j

-- The lowest history with entries left.
pub record IsFirstLeft (hs : List (List Entry)) (counts : List ℕ) (s : ℕ) : Type 0 where
  pub inside : s < length hs
  pub entry : Entry
  pub next : upcoming hs counts s ≡ Some entry
  pub lower : (j : ℕ) → j < s → upcoming hs counts j ≡ None

-- So far: these picks made the trace, and the counts are theirs.
pub record IsWoven (hs : List (List Entry)) (counts : List ℕ) (t : List Entry) : Type 0 where
  pub picks : List ℕ
  pub picked : IsPicked hs picks t
  pub lowest : IsLowest hs picks t
  pub counted : (s : ℕ) → slice_index_or counts s 0 ≡ count_placed s picks

-- The statements told are those that the trace issues, and below this history none has a next entry that may stand.
pub record IsReached (hs : List (List Entry)) (counts : List ℕ) (told : List Statement) (t : List Entry) (from : ℕ) : Type 0 where
  pub knows : HasIssued told t
  pub below : (j : ℕ) → j < from → HoldsBack hs counts t j

-- Where the next look begins, behind an entry of history s: at the first where it issues a statement, for which a lower
-- one may wait, and else at s.
abbrev pub GoesOn : Entry → ℕ → ℕ → Type 0
GoesOn e s from = (from ≡ 0) ⊎ ((from ≡ s) × (statement_of e ≡ None))

-- How many entries are left.
abbrev pub left_of : List (List Entry) → List ℕ → ℕ
left_of [] counts = 0
left_of (h ∷ hs) [] = 0
left_of (h ∷ hs) (n ∷ counts) = (length h - n) + left_of hs counts
