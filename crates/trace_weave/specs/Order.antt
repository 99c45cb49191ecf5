-- The trace that an order takes out of histories (this project). A history has the oldest entry first, and so has the order:
-- for each entry of the trace it has the place of that entry's history.
use Rattle.std.specs.Prelude.{◌≡◌, ℕ, ◌+◌, ◌<◌, ◌≤◌, List, [], ◌∷◌, length, slice_index_or, slice_set, take, map, Option, Some, None}
use Rattle.std.specs.List.{slice_get}
use Rattle.field_bounds.specs.declared.entry.Entry.{Entry}
use Rattle.trace_weave.specs.Turn.{upcoming}
use Rattle.trace_weave.specs.Weave.{history_at, count_placed}

-- Where so many entries of each history were taken before: one place of the order after another takes the next entry of its
-- history, and the first that finds none there ends the trace.
abbrev pub taken_from : List (List Entry) → List ℕ → List ℕ → List Entry
taken_from hs counts [] = []
taken_from hs counts (s ∷ order) =
    elim (upcoming hs counts s) [
      | None ↦ []
      | Some e ↦ e ∷ taken_from hs (slice_set counts s (slice_index_or counts s 0 + 1)) order
    ]

-- Of none an entry was taken before.
abbrev pub taken_by : List (List Entry) → List ℕ → List Entry
taken_by hs order = taken_from hs (map (λ h. 0) hs) order

-- ---- the same, place by place

-- The entry of a place of the order: that of the history which stands there, whose number in it, from 0, is how often that
-- history stands in the order before.
abbrev pub entry_at : List (List Entry) → List ℕ → ℕ → Option Entry
entry_at hs order i = slice_get (history_at hs (slice_index_or order i 0)) (count_placed (slice_index_or order i 0) (take i order))

-- A trace has the entries of the places of an order, up to its end or to the first place whose history has none left.
pub record IsTakenBy (hs : List (List Entry)) (order : List ℕ) (t : List Entry) : Type 0 where
  pub each : (i : ℕ) → i < length t → slice_get t i ≡ entry_at hs order i
  pub within : length t ≤ length order
  pub ends : length t < length order → entry_at hs order (length t) ≡ None
