-- The record in doubt, and what a restart finds of it (this project).
use Rattle.std.specs.Prelude.{◌≡◌, ℕ, ◌<◌, Bool, true, false, if◌then◌else◌, List, [], ◌∷◌, ◌++◌, length, Option, Some, None, MatchOption}
use Rattle.std.specs.List.{list_all}
use Rattle.field_bounds.specs.declared.entry.Last.{Last}
use Rattle.field_bounds.specs.declared.entry.Last.TheVariants.{Nothing, Kept, Lost}
use Rattle.field_bounds.specs.declared.entry.Entry.{Entry}
use Rattle.field_bounds.specs.Owed.{is_unsure, count_since}
use Rattle.kept_records.specs.declared.record.Record.{Record}
use Rattle.kept_records.specs.Keeping.{is_restart as is_restart_record, is_record_behind}

-- What a restart says of the record in doubt, before which n records stood; Nothing where none is.
abbrev pub found_of : Option ℕ → List Record → Last
found_of None rs = Nothing
found_of (Some n) rs = if is_record_behind n rs then Kept else Lost

-- The record in doubt stands behind some records, if it is kept, and only restarts' records behind it.
pub record InDoubt (kept : Bool) (before : List Record) (note : Record) (rs : List Record) : Type 0 where
  pub restarts : List Record
  pub all : rs ≡ before ++ ((if kept then note ∷ [] else []) ++ restarts)
  pub only : list_all is_restart_record restarts ≡ true
  pub noted_ : is_restart_record note ≡ false

-- Where the record in doubt stands: behind so many records, where there is one.
abbrev pub IsDoubt : Bool → List Entry → List Record → Option ℕ → Type 0
IsDoubt kept o rs doubt =
    MatchOption doubt (count_since is_unsure o ≡ 0)
    (λ n. (0 < count_since is_unsure o) × (before : List Record) × (note : Record) × (n ≡ length before) × InDoubt kept before note rs)
