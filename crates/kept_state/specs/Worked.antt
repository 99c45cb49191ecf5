-- Worked rows of records and of luck (this project). Each is of site 0 of two, of a field from 0 to 100 at 40: it has 20
-- rights to lower it and 30 to raise it.
use Rattle.std.specs.Prelude.{ℕ, pos, neg_ℤ, false, List, [], ◌∷◌, ◌++◌, reverse}
use Rattle.field_bounds.specs.declared.kind.Kind.TheVariants.{Lower, Raise}
use Rattle.field_bounds.specs.declared.entry.Command.{Command}
use Rattle.field_bounds.specs.declared.entry.Command.TheVariants as commands
use Rattle.field_bounds.specs.declared.entry.Reply.{Reply}
use Rattle.field_bounds.specs.declared.entry.Reply.TheVariants.{Begun, Granted, Committed, Given, Spared, Tightened, Unsure}
use Rattle.field_bounds.specs.declared.entry.Last.TheVariants.{Kept, Lost}
use Rattle.field_bounds.specs.declared.entry.Entry.{Entry}
use Rattle.field_bounds.specs.Effects.{fresh}
use Rattle.field_bounds.specs.Worked.{halved_shelf, stock, txn, lower_by, raise_by, row_entry}
use Rattle.field_bounds.specs.WorkedGifts.{site, give_lower, spare_lower}
use Rattle.field_bounds.specs.WorkedRestarts.{entry_restarted, still_down}
use Rattle.field_bounds.specs.WorkedTightenings.{raise_floor, lower_ceiling}
use Rattle.kept_records.specs.declared.record.Record.{Record}
use Rattle.kept_records.specs.declared.record.Record.TheVariants.{Commit, Gift, Tighten}
use Rattle.kept_records.specs.Stands.{Lawful}
use Rattle.kept_state.specs.declared.luck.Luck.{Luck}
use Rattle.kept_state.specs.declared.luck.Luck.TheVariants.{Fine, Torn}
use Rattle.kept_state.specs.Keeps.{Keeps}
use Rattle.kept_state.specs.Luck.{Lucky, lucky_reply}

-- ---- how a row is written

-- The entries of site 0, in the order in which they came, leave these records on its empty medium.
abbrev pub Leaves : List Entry → List Record → Type 0
Leaves row rs = Keeps halved_shelf 0 (fresh halved_shelf 0) [] false (reverse row) rs

-- Site 0 may have kept these records.
abbrev pub IsLawfulAtZero : List Record → Type 0
IsLawfulAtZero rs = Lawful halved_shelf 0 rs

-- The reply of site 0 to a command whose step has this luck, after these steps.
abbrev pub replies : List Lucky → Command → Luck → Reply
replies row command luck = lucky_reply halved_shelf 0 (fresh halved_shelf 0) (reverse row) command luck

-- A step that went well.
abbrev pub fine : Entry → Lucky
fine e = (e, Fine)

-- ---- records

-- The commit of an escrow of 20: its text is 12 bytes.
abbrev pub commit : Record
commit = Commit (txn 1) (record { field = stock; change = neg_ℤ (pos 20) } ∷ [])

-- The gift of 5 to site 1.
abbrev pub gift : ℕ → Record
gift total = Gift (site 1) stock Lower total

-- So many rights to lower, or to raise, given up in all: of 5 the text is 8 bytes.
abbrev pub cut_lower : ℕ → Record
cut_lower total = Tighten stock Lower total

abbrev pub cut_raise : ℕ → Record
cut_raise total = Tighten stock Raise total

-- ---- histories

-- An escrow of 20 is granted.
abbrev pub row_granted : List Entry
row_granted = row_entry commands.Begin (Begun (txn 1)) ∷ row_entry (lower_by 1 20) Granted ∷ []

-- A transaction with two escrows, of 3 down and then of 5 up, is committed.
abbrev pub row_committed : List Entry
row_committed =
    row_entry commands.Begin (Begun (txn 1))
    ∷ row_entry (lower_by 1 3) Granted
    ∷ row_entry (raise_by 1 5) Granted
    ∷ row_entry (commands.Commit (txn 1)) Committed
    ∷ []

-- Its record has the escrows in the order in which they were granted.
abbrev pub commit_of_two : Record
commit_of_two =
    Commit (txn 1) (record { field = stock; change = neg_ℤ (pos 3) } ∷ record { field = stock; change = pos 5 } ∷ [])

-- The commit of 20 is in doubt.
abbrev pub row_doubted : List Entry
row_doubted = row_granted ++ row_entry (commands.Commit (txn 1)) Unsure ∷ []

-- A restart fails and leaves its record; the next one finds the commit.
abbrev pub found_kept : List Entry
found_kept = row_doubted ++ still_down ∷ entry_restarted 2 Kept ∷ []

-- A restart fails and leaves nothing; the next one doesn't find the commit.
abbrev pub found_lost : List Entry
found_lost = row_doubted ++ still_down ∷ entry_restarted 1 Lost ∷ []

-- Two gifts, of 3 and of 2, and a restart behind the second, which was in doubt.
abbrev pub gifts_kept : List Entry
gifts_kept = row_entry (give_lower 1 3) (Given 3) ∷ row_entry (give_lower 1 2) Unsure ∷ entry_restarted 1 Kept ∷ []

-- Two spares, of half of 20 and of the 3 that were wanted, and a restart behind the second, which was in doubt.
abbrev pub spares_kept : List Entry
spares_kept = row_entry (spare_lower 1 100) (Spared 10 10) ∷ row_entry (spare_lower 1 3) Unsure ∷ entry_restarted 1 Kept ∷ []

-- Three tightenings, of 3 and 2 to lower and between them of 4 to raise, and a restart behind the last, which was in doubt.
abbrev pub cuts_kept : List Entry
cuts_kept =
    row_entry (raise_floor 3) (Tightened 3)
    ∷ row_entry (lower_ceiling 4) (Tightened 4)
    ∷ row_entry (raise_floor 2) Unsure
    ∷ entry_restarted 1 Kept
    ∷ []

-- ---- histories with luck

-- An escrow of 20 is granted, and its commit torn behind so many bytes.
abbrev pub torn : ℕ → List Lucky
torn bytes =
    fine (row_entry commands.Begin (Begun (txn 1)))
    ∷ fine (row_entry (lower_by 1 20) Granted)
    ∷ (row_entry (commands.Commit (txn 1)) Unsure, Torn bytes)
    ∷ []

-- The same, and then a restart torn behind so many bytes.
abbrev pub torn_twice : ℕ → ℕ → List Lucky
torn_twice bytes more = torn bytes ++ (still_down, Torn more) ∷ []

-- A gift of 5 is torn behind so many bytes: its text is 10.
abbrev pub torn_gift : ℕ → List Lucky
torn_gift bytes = (row_entry (give_lower 1 5) Unsure, Torn bytes) ∷ []

-- 5 rights to lower are given up, torn behind so many bytes: the text is 8.
abbrev pub torn_cut : ℕ → List Lucky
torn_cut bytes = (row_entry (raise_floor 5) Unsure, Torn bytes) ∷ []
