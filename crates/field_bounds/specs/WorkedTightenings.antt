-- Worked rows of rights that are given up for good (this project). Of a field from 0 to 100 at 40, each of two sites has 20
-- rights to lower and 30 to raise it.
use Rattle.std.specs.Prelude.{ℕ, pos, List, [], ◌∷◌, ◌++◌, take}
use Rattle.field_bounds.specs.declared.kind.Kind.TheVariants.{Lower, Raise}
use Rattle.field_bounds.specs.declared.entry.Command.{Command}
use Rattle.field_bounds.specs.declared.entry.Command.TheVariants.{Begin, Commit, Tighten, Read, Share}
use Rattle.field_bounds.specs.declared.entry.Last.TheVariants.{Kept, Lost}
use Rattle.field_bounds.specs.declared.entry.Reply.TheVariants.{Begun, Granted, Committed, Tightened, Accepted, Between, Shares, Unsure, Refused}
use Rattle.field_bounds.specs.declared.entry.Refusal.TheVariants.{Down, NoField, Zero, TooLarge, Short, Forged}
use Rattle.field_bounds.specs.declared.entry.Entry.{Entry}
use Rattle.field_bounds.specs.Worked.{stock, unknown, txn, lower_by, row_entry_at, row_entry}
use Rattle.field_bounds.specs.WorkedGifts.{takes_in}
use Rattle.field_bounds.specs.WorkedRestarts.{entry_restarted}

-- ---- how a row is written

-- So many rights to lower the field, or to raise it, are given up.
abbrev pub raise_floor : ℕ → Command
raise_floor amount = Tighten stock Lower amount

abbrev pub lower_ceiling : ℕ → Command
lower_ceiling amount = Tighten stock Raise amount

-- ---- rows of one site

-- Both bounds are tightened; what is given up leaves the share, and the interval that is read stays as it was.
abbrev pub row_tightened : List Entry
row_tightened =
    row_entry (raise_floor 5) (Tightened 5)
    ∷ row_entry (Share stock) (Shares 15 30)
    ∷ row_entry (Read stock) (Between (pos 20) (pos 70))
    ∷ row_entry (raise_floor 16) (Refused (Short 15))
    ∷ row_entry (lower_ceiling 30) (Tightened 30)
    ∷ row_entry (Read stock) (Between (pos 20) (pos 70))
    ∷ []

-- An unknown field, nothing and too much are refused; each tightening tells all that was given up so far, by its kind.
abbrev pub tightened_twice : List Entry
tightened_twice =
    row_entry (Tighten unknown Lower 1) (Refused NoField)
    ∷ row_entry (raise_floor 0) (Refused Zero)
    ∷ row_entry (raise_floor 2_000_000_000_000_001) (Refused TooLarge)
    ∷ row_entry (raise_floor 5) (Tightened 5)
    ∷ row_entry (lower_ceiling 3) (Tightened 3)
    ∷ row_entry (raise_floor 2) (Tightened 7)
    ∷ row_entry (Share stock) (Shares 13 27)
    ∷ []

-- What an escrow has set aside can't be given up, and what a commit turned can.
abbrev pub tightened_around : List Entry
tightened_around =
    row_entry Begin (Begun (txn 1))
    ∷ row_entry (lower_by 1 20) Granted
    ∷ row_entry (raise_floor 1) (Refused (Short 0))
    ∷ row_entry (Commit (txn 1)) Committed
    ∷ row_entry (lower_ceiling 50) (Tightened 50)
    ∷ row_entry (Read stock) (Between (pos 0) (pos 50))
    ∷ []

-- A tightening is in doubt, and the site is down.
abbrev pub tighten_unsure : List Entry
tighten_unsure = row_entry (raise_floor 5) Unsure ∷ row_entry (raise_floor 5) (Refused Down) ∷ []

-- It was kept: the rights are gone.
abbrev pub tighten_kept : List Entry
tighten_kept = take 1 tighten_unsure ++ entry_restarted 1 Kept ∷ row_entry (Share stock) (Shares 15 30)
    ∷ row_entry (raise_floor 1) (Tightened 6) ∷ []

-- It was lost: they are free.
abbrev pub tighten_lost : List Entry
tighten_lost = take 1 tighten_unsure ++ entry_restarted 1 Lost ∷ row_entry (Share stock) (Shares 20 30)
    ∷ row_entry (raise_floor 1) (Tightened 1) ∷ []

-- At site 1, which gave up its 20, there is room for as much as before, 50.
abbrev pub cut_room : List Entry
cut_room =
    row_entry_at 1 (raise_floor 20) (Tightened 20)
    ∷ takes_in 51 (Refused (Forged 50))
    ∷ takes_in 50 (Accepted 50)
    ∷ []

-- ---- rows of both sites

-- Each site gives up some of its rights to lower, and site 0 lowers by the rest of its own.
abbrev pub both_tightened : List Entry
both_tightened =
    row_entry_at 0 (raise_floor 5) (Tightened 5)
    ∷ row_entry_at 1 (raise_floor 20) (Tightened 20)
    ∷ row_entry_at 0 Begin (Begun (txn 1))
    ∷ row_entry_at 0 (lower_by 1 15) Granted
    ∷ row_entry_at 0 (Commit (txn 1)) Committed
    ∷ []

-- Both sites give up all their rights to lower, and an escrow is granted all the same.
abbrev pub over_cut : List Entry
over_cut =
    row_entry_at 0 (raise_floor 20) (Tightened 20)
    ∷ row_entry_at 1 (raise_floor 20) (Tightened 20)
    ∷ row_entry_at 0 Begin (Begun (txn 1))
    ∷ row_entry_at 0 (lower_by 1 1) Granted
    ∷ []

-- Site 0 gives up more than is left once site 1 gave up its own.
abbrev pub cut_too_far : List Entry
cut_too_far =
    row_entry_at 1 (raise_floor 20) (Tightened 20)
    ∷ row_entry_at 0 (raise_floor 21) (Tightened 21)
    ∷ []
