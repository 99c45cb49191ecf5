-- Worked rows of stops and restarts (this project). Each is of site 0 of two, which has 20 rights to lower the field, from 0
-- to 100 at 40, and 30 to raise it.
use Rattle.std.specs.Prelude.{ℕ, List, [], ◌∷◌, ◌++◌, take, false}
use Rattle.field_bounds.specs.declared.id.TxnId.{TxnId}
use Rattle.field_bounds.specs.declared.entry.Command.TheVariants.{Begin, Commit, Restate, Read, Share, Restart}
use Rattle.field_bounds.specs.declared.kind.Kind.TheVariants.{Lower, Raise}
use Rattle.field_bounds.specs.declared.entry.Last.{Last}
use Rattle.field_bounds.specs.declared.entry.Last.TheVariants.{Nothing, Kept, Lost}
use Rattle.field_bounds.specs.declared.entry.Reply.TheVariants.{Begun, Granted, Stated, Shares, Restarted, Unsure, StillDown, Refused}
use Rattle.field_bounds.specs.declared.entry.Refusal.TheVariants.{Down, NoTransaction, NumbersFull}
use Rattle.field_bounds.specs.declared.entry.Entry.{Entry}
use Rattle.field_bounds.specs.Effects.{Base}
use Rattle.field_bounds.specs.Worked.{stock, txn, lower_by, row_entry}
use Rattle.field_bounds.specs.WorkedGifts.{site, give_lower, spare_raise}

-- ---- how a row is written

-- The transaction of a number, in the epoch of a restart.
abbrev pub txn_of : ℕ → ℕ → TxnId
txn_of epoch n = record { epoch = epoch; number = n }

-- A restart that ended so.
abbrev pub entry_restarted : ℕ → Last → Entry
entry_restarted epoch found = row_entry Restart (Restarted epoch found)

-- A restart that failed.
abbrev pub still_down : Entry
still_down = row_entry Restart StillDown

-- ---- rows

-- The restart aborts the open transaction, whose id is gone, and the next one begins in the new epoch.
abbrev pub row_aborted : List Entry
row_aborted =
    row_entry Begin (Begun (txn 1))
    ∷ row_entry (lower_by 1 20) Granted
    ∷ entry_restarted 1 Nothing
    ∷ row_entry (Commit (txn 1)) (Refused NoTransaction)
    ∷ row_entry Begin (Begun (txn_of 1 1))
    ∷ []

-- A commit of 20 is in doubt, and the site is down.
abbrev pub in_doubt : List Entry
in_doubt =
    row_entry Begin (Begun (txn 1))
    ∷ row_entry (lower_by 1 20) Granted
    ∷ row_entry (Commit (txn 1)) Unsure
    ∷ row_entry (Read stock) (Refused Down)
    ∷ []

-- It was lost: the rights are free again.
abbrev pub row_lost : List Entry
row_lost = in_doubt ++ entry_restarted 1 Lost ∷ row_entry (Share stock) (Shares 20 30) ∷ []

-- It was kept: the rights are spent.
abbrev pub row_kept : List Entry
row_kept = in_doubt ++ entry_restarted 1 Kept ∷ row_entry (Share stock) (Shares 0 50) ∷ []

-- A restart fails, and used up no epoch.
abbrev pub kept_late : List Entry
kept_late = take 3 in_doubt ++ still_down ∷ entry_restarted 1 Kept ∷ []

-- A restart fails, and used up epoch 1.
abbrev pub epoch_used : List Entry
epoch_used = still_down ∷ entry_restarted 2 Nothing ∷ []

-- A gift in doubt that was kept is stated after the restart.
abbrev pub gift_kept : List Entry
gift_kept =
    row_entry (give_lower 1 5) Unsure
    ∷ entry_restarted 1 Kept
    ∷ row_entry (Restate (site 1) stock Lower) (Stated 5)
    ∷ row_entry (Share stock) (Shares 15 30)
    ∷ []

-- A spare in doubt that was kept is a gift of what it would have been answered: of 30 rights the half.
abbrev pub spare_kept : List Entry
spare_kept =
    row_entry (spare_raise 1 100) Unsure
    ∷ entry_restarted 1 Kept
    ∷ row_entry (Restate (site 1) stock Raise) (Stated 15)
    ∷ row_entry (Share stock) (Shares 20 15)
    ∷ []

-- One that was lost leaves all as it was.
abbrev pub spare_lost : List Entry
spare_lost = take 1 spare_kept ++ entry_restarted 1 Lost ∷ row_entry (Share stock) (Shares 20 30) ∷ []

-- ---- the last epoch

-- A base that is down, in the last epoch, with 10 rights of each kind.
abbrev pub row_spent : Base
row_spent = record { up = false; epoch = 1_000_000_000; rights = λ _ _. 10; cut = λ _ _. 0; given = λ _ _ _. 0; accepted = λ _ _ _. 0 }

-- Nothing but a restart is answered, and none is left.
abbrev pub no_epoch_left : List Entry
no_epoch_left = row_entry Begin (Refused Down) ∷ row_entry Restart (Refused NumbersFull) ∷ []
