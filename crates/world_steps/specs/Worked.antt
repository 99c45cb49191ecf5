-- Worked rows of a world of two sites (this project). Of a field from 0 to 100 at 40, each site has 20 rights to lower it
-- and 30 to raise it.
use Rattle.std.specs.Prelude.{◌≡◌, ℕ, pos, List, [], ◌∷◌, ◌++◌, reverse, map, Option, Some, None}
use Rattle.field_bounds.specs.declared.kind.Kind.TheVariants.{Lower, Raise}
use Rattle.field_bounds.specs.declared.id.TxnId.{TxnId}
use Rattle.field_bounds.specs.declared.entry.Command.{Command}
use Rattle.field_bounds.specs.declared.entry.Command.TheVariants.{Begin, Commit, Restate, Read, Share, Restart}
use Rattle.field_bounds.specs.declared.entry.Last.TheVariants.{Nothing, Kept, Lost}
use Rattle.field_bounds.specs.declared.entry.Reply.{Reply}
use Rattle.field_bounds.specs.declared.entry.Reply.TheVariants.{Begun, Granted, Given, Stated, Tightened, Accepted, Between, Shares, Restarted, Unsure, StillDown, Refused}
use Rattle.field_bounds.specs.declared.entry.Refusal.TheVariants.{Down, NoTransaction, NoField, Zero, Short, SelfGift, NothingGiven}
use Rattle.field_bounds.specs.declared.entry.Entry.{Entry}
use Rattle.field_bounds.specs.Worked.{halved_shelf, stock, unknown, txn, lower_by, row_entry}
use Rattle.field_bounds.specs.WorkedGifts.{site, give_lower}
use Rattle.field_bounds.specs.WorkedTightenings.{raise_floor, lower_ceiling}
use Rattle.kept_state.specs.declared.luck.Luck.TheVariants.{Fine, Torn}
use Rattle.world_steps.specs.declared.step.WorldStep.{WorldStep}
use Rattle.world_steps.specs.declared.step.WorldStep.TheVariants.{Do, Deliver}
use Rattle.world_steps.specs.World.{trace_by}

-- ---- how a row is written

-- Steps in order, each with the reply of its entry; None where it makes no entry.
abbrev pub Row : Type 0
Row = List (WorldStep × Option Reply)

-- A site is asked, and its append is whole.
abbrev pub fine : ℕ → Command → Reply → WorldStep × Option Reply
fine s command reply = (Do (site s) command Fine, Some reply)

-- A site is asked, and its append is torn: so many bytes are kept.
abbrev pub torn : ℕ → Command → ℕ → Reply → WorldStep × Option Reply
torn s command bytes reply = (Do (site s) command (Torn bytes), Some reply)

-- The first statement is delivered.
abbrev pub step_delivered : Reply → WorldStep × Option Reply
step_delivered reply = (Deliver 1 Fine, Some reply)

-- The transaction of a number, in the epoch of a restart.
abbrev pub txn_of : ℕ → ℕ → TxnId
txn_of epoch n = record { epoch = epoch; number = n }

-- The steps of a row, and the replies that it tells.
abbrev pub steps_of : Row → List WorldStep
steps_of row = map (λ (x : WorldStep × Option Reply). x.0) row

abbrev pub told_reply : Option Reply → List Reply → List Reply
told_reply None replies = replies
told_reply (Some reply) replies = reply ∷ replies

abbrev pub replies_of : Row → List Reply
replies_of [] = []
replies_of (x ∷ row) = told_reply x.1 (replies_of row)

-- The steps make a trace of these replies.
abbrev pub Comes : Row → Type 0
Comes row = map (λ (e : Entry). e.reply) (reverse (trace_by halved_shelf (steps_of row))) ≡ replies_of row

-- After a row, this step with its reply doesn't come.
abbrev pub NeverComes : Row → WorldStep × Option Reply → Type 0
NeverComes row x = ¬ Comes (row ++ x ∷ [])

-- ---- gifts that come late and twice

-- Site 1 is short of 25 until it takes in what site 0 gave; a second delivery brings nothing.
abbrev pub passed_on : Row
passed_on =
    fine 0 (give_lower 1 5) (Given 5)
    ∷ fine 1 Begin (Begun (txn 1))
    ∷ fine 1 (lower_by 1 25) (Refused (Short 20))
    ∷ step_delivered (Accepted 5)
    ∷ fine 1 (lower_by 1 25) Granted
    ∷ step_delivered (Accepted 0)
    ∷ []

-- The later of two statements is delivered first, and tells of both gifts.
abbrev pub out_of_order : Row
out_of_order =
    fine 0 (give_lower 1 3) (Given 3)
    ∷ fine 0 (give_lower 1 2) (Given 5)
    ∷ (Deliver 2 Fine, Some (Accepted 5))
    ∷ step_delivered (Accepted 0)
    ∷ []

-- ---- stops

-- The restart aborts the open transaction, and the next one begins in the new epoch.
abbrev pub row_aborted : Row
row_aborted =
    fine 0 Begin (Begun (txn 1))
    ∷ fine 0 (lower_by 1 20) Granted
    ∷ fine 0 Restart (Restarted 1 Nothing)
    ∷ fine 0 (Commit (txn 1)) (Refused NoTransaction)
    ∷ fine 0 Begin (Begun (txn_of 1 1))
    ∷ []

-- The record of the commit, `C 0 1 0 -20`, has 12 bytes with its line feed: 11 of them are kept, and it is lost.
abbrev pub row_lost : Row
row_lost =
    fine 0 Begin (Begun (txn 1))
    ∷ fine 0 (lower_by 1 20) Granted
    ∷ torn 0 (Commit (txn 1)) 11 Unsure
    ∷ fine 0 (Read stock) (Refused Down)
    ∷ fine 0 Restart (Restarted 1 Lost)
    ∷ fine 0 (Share stock) (Shares 20 30)
    ∷ []

-- All 12 are kept, and so is the commit.
abbrev pub row_kept : Row
row_kept =
    fine 0 Begin (Begun (txn 1))
    ∷ fine 0 (lower_by 1 20) Granted
    ∷ torn 0 (Commit (txn 1)) 12 Unsure
    ∷ fine 0 (Read stock) (Refused Down)
    ∷ fine 0 Restart (Restarted 1 Kept)
    ∷ fine 0 (Share stock) (Shares 0 50)
    ∷ []

-- A restart whose record is torn fails, and uses up no epoch.
abbrev pub kept_late : Row
kept_late =
    fine 0 Begin (Begun (txn 1))
    ∷ fine 0 (lower_by 1 20) Granted
    ∷ torn 0 (Commit (txn 1)) 12 Unsure
    ∷ torn 0 Restart 2 StillDown
    ∷ fine 0 Restart (Restarted 1 Kept)
    ∷ []

-- The record of a restart, `R 1`, has 4 bytes: where all are kept, its epoch is used up.
abbrev pub epoch_used : Row
epoch_used = torn 0 Restart 4 StillDown ∷ fine 0 Restart (Restarted 2 Nothing) ∷ []

-- A gift in doubt issues no statement. It was kept, and once it is stated, it can be delivered.
abbrev pub gift_kept : Row
gift_kept =
    torn 0 (give_lower 1 5) 10 Unsure
    ∷ (Deliver 1 Fine, None)
    ∷ fine 0 Restart (Restarted 1 Kept)
    ∷ fine 0 (Restate (site 1) stock Lower) (Stated 5)
    ∷ step_delivered (Accepted 5)
    ∷ []

-- The receiver's record, `A 0 0 l 5`, has 10 bytes: all are kept, and a second delivery brings nothing.
abbrev pub taken_in : Row
taken_in =
    fine 0 (give_lower 1 5) (Given 5)
    ∷ (Deliver 1 (Torn 10), Some Unsure)
    ∷ step_delivered (Refused Down)
    ∷ fine 1 Restart (Restarted 1 Kept)
    ∷ step_delivered (Accepted 0)
    ∷ fine 1 (Share stock) (Shares 25 30)
    ∷ []

-- 9 of them are kept, and the second delivery brings what the first one lost.
abbrev pub taken_in_late : Row
taken_in_late =
    fine 0 (give_lower 1 5) (Given 5)
    ∷ (Deliver 1 (Torn 9), Some Unsure)
    ∷ step_delivered (Refused Down)
    ∷ fine 1 Restart (Restarted 1 Lost)
    ∷ step_delivered (Accepted 5)
    ∷ fine 1 (Share stock) (Shares 25 30)
    ∷ []

-- What is in doubt at one site doesn't touch what another one reads.
abbrev pub read_elsewhere : Row
read_elsewhere =
    fine 0 Begin (Begun (txn 1))
    ∷ fine 0 (lower_by 1 20) Granted
    ∷ torn 0 (Commit (txn 1)) 12 Unsure
    ∷ fine 1 (Read stock) (Between (pos 20) (pos 70))
    ∷ fine 0 Restart (Restarted 1 Kept)
    ∷ fine 1 (Read stock) (Between (pos 20) (pos 70))
    ∷ []

-- ---- bounds that are tightened

-- Both bounds are tightened at site 0: its share is less by that, and what it reads stays as it was.
abbrev pub row_tightened : Row
row_tightened =
    fine 0 (raise_floor 5) (Tightened 5)
    ∷ fine 0 (Share stock) (Shares 15 30)
    ∷ fine 0 (Read stock) (Between (pos 20) (pos 70))
    ∷ fine 0 (raise_floor 16) (Refused (Short 15))
    ∷ fine 0 (lower_ceiling 30) (Tightened 30)
    ∷ fine 0 (Read stock) (Between (pos 20) (pos 70))
    ∷ []

-- Both sites give up all their rights to lower: at neither can the field be lowered any more.
abbrev pub none_left : Row
none_left =
    fine 0 (raise_floor 20) (Tightened 20)
    ∷ fine 1 (raise_floor 20) (Tightened 20)
    ∷ fine 0 Begin (Begun (txn 1))
    ∷ fine 0 (lower_by 1 1) (Refused (Short 0))
    ∷ []

-- The record of a tightening, `T 0 l 5`, has 8 bytes: all are kept, and the rights are gone.
abbrev pub cut_kept : Row
cut_kept =
    torn 0 (raise_floor 5) 8 Unsure
    ∷ fine 0 Restart (Restarted 1 Kept)
    ∷ fine 0 (Share stock) (Shares 15 30)
    ∷ []

-- 7 of them are kept, and the rights are free.
abbrev pub cut_lost : Row
cut_lost =
    torn 0 (raise_floor 5) 7 Unsure
    ∷ fine 0 Restart (Restarted 1 Lost)
    ∷ fine 0 (Share stock) (Shares 20 30)
    ∷ []

-- ---- refusals

-- Gifts to itself, what was never given, a change of 0 and an unknown field are refused; no statement has been issued.
abbrev pub row_refused : Row
row_refused =
    fine 0 (give_lower 0 1) (Refused SelfGift)
    ∷ fine 0 (Restate (site 1) stock Raise) (Refused NothingGiven)
    ∷ fine 0 Begin (Begun (txn 1))
    ∷ fine 0 (lower_by 1 0) (Refused Zero)
    ∷ fine 0 (Read unknown) (Refused NoField)
    ∷ (Deliver 1 Fine, None)
    ∷ []

-- ---- outcomes

-- A trace that no world makes wherever the escrow asks for more than there is: it was granted all the same, to the
-- transaction that is open. It has the newest entry first.
abbrev pub row_granted : Command → List Entry
row_granted escrow = row_entry escrow Granted ∷ row_entry Begin (Begun (txn 1)) ∷ []
