-- The reply that a site owes, as a test of a reply that is given (this project).
use Rattle.std.specs.Prelude.{ℕ, ◌+◌, ◌==◌, nat_le, Bool, true, false, not, ◌&&◌, ◌||◌, if◌then◌else◌, Option, Some, None}
use Rattle.std.specs.Ordering.{int_eq}
use Rattle.field_bounds.specs.declared.entry.Command.{Command}
use Rattle.field_bounds.specs.declared.entry.Reply.{Reply}
use Rattle.field_bounds.specs.declared.entry.Reply.TheVariants.{Begun, Granted, Committed, Aborted, Given, Stated, Spared, Tightened, Accepted, Between, Shares, Restarted, Unsure, StillDown, Refused}
use Rattle.field_bounds.specs.declared.entry.Refusal.{Refusal}
use Rattle.field_bounds.specs.declared.entry.Refusal.TheVariants.{Down, NoSite, NoField, NoTransaction, Zero, TooLarge, Short, SelfGift, LedgerFull, NotYours, Forged, TooManyOpen, TooManyEscrows, NumbersFull, NothingGiven}
use Rattle.field_bounds.specs.declared.entry.Last.{Last}
use Rattle.field_bounds.specs.declared.entry.Last.TheVariants.{Nothing, Kept, Lost}
use Rattle.field_bounds.specs.Effects.{same_txn}
use Rattle.field_bounds.specs.Owed.{Place, first, refusals, answer, writes, epoch_of, count_since, is_still_down, is_unsure, max_epoch}
use Rattle.field_bounds.specs.Shape.{answered, restarted, in_doubt, stays_down, refused, shape, asks_restart}

-- ---- whether two replies are the same

abbrev pub same_refusal : Refusal → Refusal → Bool
same_refusal Down Down = true
same_refusal Down b = false
same_refusal NoSite NoSite = true
same_refusal NoSite b = false
same_refusal NoField NoField = true
same_refusal NoField b = false
same_refusal NoTransaction NoTransaction = true
same_refusal NoTransaction b = false
same_refusal Zero Zero = true
same_refusal Zero b = false
same_refusal TooLarge TooLarge = true
same_refusal TooLarge b = false
same_refusal (Short a) (Short b) = a == b
same_refusal (Short a) b = false
same_refusal SelfGift SelfGift = true
same_refusal SelfGift b = false
same_refusal (LedgerFull a) (LedgerFull b) = a == b
same_refusal (LedgerFull a) b = false
same_refusal NotYours NotYours = true
same_refusal NotYours b = false
same_refusal (Forged a) (Forged b) = a == b
same_refusal (Forged a) b = false
same_refusal TooManyOpen TooManyOpen = true
same_refusal TooManyOpen b = false
same_refusal TooManyEscrows TooManyEscrows = true
same_refusal TooManyEscrows b = false
same_refusal NumbersFull NumbersFull = true
same_refusal NumbersFull b = false
same_refusal NothingGiven NothingGiven = true
same_refusal NothingGiven b = false

abbrev pub same_found : Last → Last → Bool
same_found Nothing Nothing = true
same_found Nothing b = false
same_found Kept Kept = true
same_found Kept b = false
same_found Lost Lost = true
same_found Lost b = false

abbrev pub same_reply : Reply → Reply → Bool
same_reply (Begun a) (Begun b) = same_txn a b
same_reply (Begun a) b = false
same_reply Granted Granted = true
same_reply Granted b = false
same_reply Committed Committed = true
same_reply Committed b = false
same_reply Aborted Aborted = true
same_reply Aborted b = false
same_reply (Given a) (Given b) = a == b
same_reply (Given a) b = false
same_reply (Stated a) (Stated b) = a == b
same_reply (Stated a) b = false
same_reply (Spared a x) (Spared b y) = (a == b) && (x == y)
same_reply (Spared a x) b = false
same_reply (Tightened a) (Tightened b) = a == b
same_reply (Tightened a) b = false
same_reply (Accepted a) (Accepted b) = a == b
same_reply (Accepted a) b = false
same_reply (Between a x) (Between b y) = int_eq a b && int_eq x y
same_reply (Between a x) b = false
same_reply (Shares a x) (Shares b y) = (a == b) && (x == y)
same_reply (Shares a x) b = false
same_reply (Restarted a x) (Restarted b y) = (a == b) && same_found x y
same_reply (Restarted a x) b = false
same_reply Unsure Unsure = true
same_reply Unsure b = false
same_reply StillDown StillDown = true
same_reply StillDown b = false
same_reply (Refused a) (Refused b) = same_refusal a b
same_reply (Refused a) b = false

-- ---- the reply that is owed

-- A restart tells that nothing was in doubt exactly where no reply since the last restart was.
abbrev pub found_test : ℕ → Last → Bool
found_test unsure found = if unsure == 0 then same_found found Nothing else not (same_found found Nothing)

-- What a restart may answer, in an epoch, with so many restarts that failed and so many replies in doubt since the last one.
abbrev pub restart_test : ℕ → ℕ → ℕ → Reply → Bool
restart_test epoch still unsure r =
    elim (shape r) [
      | answered ↦ false
      | restarted next found ↦ nat_le (epoch + 1) next && (nat_le next (epoch + still + 1) && (nat_le next max_epoch && found_test unsure found))
      | in_doubt ↦ false
      | stays_down ↦ true
      | refused refusal ↦ same_refusal refusal NumbersFull && nat_le max_epoch (epoch + still)
    ]

-- The reply is the refusal, or else the answer, or in doubt where it may be.
abbrev pub answer_test : Option Refusal → Reply → Bool → Reply → Bool
answer_test None owed unsure reply = same_reply reply owed || (is_unsure reply && unsure)
answer_test (Some refusal) owed unsure reply = same_reply reply (Refused refusal)

-- Whether a site may give this reply to this command.
abbrev pub reply_test : Place → Command → Reply → Bool
reply_test at command reply =
    if asks_restart command
    then restart_test (epoch_of at.base at.entries) (count_since is_still_down at.entries) (count_since is_unsure at.entries) reply
    else answer_test (first (refusals at command)) (answer at command) (writes at command) reply
