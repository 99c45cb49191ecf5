-- Which entries of a site leave a record in its log (this project). Entries have the newest first. They are told by commands
-- and replies alone, so that a trace that was read from a file tells it by itself.
use Rattle.std.specs.Prelude.{◌≡◌, ℕ, ◌+◌, nat_lt, Bool, true, false, ◌||◌, if◌then◌else◌, List, [], ◌∷◌}
use Rattle.field_bounds.specs.declared.id.TxnId.{TxnId}
use Rattle.field_bounds.specs.declared.entry.Command.{Command}
use Rattle.field_bounds.specs.declared.entry.Command.TheVariants.{Begin, Escrow, Commit, Abort, Give, Restate, Spare, Tighten, Accept, Read, Share, Restart}
use Rattle.field_bounds.specs.declared.entry.Reply.{Reply}
use Rattle.field_bounds.specs.declared.entry.Reply.TheVariants.{Begun, Granted, Committed, Aborted, Given, Stated, Spared, Tightened, Accepted, Between, Shares, Restarted, Unsure, StillDown, Refused}
use Rattle.field_bounds.specs.declared.entry.Entry.{Entry}
use Rattle.field_bounds.specs.Effects.{same_txn}
use Rattle.field_bounds.specs.Owed.{is_unsure, is_still_down}

-- Whether the command names this transaction.
abbrev pub names : TxnId → Command → Bool
names txn Begin = false
names txn (Escrow named field change) = same_txn txn named
names txn (Commit named) = same_txn txn named
names txn (Abort named) = same_txn txn named
names txn (Give to field kind amount) = false
names txn (Restate to field kind) = false
names txn (Spare to field kind want) = false
names txn (Tighten field kind amount) = false
names txn (Accept told) = false
names txn (Read field) = false
names txn (Share field) = false
names txn Restart = false

-- Whether a transaction has an escrow after a reply, if it had one before: it has none where it is begun, and one where one
-- is granted to it.
abbrev pub escrow_after : TxnId → Command → Bool → Reply → Bool
escrow_after txn command before (Begun begun) = if same_txn begun txn then false else before
escrow_after txn command before Granted = names txn command || before
escrow_after txn command before Committed = before
escrow_after txn command before Aborted = before
escrow_after txn command before (Given total) = before
escrow_after txn command before (Stated total) = before
escrow_after txn command before (Spared amount total) = before
escrow_after txn command before (Tightened total) = before
escrow_after txn command before (Accepted gain) = before
escrow_after txn command before (Between lo hi) = before
escrow_after txn command before (Shares lower raise) = before
escrow_after txn command before (Restarted epoch found) = before
escrow_after txn command before Unsure = before
escrow_after txn command before StillDown = before
escrow_after txn command before (Refused refusal) = before

-- Whether a transaction was granted an escrow since it was begun.
abbrev pub has_escrow : TxnId → List Entry → Bool
has_escrow txn [] = false
has_escrow txn (e ∷ o) = escrow_after txn e.command (has_escrow txn o) e.reply

-- Whether the command is the commit of such a transaction.
abbrev pub commits_escrow : List Entry → Command → Bool
commits_escrow o Begin = false
commits_escrow o (Escrow txn field change) = false
commits_escrow o (Commit txn) = has_escrow txn o
commits_escrow o (Abort txn) = false
commits_escrow o (Give to field kind amount) = false
commits_escrow o (Restate to field kind) = false
commits_escrow o (Spare to field kind want) = false
commits_escrow o (Tighten field kind amount) = false
commits_escrow o (Accept told) = false
commits_escrow o (Read field) = false
commits_escrow o (Share field) = false
commits_escrow o Restart = false

-- Whether the command leaves a record behind these entries where it is answered so: a gift, a spare, a tightening and a
-- restart do, a commit of a transaction that was granted an escrow, and an acceptance with a gain.
abbrev pub leaves_record : List Entry → Command → Reply → Bool
leaves_record o command (Begun txn) = false
leaves_record o command Granted = false
leaves_record o command Committed = commits_escrow o command
leaves_record o command Aborted = false
leaves_record o command (Given total) = true
leaves_record o command (Stated total) = false
leaves_record o command (Spared amount total) = true
leaves_record o command (Tightened total) = true
leaves_record o command (Accepted gain) = nat_lt 0 gain
leaves_record o command (Between lo hi) = false
leaves_record o command (Shares lower raise) = false
leaves_record o command (Restarted epoch found) = true
leaves_record o command Unsure = false
leaves_record o command StillDown = false
leaves_record o command (Refused refusal) = false

-- How many records entries leave.
abbrev pub records_left : List Entry → ℕ
records_left [] = 0
records_left (e ∷ o) = (if leaves_record o e.command e.reply then 1 else 0) + records_left o

-- No reply is in doubt, and no restart failed: so it is at a site over a medium that never fails.
abbrev pub AreSure : List Entry → Type 0
AreSure [] = Unit {0}
AreSure (e ∷ o) = (is_unsure e.reply ≡ false) × (is_still_down e.reply ≡ false) × AreSure o
