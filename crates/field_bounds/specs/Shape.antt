-- The shape of a reply, and of a command: what up and down, epochs, counts and records go by.
use Rattle.std.specs.Prelude.{ℕ, Bool, true, false, Option, Some, None}
use Rattle.field_bounds.specs.declared.id.TxnId.{TxnId}
use Rattle.field_bounds.specs.declared.entry.Command.{Command}
use Rattle.field_bounds.specs.declared.entry.Command.TheVariants as commands
use Rattle.field_bounds.specs.declared.entry.Reply.{Reply}
use Rattle.field_bounds.specs.declared.entry.Reply.TheVariants.{Begun, Granted, Committed, Aborted, Given, Stated, Spared, Tightened, Accepted, Between, Shares, Restarted, Unsure, StillDown, Refused}
use Rattle.field_bounds.specs.declared.entry.Last.{Last}
use Rattle.field_bounds.specs.declared.entry.Refusal.{Refusal}

-- A reply answers its command, or tells of a restart in an epoch and of what that found, or leaves the command in doubt, or
-- tells of a restart that failed, or refuses (this project).
pub data ReplyShape : Type 0 where
  answered : ReplyShape
  restarted : ℕ → Last → ReplyShape
  in_doubt : ReplyShape
  stays_down : ReplyShape
  refused : Refusal → ReplyShape

abbrev pub shape : Reply → ReplyShape
shape (Begun txn) = answered
shape Granted = answered
shape Committed = answered
shape Aborted = answered
shape (Given total) = answered
shape (Stated total) = answered
shape (Spared amount total) = answered
shape (Tightened total) = answered
shape (Accepted gain) = answered
shape (Between lo hi) = answered
shape (Shares lower raise) = answered
shape (Restarted epoch last) = restarted epoch last
shape Unsure = in_doubt
shape StillDown = stays_down
shape (Refused refusal) = refused refusal

-- Whether a command is a restart: the one that reads what is kept, and is answered by what it finds (this project).
abbrev pub asks_restart : Command → Bool
asks_restart commands.Begin = false
asks_restart (commands.Escrow txn field change) = false
asks_restart (commands.Commit txn) = false
asks_restart (commands.Abort txn) = false
asks_restart (commands.Give to field kind amount) = false
asks_restart (commands.Restate to field kind) = false
asks_restart (commands.Spare to field kind want) = false
asks_restart (commands.Tighten field kind amount) = false
asks_restart (commands.Accept told) = false
asks_restart (commands.Read field) = false
asks_restart (commands.Share field) = false
asks_restart commands.Restart = true

-- Whether a command takes a statement in (Balegas and others 2015).
abbrev pub is_accept : Command → Bool
is_accept commands.Begin = false
is_accept (commands.Escrow txn field change) = false
is_accept (commands.Commit txn) = false
is_accept (commands.Abort txn) = false
is_accept (commands.Give to field kind amount) = false
is_accept (commands.Restate to field kind) = false
is_accept (commands.Spare to field kind want) = false
is_accept (commands.Tighten field kind amount) = false
is_accept (commands.Accept told) = true
is_accept (commands.Read field) = false
is_accept (commands.Share field) = false
is_accept commands.Restart = false

-- The transaction that a command ends, where it ends one (O'Neil 1986).
abbrev pub txn_ended : Command → Option TxnId
txn_ended commands.Begin = None
txn_ended (commands.Escrow txn field change) = None
txn_ended (commands.Commit txn) = Some txn
txn_ended (commands.Abort txn) = Some txn
txn_ended (commands.Give to field kind amount) = None
txn_ended (commands.Restate to field kind) = None
txn_ended (commands.Spare to field kind want) = None
txn_ended (commands.Tighten field kind amount) = None
txn_ended (commands.Accept told) = None
txn_ended (commands.Read field) = None
txn_ended (commands.Share field) = None
txn_ended commands.Restart = None

-- Whether a command makes the escrow journal longer, for which a site takes memory (O'Neil 1986).
abbrev pub grows_journal : Command → Bool
grows_journal commands.Begin = true
grows_journal (commands.Escrow txn field change) = true
grows_journal (commands.Commit txn) = false
grows_journal (commands.Abort txn) = false
grows_journal (commands.Give to field kind amount) = false
grows_journal (commands.Restate to field kind) = false
grows_journal (commands.Spare to field kind want) = false
grows_journal (commands.Tighten field kind amount) = false
grows_journal (commands.Accept told) = false
grows_journal (commands.Read field) = false
grows_journal (commands.Share field) = false
grows_journal commands.Restart = false
