-- Commands and replies in numbers (this project).
use Rattle.std.specs.Prelude.{◌≡◌, ℕ, pos, ◌==◌, if◌then◌else◌, Option, Some, None}
use Rattle.field_bounds.specs.declared.kind.Kind.{Kind}
use Rattle.field_bounds.specs.declared.kind.Kind.TheVariants.{Lower, Raise}
use Rattle.field_bounds.specs.declared.id.SiteNo.{SiteNo}
use Rattle.field_bounds.specs.declared.id.FieldNo.{FieldNo}
use Rattle.field_bounds.specs.declared.id.TxnId.{TxnId}
use Rattle.field_bounds.specs.declared.entry.Statement.{Statement}
use Rattle.field_bounds.specs.declared.entry.Command.{Command}
use Rattle.field_bounds.specs.declared.entry.Command.TheVariants.{Begin, Escrow, Commit, Abort, Give, Restate, Spare, Tighten, Accept, Read, Share, Restart}
use Rattle.field_bounds.specs.declared.entry.Last.{Last}
use Rattle.field_bounds.specs.declared.entry.Last.TheVariants.{Nothing, Kept, Lost}
use Rattle.field_bounds.specs.declared.entry.Refusal.{Refusal}
use Rattle.field_bounds.specs.declared.entry.Refusal.TheVariants.{Down, NoSite, NoField, NoTransaction, Zero, TooLarge, Short, SelfGift, LedgerFull, NotYours, Forged, TooManyOpen, TooManyEscrows, NumbersFull, NothingGiven}
use Rattle.field_bounds.specs.declared.entry.Reply.{Reply}
use Rattle.field_bounds.specs.declared.entry.Reply.TheVariants.{Begun, Granted, Committed, Aborted, Given, Stated, Spared, Tightened, Accepted, Between, Shares, Restarted, Unsure, StillDown, Refused}
use Rattle.escrow_c.specs.declared.ask.Ask.{Ask}
use Rattle.escrow_c.specs.declared.answer.Answer.{Answer}

-- ---- commands

-- A kind of right by its number: 0 to lower, 1 to raise.
abbrev pub right_of : ℕ → Option Kind
right_of right = if right == 0 then Some Lower else if right == 1 then Some Raise else None

-- The statement that is accepted.
abbrev pub statement_of : Ask → Kind → Statement
statement_of ask kind =
    record { from = record { 0 = ask.from }; to = record { 0 = ask.to }; field = record { 0 = ask.field }; kind = kind; total = ask.amount }

-- The commands that name a kind of right, by their numbers.
abbrev pub gift_of : Ask → Kind → Option Command
gift_of ask kind =
    if ask.kind == 5 then Some (Give (record { 0 = ask.to }) (record { 0 = ask.field }) kind ask.amount)
    else if ask.kind == 6 then Some (Restate (record { 0 = ask.to }) (record { 0 = ask.field }) kind)
    else if ask.kind == 7 then Some (Spare (record { 0 = ask.to }) (record { 0 = ask.field }) kind ask.amount)
    else if ask.kind == 8 then Some (Tighten (record { 0 = ask.field }) kind ask.amount)
    else if ask.kind == 9 then Some (Accept (statement_of ask kind))
    else None

-- The same, where the number of the kind of right may be none.
abbrev pub gift_by : Ask → Option Kind → Option Command
gift_by ask None = None
gift_by ask (Some kind) = gift_of ask kind

-- The transaction that is named.
abbrev pub txn_of : Ask → TxnId
txn_of ask = record { epoch = ask.epoch; number = ask.number }

-- The commands by their numbers.
abbrev pub command_of : Ask → Option Command
command_of ask =
    if ask.kind == 1 then Some Begin
    else if ask.kind == 2 then Some (Escrow (txn_of ask) (record { 0 = ask.field }) ask.change)
    else if ask.kind == 3 then Some (Commit (txn_of ask))
    else if ask.kind == 4 then Some (Abort (txn_of ask))
    else if ask.kind == 10 then Some (Read (record { 0 = ask.field }))
    else if ask.kind == 11 then Some (Share (record { 0 = ask.field }))
    else if ask.kind == 12 then Some Restart
    else gift_by ask (right_of ask.right)

-- ---- each command has numbers

-- The number of a kind of right.
abbrev pub right_number : Kind → ℕ
right_number Lower = 0
right_number Raise = 1

-- A command of a kind that names nothing.
abbrev pub plain_ask : ℕ → Ask
plain_ask kind =
    record { kind = kind; right = 0; epoch = 0; number = 0; field = 0; from = 0; to = 0; amount = 0; change = pos 0 }

-- One that names a transaction.
abbrev pub txn_ask : ℕ → TxnId → Ask
txn_ask kind txn = record (plain_ask kind) { epoch = txn.epoch; number = txn.number }

-- One that names rights.
abbrev pub rights_ask : ℕ → SiteNo → FieldNo → Kind → ℕ → Ask
rights_ask kind to field right amount =
    record (plain_ask kind) { right = right_number right; field = field.0; to = to.0; amount = amount }

-- The numbers of a command.
abbrev pub ask_of : Command → Ask
ask_of Begin = plain_ask 1
ask_of (Escrow txn field change) = record (txn_ask 2 txn) { field = field.0; change = change }
ask_of (Commit txn) = txn_ask 3 txn
ask_of (Abort txn) = txn_ask 4 txn
ask_of (Give to field kind amount) = rights_ask 5 to field kind amount
ask_of (Restate to field kind) = rights_ask 6 to field kind 0
ask_of (Spare to field kind want) = rights_ask 7 to field kind want
ask_of (Tighten field kind amount) = rights_ask 8 (record { 0 = 0 }) field kind amount
ask_of (Accept told) = record (rights_ask 9 told.to told.field told.kind told.total) { from = told.from.0 }
ask_of (Read field) = record (plain_ask 10) { field = field.0 }
ask_of (Share field) = record (plain_ask 11) { field = field.0 }
ask_of Restart = plain_ask 12

-- ---- replies

-- What a restart found, as a number.
abbrev pub last_number : Last → ℕ
last_number Nothing = 0
last_number Kept = 1
last_number Lost = 2

-- A kind that tells two numbers; what it doesn't tell is 0.
abbrev pub told_answer : ℕ → ℕ → ℕ → Answer
told_answer kind first second =
    record { kind = kind; code = 0; first = first; second = second; low = pos 0; high = pos 0 }

-- The refusal of this number.
abbrev pub refused_answer : ℕ → ℕ → Answer
refused_answer code first = record { kind = 15; code = code; first = first; second = 0; low = pos 0; high = pos 0 }

-- A refusal: its number, and what it tells.
abbrev pub refusal_answer : Refusal → Answer
refusal_answer Down = refused_answer 1 0
refusal_answer NoSite = refused_answer 2 0
refusal_answer NoField = refused_answer 3 0
refusal_answer NoTransaction = refused_answer 4 0
refusal_answer Zero = refused_answer 5 0
refusal_answer TooLarge = refused_answer 6 0
refusal_answer (Short share) = refused_answer 7 share
refusal_answer SelfGift = refused_answer 8 0
refusal_answer (LedgerFull total) = refused_answer 9 total
refusal_answer NotYours = refused_answer 10 0
refusal_answer (Forged room) = refused_answer 11 room
refusal_answer TooManyOpen = refused_answer 12 0
refusal_answer TooManyEscrows = refused_answer 13 0
refusal_answer NumbersFull = refused_answer 14 0
refusal_answer NothingGiven = refused_answer 15 0

-- The numbers of a reply.
abbrev pub answer_of : Reply → Answer
answer_of (Begun txn) = told_answer 1 txn.epoch txn.number
answer_of Granted = told_answer 2 0 0
answer_of Committed = told_answer 3 0 0
answer_of Aborted = told_answer 4 0 0
answer_of (Given total) = told_answer 5 total 0
answer_of (Stated total) = told_answer 6 total 0
answer_of (Spared amount total) = told_answer 7 amount total
answer_of (Tightened total) = told_answer 8 total 0
answer_of (Accepted gain) = told_answer 9 gain 0
answer_of (Between lo hi) = record (told_answer 10 0 0) { low = lo; high = hi }
answer_of (Shares lower raise) = told_answer 11 lower raise
answer_of (Restarted epoch found) = record (told_answer 12 epoch 0) { code = last_number found }
answer_of Unsure = told_answer 13 0 0
answer_of StillDown = told_answer 14 0 0
answer_of (Refused refusal) = refusal_answer refusal

-- ---- nothing is lost in numbers

-- Each command is that of some numbers.
abbrev pub CommandsHaveNumbers : Type 0
CommandsHaveNumbers = (command : Command) → command_of (ask_of command) ≡ Some command

-- Two replies of the same numbers are one.
abbrev pub NumbersTellReplies : Type 0
NumbersTellReplies = (reply other : Reply) → answer_of reply ≡ answer_of other → reply ≡ other
