-- Nothing is lost in numbers.
use Rattle.std.proofs.Common.{◌≡◌, ℕ, eqb, cond, Some, refl, sym, ap, ◌∙◌}
use Rattle.field_bounds.specs.declared.kind.Kind.{Kind}
use Rattle.field_bounds.specs.declared.kind.Kind.TheVariants.{Lower, Raise}
use Rattle.field_bounds.specs.declared.entry.Command.{Command}
use Rattle.field_bounds.specs.declared.entry.Command.TheVariants.{Begin, Escrow, Commit, Abort, Give, Restate, Spare, Tighten, Accept, Read, Share, Restart}
use Rattle.field_bounds.specs.declared.entry.Last.{Last}
use Rattle.field_bounds.specs.declared.entry.Last.TheVariants.{Nothing, Kept, Lost}
use Rattle.field_bounds.specs.declared.entry.Refusal.{Refusal}
use Rattle.field_bounds.specs.declared.entry.Refusal.TheVariants.{Down, NoSite, NoField, NoTransaction, Zero, TooLarge, Short, SelfGift, LedgerFull, NotYours, Forged, TooManyOpen, TooManyEscrows, NumbersFull, NothingGiven}
use Rattle.field_bounds.specs.declared.entry.Reply.{Reply}
use Rattle.field_bounds.specs.declared.entry.Reply.TheVariants.{Begun, Granted, Committed, Aborted, Given, Stated, Spared, Tightened, Accepted, Between, Shares, Restarted, Unsure, StillDown, Refused}
use Rattle.escrow_c.specs.declared.ask.Ask.{Ask}
use Rattle.escrow_c.specs.declared.answer.Answer.{Answer}
use Rattle.escrow_c.specs.Numbers.{right_of, right_number, gift_of, gift_by, command_of, ask_of, answer_of, NumbersTellReplies}

-- ---- commands

right_back : (kind : Kind) → right_of (right_number kind) ≡ Some kind
right_back Lower = refl
right_back Raise = refl

by_right : (ask : Ask) (kind : Kind) → gift_by ask (right_of (right_number kind)) ≡ gift_of ask kind
by_right ask kind = ap (gift_by ask) (right_back kind)

pub spelled : (command : Command) → command_of (ask_of command) ≡ Some command
spelled Begin = refl
spelled (Escrow txn field change) = refl
spelled (Commit txn) = refl
spelled (Abort txn) = refl
spelled (Give to field kind amount) = by_right (ask_of (Give to field kind amount)) kind
spelled (Restate to field kind) = by_right (ask_of (Restate to field kind)) kind
spelled (Spare to field kind want) = by_right (ask_of (Spare to field kind want)) kind
spelled (Tighten field kind amount) = by_right (ask_of (Tighten field kind amount)) kind
spelled (Accept told) = by_right (ask_of (Accept told)) told.kind
spelled (Read field) = refl
spelled (Share field) = refl
spelled Restart = refl

-- ---- replies

-- what a number tells, where it tells anything
abbrev last_by : ℕ → Last
last_by code = cond (eqb code 0) Nothing (cond (eqb code 1) Kept Lost)

abbrev refusal_by : ℕ → ℕ → Refusal
refusal_by code told =
    cond (eqb code 1) Down (cond (eqb code 2) NoSite (cond (eqb code 3) NoField (cond (eqb code 4) NoTransaction
    (cond (eqb code 5) Zero (cond (eqb code 6) TooLarge (cond (eqb code 7) (Short told) (cond (eqb code 8) SelfGift
    (cond (eqb code 9) (LedgerFull told) (cond (eqb code 10) NotYours (cond (eqb code 11) (Forged told) (cond (eqb code 12) TooManyOpen
    (cond (eqb code 13) TooManyEscrows (cond (eqb code 14) NumbersFull NothingGiven)))))))))))))

abbrev reply_by : Answer → Reply
reply_by a =
    cond (eqb a.kind 1) (Begun (record { epoch = a.first; number = a.second })) (cond (eqb a.kind 2) Granted (cond (eqb a.kind 3) Committed
    (cond (eqb a.kind 4) Aborted (cond (eqb a.kind 5) (Given a.first) (cond (eqb a.kind 6) (Stated a.first)
    (cond (eqb a.kind 7) (Spared a.first a.second) (cond (eqb a.kind 8) (Tightened a.first) (cond (eqb a.kind 9) (Accepted a.first)
    (cond (eqb a.kind 10) (Between a.low a.high) (cond (eqb a.kind 11) (Shares a.first a.second)
    (cond (eqb a.kind 12) (Restarted a.first (last_by a.code)) (cond (eqb a.kind 13) Unsure (cond (eqb a.kind 14) StillDown
    (Refused (refusal_by a.code a.first)))))))))))))))

told : (reply : Reply) → reply_by (answer_of reply) ≡ reply
told (Begun txn) = refl
told Granted = refl
told Committed = refl
told Aborted = refl
told (Given total) = refl
told (Stated total) = refl
told (Spared amount total) = refl
told (Tightened total) = refl
told (Accepted gain) = refl
told (Between lo hi) = refl
told (Shares lower raise) = refl
told (Restarted epoch Nothing) = refl
told (Restarted epoch Kept) = refl
told (Restarted epoch Lost) = refl
told Unsure = refl
told StillDown = refl
told (Refused Down) = refl
told (Refused NoSite) = refl
told (Refused NoField) = refl
told (Refused NoTransaction) = refl
told (Refused Zero) = refl
told (Refused TooLarge) = refl
told (Refused (Short share)) = refl
told (Refused SelfGift) = refl
told (Refused (LedgerFull total)) = refl
told (Refused NotYours) = refl
told (Refused (Forged room)) = refl
told (Refused TooManyOpen) = refl
told (Refused TooManyEscrows) = refl
told (Refused NumbersFull) = refl
told (Refused NothingGiven) = refl

pub numbers_tell : NumbersTellReplies
numbers_tell reply other same = sym (told reply) ∙ ap reply_by same ∙ told other
