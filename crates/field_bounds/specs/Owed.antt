-- The reply that a site owes after its own entries, the newest first.
use Rattle.std.specs.Prelude.{◌≡◌, ℕ, ◌+◌, ◌-◌, ◌==◌, nat_lt, nat_le, ℤ, pos, ◌+ℤ◌, ◌-ℤ◌, unsigned_abs, Bool, false, true, not, ◌&&◌, if◌then◌else◌, ◌≤◌, ◌⊎◌, IsTrue, List, [], ◌∷◌, length, MatchOption, Option, Some, None, is_none}
use Rattle.field_bounds.specs.declared.kind.Kind.{Kind}
use Rattle.field_bounds.specs.declared.kind.Kind.TheVariants.{Lower, Raise}
use Rattle.field_bounds.specs.declared.id.TxnId.{TxnId}
use Rattle.field_bounds.specs.declared.id.FieldNo.{FieldNo}
use Rattle.field_bounds.specs.declared.id.SiteNo.{SiteNo}
use Rattle.field_bounds.specs.declared.entry.Command.{Command}
use Rattle.field_bounds.specs.declared.entry.Command.TheVariants.{Begin, Escrow, Commit, Abort, Give, Restate, Spare, Tighten, Accept, Read, Share, Restart}
use Rattle.field_bounds.specs.declared.entry.Reply.{Reply}
use Rattle.field_bounds.specs.declared.entry.Reply.TheVariants.{Begun, Granted, Committed, Aborted, Given, Stated, Spared, Tightened, Accepted, Between, Shares, Restarted, Unsure, StillDown, Refused}
use Rattle.field_bounds.specs.declared.entry.Last.{Last}
use Rattle.field_bounds.specs.declared.entry.Last.TheVariants.{Nothing}
use Rattle.field_bounds.specs.declared.entry.Refusal.{Refusal}
use Rattle.field_bounds.specs.declared.entry.Refusal.TheVariants.{Down, NoSite, NoField, NoTransaction, Zero, TooLarge, Short, SelfGift, LedgerFull, NotYours, Forged, TooManyOpen, TooManyEscrows, NumbersFull, NothingGiven}
use Rattle.field_bounds.specs.declared.entry.Entry.{Entry}
use Rattle.field_bounds.specs.declared.entry.Statement.{Statement}
use Rattle.field_bounds.specs.declared.effect.Effect.{Effect}
use Rattle.field_bounds.specs.declared.limits.TheConstants.{MAX_CHANGE, MAX_TOTAL, MAX_OPEN, MAX_ESCROWS, MAX_NUMBER, MAX_EPOCH}
use Rattle.field_bounds.specs.Kind.{kind_of}
use Rattle.field_bounds.specs.Schema.{SchemaValue}
use Rattle.field_bounds.specs.Parts.{field_at, width_of}
use Rattle.field_bounds.specs.Shape.{answered, restarted, in_doubt, stays_down, refused, shape, asks_restart}
use Rattle.field_bounds.specs.Effects.{Base, is_begun, is_open, open_txns, escrows_of, total_given, cut, total_accepted, share, own_rights, spare_amount, effects}

-- ---- up or down, epochs and counts

abbrev pub up_after : Bool → Reply → Bool
up_after up r = elim (shape r) [ answered ↦ up | restarted _ _ ↦ true | in_doubt ↦ false | stays_down ↦ false | refused _ ↦ up ]

-- Whether a site is up: its base is, or it restarted since, and nothing took it down after that (this project).
abbrev pub is_up : Base → List Entry → Bool
is_up base [] = base.up
is_up base (e ∷ o) = up_after (is_up base o) e.reply

abbrev pub epoch_after : ℕ → Reply → ℕ
epoch_after n r = elim (shape r) [ answered ↦ n | restarted epoch _ ↦ epoch | in_doubt ↦ n | stays_down ↦ n | refused _ ↦ n ]

-- The epoch in which a site stands: that of the last restart, or the base's (this project).
abbrev pub epoch_of : Base → List Entry → ℕ
epoch_of base [] = base.epoch
epoch_of base (e ∷ o) = epoch_after (epoch_of base o) e.reply

abbrev pub count_after : (Reply → Bool) → ℕ → Reply → ℕ
count_after p n r =
    let more = (if p r then 1 else 0) + n in
    elim (shape r) [ answered ↦ more | restarted _ _ ↦ 0 | in_doubt ↦ more | stays_down ↦ more | refused _ ↦ more ]

-- The replies since the last restart that pass.
abbrev pub count_since : (Reply → Bool) → List Entry → ℕ
count_since p [] = 0
count_since p (e ∷ o) = count_after p (count_since p o) e.reply

abbrev pub is_begun_reply : Reply → Bool
is_begun_reply (Begun txn) = true
is_begun_reply Granted = false
is_begun_reply Committed = false
is_begun_reply Aborted = false
is_begun_reply (Given total) = false
is_begun_reply (Stated total) = false
is_begun_reply (Spared amount total) = false
is_begun_reply (Tightened total) = false
is_begun_reply (Accepted gain) = false
is_begun_reply (Between lo hi) = false
is_begun_reply (Shares lower raise) = false
is_begun_reply (Restarted epoch found) = false
is_begun_reply Unsure = false
is_begun_reply StillDown = false
is_begun_reply (Refused refusal) = false

abbrev pub is_unsure : Reply → Bool
is_unsure r = elim (shape r) [ answered ↦ false | restarted _ _ ↦ false | in_doubt ↦ true | stays_down ↦ false | refused _ ↦ false ]

abbrev pub is_still_down : Reply → Bool
is_still_down r = elim (shape r) [ answered ↦ false | restarted _ _ ↦ false | in_doubt ↦ false | stays_down ↦ true | refused _ ↦ false ]

-- How many transactions are open, and how many escrows a transaction has.
abbrev pub count_open : List Effect → ℕ
count_open es = length (open_txns es)

abbrev pub count_escrows : TxnId → List Effect → ℕ
count_escrows id es = length (escrows_of id es)

-- ---- the ladder of refusals (this project; O'Neil 1986 for the test of an escrow)

-- Where a site stands when a command comes.
pub record Place : Type 0 where
  pub schema : SchemaValue
  pub site : ℕ
  pub base : Base
  pub entries : List Entry
  pub effects : List Effect

-- Where a site stands after these entries.
abbrev pub place : SchemaValue → ℕ → Base → List Entry → Place
place schema site base entries =
    record { schema = schema; site = site; base = base; entries = entries; effects = effects base false entries }

-- A test, with the refusal where it holds.
abbrev pub Test : Type 0
Test = Bool × Refusal

abbrev pub when : Bool → Refusal → Test
when test refusal = (test, refusal)

-- The refusal of the first test that holds.
abbrev pub first : List Test → Option Refusal
first [] = None
first (test ∷ rest) = if test.0 then Some test.1 else first rest

-- The greatest amount or change without its sign, the greatest total of gifts from one site to another on a field and of
-- a kind, the most open transactions, the most escrows of one, the last transaction number of an epoch, and the last epoch.
abbrev pub max_change : ℕ
max_change = MAX_CHANGE

abbrev pub max_total : ℕ
max_total = MAX_TOTAL

abbrev pub max_open : ℕ
max_open = MAX_OPEN

abbrev pub max_escrows : ℕ
max_escrows = MAX_ESCROWS

abbrev pub max_number : ℕ
max_number = MAX_NUMBER

abbrev pub max_epoch : ℕ
max_epoch = MAX_EPOCH

-- The share and the own rights of a kind on a field, where the site stands.
abbrev pub free : Place → FieldNo → Kind → ℕ
free at field kind = share at.base field.0 kind at.effects

abbrev pub own_rights_at : Place → FieldNo → Kind → ℕ
own_rights_at at field kind = own_rights at.base field.0 kind at.effects

-- What the site has given up for good so far, of a kind on a field.
abbrev pub cut_so_far : Place → FieldNo → Kind → ℕ
cut_so_far at field kind = cut at.base field.0 kind at.effects

-- What the site guards of a field's width: the rights of a kind that it owns, and those that it has given up for good.
abbrev pub guarded_rights : Place → FieldNo → Kind → ℕ
guarded_rights at field kind = cut_so_far at field kind + own_rights_at at field kind

-- The total given so far to a site, of a kind on a field.
abbrev pub told_so_far : Place → SiteNo → FieldNo → Kind → ℕ
told_so_far at to field kind = total_given at.base to.0 field.0 kind at.effects

-- What a site spares where so much is wanted.
abbrev pub spare_of : Place → FieldNo → Kind → ℕ → ℕ
spare_of at field kind want = spare_amount (free at field kind) want

-- What a stated total has above the greatest one accepted before from its site.
abbrev pub gain_of : Place → SiteNo → FieldNo → Kind → ℕ → ℕ
gain_of at from field kind total = total - total_accepted at.base from.0 field.0 kind at.effects

-- The room: what the site's own rights of both kinds, and those that it has given up, leave of the field's width.
abbrev pub room : Place → FieldNo → ℕ
room at field = width_of (field_at at.schema field.0) - (guarded_rights at field Lower + guarded_rights at field Raise)

-- The tests, each with its refusal.
abbrev pub test_down : Place → Test
test_down at = when (not (is_up at.base at.entries)) Down

abbrev pub test_no_site : Place → SiteNo → Test
test_no_site at site = when (nat_le at.schema.sites site.0) NoSite

abbrev pub test_no_field : Place → FieldNo → Test
test_no_field at field = when (nat_le (length at.schema.fields) field.0) NoField

abbrev pub test_no_transaction : Place → TxnId → Test
test_no_transaction at txn = when (not (is_begun txn at.effects && is_open txn at.effects)) NoTransaction

abbrev pub test_zero : ℕ → Test
test_zero n = when (n == 0) Zero

abbrev pub test_too_large : ℕ → ℕ → Test
test_too_large most n = when (nat_lt most n) TooLarge

abbrev pub test_short : Place → FieldNo → Kind → ℕ → Test
test_short at field kind q = when (nat_lt (free at field kind) q) (Short (free at field kind))

-- A spare is short only where there is no share at all.
abbrev pub test_no_share : Place → FieldNo → Kind → Test
test_no_share at field kind = when (free at field kind == 0) (Short (free at field kind))

abbrev pub test_self_gift : Place → SiteNo → Test
test_self_gift at site = when (site.0 == at.site) SelfGift

abbrev pub test_ledger_full : Place → SiteNo → FieldNo → Kind → ℕ → Test
test_ledger_full at to field kind amount =
    when (nat_lt max_total (told_so_far at to field kind + amount)) (LedgerFull (told_so_far at to field kind))

abbrev pub test_not_yours : Place → SiteNo → Test
test_not_yours at to = when (not (to.0 == at.site)) NotYours

abbrev pub test_forged : Place → Statement → Test
test_forged at told = when (nat_lt (room at told.field) (gain_of at told.from told.field told.kind told.total))
    (Forged (room at told.field))

abbrev pub test_nothing_given : Place → SiteNo → FieldNo → Kind → Test
test_nothing_given at to field kind = when (told_so_far at to field kind == 0) NothingGiven

abbrev pub test_too_many_open : Place → Test
test_too_many_open at = when (nat_le max_open (count_open at.effects)) TooManyOpen

abbrev pub test_too_many_escrows : Place → TxnId → Test
test_too_many_escrows at txn = when (nat_le max_escrows (count_escrows txn at.effects)) TooManyEscrows

abbrev pub test_numbers_full : Place → Test
test_numbers_full at = when (nat_le max_number (count_since is_begun_reply at.entries)) NumbersFull

-- The ladder: the tests of a command, in their order. What a restart may answer is said apart.
abbrev pub refusals : Place → Command → List Test
refusals at Begin = test_down at ∷ test_too_many_open at ∷ test_numbers_full at ∷ []
refusals at (Escrow txn field change) =
    test_down at ∷ test_no_field at field ∷ test_no_transaction at txn ∷ test_zero (unsigned_abs change)
    ∷ test_too_large max_change (unsigned_abs change) ∷ test_short at field (kind_of change) (unsigned_abs change)
    ∷ test_too_many_escrows at txn ∷ []
refusals at (Commit txn) = test_down at ∷ test_no_transaction at txn ∷ []
refusals at (Abort txn) = test_down at ∷ test_no_transaction at txn ∷ []
refusals at (Give to field kind amount) =
    test_down at ∷ test_no_site at to ∷ test_no_field at field ∷ test_zero amount ∷ test_too_large max_change amount
    ∷ test_short at field kind amount ∷ test_self_gift at to ∷ test_ledger_full at to field kind amount ∷ []
refusals at (Restate to field kind) =
    test_down at ∷ test_no_site at to ∷ test_no_field at field ∷ test_self_gift at to ∷ test_nothing_given at to field kind ∷ []
refusals at (Spare to field kind want) =
    test_down at ∷ test_no_site at to ∷ test_no_field at field ∷ test_zero want ∷ test_too_large max_change want
    ∷ test_no_share at field kind ∷ test_self_gift at to ∷ test_ledger_full at to field kind (spare_of at field kind want) ∷ []
refusals at (Tighten field kind amount) =
    test_down at ∷ test_no_field at field ∷ test_zero amount ∷ test_too_large max_change amount ∷ test_short at field kind amount ∷ []
refusals at (Accept told) =
    test_down at ∷ test_no_site at told.from ∷ test_no_site at told.to ∷ test_no_field at told.field ∷ test_zero told.total
    ∷ test_too_large max_total told.total ∷ test_self_gift at told.from ∷ test_not_yours at told.to ∷ test_forged at told ∷ []
refusals at (Read field) = test_down at ∷ test_no_field at field ∷ []
refusals at (Share field) = test_down at ∷ test_no_field at field ∷ []
refusals at Restart = []

-- ---- the answer where no refusal holds

-- Between which values the committed value of a field lies: as far above the schema's floor as the site has rights to lower
-- and has given such up, and as far below the schema's ceiling as it has rights to raise and has given such up.
abbrev pub interval_at : Place → FieldNo → ℤ × ℤ
interval_at at field = (
  (field_at at.schema field.0).floor +ℤ pos (guarded_rights at field Lower),
  (field_at at.schema field.0).ceiling -ℤ pos (guarded_rights at field Raise),
)

-- The free rights of a field, to lower and to raise it.
abbrev pub shares_at : Place → FieldNo → ℕ × ℕ
shares_at at field = (free at field Lower, free at field Raise)

-- The answer. A restart is owed none of its own: what it may answer rests on the medium too.
abbrev pub answer : Place → Command → Reply
answer at Begin = Begun (record { epoch = epoch_of at.base at.entries; number = count_since is_begun_reply at.entries + 1 })
answer at (Escrow txn field change) = Granted
answer at (Commit txn) = Committed
answer at (Abort txn) = Aborted
answer at (Give to field kind amount) = Given (told_so_far at to field kind + amount)
answer at (Restate to field kind) = Stated (told_so_far at to field kind)
answer at (Spare to field kind want) =
    Spared (spare_of at field kind want) (told_so_far at to field kind + spare_of at field kind want)
answer at (Tighten field kind amount) = Tightened (cut_so_far at field kind + amount)
answer at (Accept told) = Accepted (gain_of at told.from told.field told.kind told.total)
answer at (Read field) = Between (interval_at at field).0 (interval_at at field).1
answer at (Share field) = Shares (shares_at at field).0 (shares_at at field).1
answer at Restart = StillDown

-- What a Read would answer, and none where it would be refused.
abbrev pub interval_of : Place → FieldNo → Option (ℤ × ℤ)
interval_of at field = if is_none (first (refusals at (Read field))) then Some (interval_at at field) else None

-- What a Share would answer, and none where it would be refused.
abbrev pub shares_of : Place → FieldNo → Option (ℕ × ℕ)
shares_of at field = if is_none (first (refusals at (Share field))) then Some (shares_at at field) else None

-- Whether the command writes a record where it is answered, so that its answer may be in doubt (this project).
abbrev pub writes : Place → Command → Bool
writes at Begin = false
writes at (Escrow txn field change) = false
writes at (Commit txn) = nat_lt 0 (count_escrows txn at.effects)
writes at (Abort txn) = false
writes at (Give to field kind amount) = true
writes at (Restate to field kind) = false
writes at (Spare to field kind want) = true
writes at (Tighten field kind amount) = true
writes at (Accept told) = nat_lt 0 (gain_of at told.from told.field told.kind told.total)
writes at (Read field) = false
writes at (Share field) = false
writes at Restart = false

-- The reply is the first refusal that holds, or else the answer, or in doubt where the command writes.
abbrev pub AnswerFits : Place → Command → Reply → Type 0
AnswerFits at command reply =
    MatchOption (first (refusals at command))
    ((reply ≡ answer at command) ⊎ ((reply ≡ Unsure) × IsTrue (writes at command)))
    (λ refusal. reply ≡ Refused refusal)

-- ---- restarts (this project)

-- The entry is a restart that was answered, with this finding.
abbrev pub IsRestarted : Entry → Last → Type 0
IsRestarted e found = (e.command ≡ Restart) × (epoch : ℕ) × (e.reply ≡ Restarted epoch found)

-- A restart tells that nothing was in doubt exactly where no reply since the last restart was.
abbrev pub TellsDoubt : Place → Last → Type 0
TellsDoubt at found =
    (count_since is_unsure at.entries ≡ 0 → found ≡ Nothing) × (found ≡ Nothing → count_since is_unsure at.entries ≡ 0)

-- The greatest epoch that may be kept: each restart that failed since the last one may have used one up.
abbrev pub greatest_epoch : Place → ℕ
greatest_epoch at = epoch_of at.base at.entries + count_since is_still_down at.entries

-- A restart may be answered with this epoch and this finding.
abbrev pub MayRestart : Place → ℕ → Last → Type 0
MayRestart at epoch found =
    (epoch_of at.base at.entries + 1 ≤ epoch) × (epoch ≤ greatest_epoch at + 1) × (epoch ≤ max_epoch) × TellsDoubt at found

-- What a restart may answer: it may fail at any time, and finds no epoch left only where that may be.
abbrev pub RestartFits : Place → Reply → Type 0
RestartFits at r =
    elim (shape r) [
      | answered ↦ ⊥
      | restarted epoch found ↦ MayRestart at epoch found
      | in_doubt ↦ ⊥
      | stays_down ↦ Unit {0}
      | refused refusal ↦ (refusal ≡ NumbersFull) × (max_epoch ≤ greatest_epoch at)
    ]

-- The site may give this reply to this command.
abbrev pub Fits : Place → Command → Reply → Type 0
Fits at command reply = elim (asks_restart command) [ true ↦ RestartFits at reply | false ↦ AnswerFits at command reply ]

-- Each entry of a history fits those before it.
abbrev pub IsRun : SchemaValue → ℕ → Base → List Entry → Type 0
IsRun schema s base [] = Unit {0}
IsRun schema s base (e ∷ o) = IsRun schema s base o × Fits (place schema s base o) e.command e.reply
