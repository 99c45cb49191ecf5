-- The values that the types have (this project).
use Rattle.std.specs.Prelude.{◌^◌, ◌<◌, FitsSigned}
use Rattle.std.specs.Int.{w64}
use Rattle.field_bounds.specs.declared.id.SiteNo.{SiteNo}
use Rattle.field_bounds.specs.declared.id.FieldNo.{FieldNo}
use Rattle.field_bounds.specs.declared.id.TxnId.{TxnId}
use Rattle.field_bounds.specs.declared.entry.Command.{Command}
use Rattle.field_bounds.specs.declared.entry.Command.TheVariants.{Begin, Escrow, Commit, Abort, Give, Restate, Spare, Tighten, Accept, Read, Share, Restart}
use Rattle.field_bounds.specs.declared.entry.Refusal.{Refusal}
use Rattle.field_bounds.specs.declared.entry.Refusal.TheVariants.{Down, NoSite, NoField, NoTransaction, Zero, TooLarge, Short, SelfGift, LedgerFull, NotYours, Forged, TooManyOpen, TooManyEscrows, NumbersFull, NothingGiven}
use Rattle.field_bounds.specs.declared.entry.Reply.{Reply}
use Rattle.field_bounds.specs.declared.entry.Reply.TheVariants.{Begun, Granted, Committed, Aborted, Given, Stated, Spared, Tightened, Accepted, Between, Shares, Restarted, Unsure, StillDown, Refused}
use Rattle.field_bounds.specs.declared.entry.Entry.{Entry}

-- A site's number is a u16.
abbrev pub SiteFits : SiteNo → Type 0
SiteFits s = s.0 < 2 ^ 16

-- A field's number is a u16.
abbrev pub FieldFits : FieldNo → Type 0
FieldFits f = f.0 < 2 ^ 16

-- A transaction's numbers are u32.
abbrev pub IdFits : TxnId → Type 0
IdFits t = (t.epoch < 2 ^ 32) × (t.number < 2 ^ 32)

-- What a command names fits, a change is an i64, an amount or a total a u64.
abbrev pub CommandFits : Command → Type 0
CommandFits Begin = Unit {0}
CommandFits (Escrow txn field change) = IdFits txn × FieldFits field × FitsSigned w64 change
CommandFits (Commit txn) = IdFits txn
CommandFits (Abort txn) = IdFits txn
CommandFits (Give to field kind amount) = SiteFits to × FieldFits field × (amount < 2 ^ 64)
CommandFits (Restate to field kind) = SiteFits to × FieldFits field
CommandFits (Spare to field kind want) = SiteFits to × FieldFits field × (want < 2 ^ 64)
CommandFits (Tighten field kind amount) = FieldFits field × (amount < 2 ^ 64)
CommandFits (Accept statement) = SiteFits statement.from × SiteFits statement.to × FieldFits statement.field × (statement.total < 2 ^ 64)
CommandFits (Read field) = FieldFits field
CommandFits (Share field) = FieldFits field
CommandFits Restart = Unit {0}

-- What a refusal tells is a u64.
abbrev pub RefusalFits : Refusal → Type 0
RefusalFits Down = Unit {0}
RefusalFits NoSite = Unit {0}
RefusalFits NoField = Unit {0}
RefusalFits NoTransaction = Unit {0}
RefusalFits Zero = Unit {0}
RefusalFits TooLarge = Unit {0}
RefusalFits (Short share) = share < 2 ^ 64
RefusalFits SelfGift = Unit {0}
RefusalFits (LedgerFull total) = total < 2 ^ 64
RefusalFits NotYours = Unit {0}
RefusalFits (Forged room) = room < 2 ^ 64
RefusalFits TooManyOpen = Unit {0}
RefusalFits TooManyEscrows = Unit {0}
RefusalFits NumbersFull = Unit {0}
RefusalFits NothingGiven = Unit {0}

-- Values are i64, rights u64, an epoch is a u32.
abbrev pub ReplyFits : Reply → Type 0
ReplyFits (Begun txn) = IdFits txn
ReplyFits Granted = Unit {0}
ReplyFits Committed = Unit {0}
ReplyFits Aborted = Unit {0}
ReplyFits (Given total) = total < 2 ^ 64
ReplyFits (Stated total) = total < 2 ^ 64
ReplyFits (Spared amount total) = (amount < 2 ^ 64) × (total < 2 ^ 64)
ReplyFits (Tightened total) = total < 2 ^ 64
ReplyFits (Accepted gain) = gain < 2 ^ 64
ReplyFits (Between lo hi) = FitsSigned w64 lo × FitsSigned w64 hi
ReplyFits (Shares lower raise) = (lower < 2 ^ 64) × (raise < 2 ^ 64)
ReplyFits (Restarted epoch found) = epoch < 2 ^ 32
ReplyFits Unsure = Unit {0}
ReplyFits StillDown = Unit {0}
ReplyFits (Refused refusal) = RefusalFits refusal

-- Each part of an entry fits.
abbrev pub EntryFits : Entry → Type 0
EntryFits e = SiteFits e.site × CommandFits e.command × ReplyFits e.reply
