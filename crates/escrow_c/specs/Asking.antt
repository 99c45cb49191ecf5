-- What the calls of C do to the site behind a handle (this project).
use Rattle.std.specs.Prelude.{◌≡◌, ℕ, ◌≤◌, ◌<◌, ◌-◌, ◌⊎◌, ℤ, min, true, false, List, ◌++◌, length, take, drop, Option, Some, None}
use Rattle.field_bounds.specs.declared.id.FieldNo.{FieldNo}
use Rattle.field_bounds.specs.declared.entry.Command.{Command}
use Rattle.field_bounds.specs.declared.entry.Reply.{Reply}
use Rattle.field_bounds.specs.Owed.{is_up, interval_of, shares_of}
use Rattle.site_step.specs.Site.{SiteValue, here, base_of}
use Rattle.site_handle.specs.declared.fault.OpeningFault.{OpeningFault}
use Rattle.site_handle.specs.declared.fault.OpeningFault.TheVariants as openings
use Rattle.site_handle.specs.declared.fault.CallFault.{CallFault}
use Rattle.site_handle.specs.Session.{IsOpenOver, IsWhyClosed, Answers, Does, Tells, Leaves}
use Rattle.escrow_c.specs.Status.{closed, is_open, no_memory, no_command, down, no_field, past_end, opening_status, call_status}
use Rattle.escrow_c.specs.Numbers.{answer_of}
use Rattle.escrow_c.specs.declared.answer.Answer.{Answer}

-- ---- opening

-- The handle is to the site of the header's schema and this number, which stands on the first so many bytes of the log.
abbrev pub IsOpened : List ℕ → ℕ → List ℕ → ℕ → Option SiteValue → Type 0
IsOpened header number log kept None = ⊥
IsOpened header number log kept (Some site) = IsOpenOver header number log kept site

-- The line that a fault names, or 0.
abbrev pub line_of : OpeningFault → ℕ
line_of openings.NoMemory = 0
line_of openings.NoSchema = 0
line_of openings.NoSite = 0
line_of (openings.Line n) = n

-- Why no site was opened, by the status and the line.
pub record Refuses (header : List ℕ) (number : ℕ) (log : List ℕ) (line status : ℕ) : Type 0 where
  pub fault : OpeningFault
  pub told : status ≡ opening_status fault
  pub line_is : line ≡ line_of fault
  pub why : IsWhyClosed header number log fault

-- The same, where a handle that is to a site already is refused for that.
abbrev pub FailsToOpen : Option SiteValue → List ℕ → ℕ → List ℕ → ℕ → ℕ → Type 0
FailsToOpen (Some site) header number log line status = status ≡ is_open
FailsToOpen None header number log line status = Refuses header number log line status

-- ---- asking by numbers

-- The site answered the command by one step, and the numbers are those of its reply.
pub record AnswersBy (before : SiteValue) (command : Command) (answer : Answer) (later : SiteValue) : Type 0 where
  pub reply : Reply
  pub answers : Answers before command reply later
  pub numbers : answer ≡ answer_of reply

-- So did the site behind the handle, and stays there.
abbrev pub Asks : Option SiteValue → Option Command → Answer → Option SiteValue → Type 0
Asks None command answer later = ⊥
Asks (Some before) None answer later = ⊥
Asks (Some before) (Some command) answer None = ⊥
Asks (Some before) (Some command) answer (Some later) = AnswersBy before command answer later

-- Why nothing was asked: there is no site, or no command, or no memory.
abbrev pub FailsToAsk : Option SiteValue → Option Command → ℕ → Type 0
FailsToAsk None command status = status ≡ closed
FailsToAsk (Some site) None status = status ≡ no_command
FailsToAsk (Some site) (Some command) status = status ≡ no_memory

-- ---- asking by a line

-- The site carried out what the line asks, and the numbers are those of its reply.
pub record DoesBy (before : SiteValue) (line : List ℕ) (answer : Answer) (later : SiteValue) : Type 0 where
  pub reply : Reply
  pub does : Does before line reply later
  pub numbers : answer ≡ answer_of reply

-- So did the site behind the handle.
abbrev pub DoesLine : Option SiteValue → List ℕ → Answer → Option SiteValue → Type 0
DoesLine None line answer later = ⊥
DoesLine (Some before) line answer None = ⊥
DoesLine (Some before) line answer (Some later) = DoesBy before line answer later

-- The site behind the handle carried out what the line asks, and this is the text of the entry.
abbrev pub TellsLine : Option SiteValue → List ℕ → List ℕ → Option SiteValue → Type 0
TellsLine None line text later = ⊥
TellsLine (Some before) line text None = ⊥
TellsLine (Some before) line text (Some later) = Tells before line text later

-- A line came to a fault, which the status tells, and this is what it left of the site.
pub record FailsBy (before : SiteValue) (line : List ℕ) (status : ℕ) (later : SiteValue) : Type 0 where
  pub fault : CallFault
  pub told : status ≡ call_status fault
  pub left : Leaves before line later fault

-- So did it at the site behind the handle, or there is none.
abbrev pub FailsAt : Option SiteValue → List ℕ → ℕ → Option SiteValue → Type 0
FailsAt None line status later = (status ≡ closed) × (later ≡ None)
FailsAt (Some before) line status None = ⊥
FailsAt (Some before) line status (Some later) = FailsBy before line status later

-- ---- the log

-- So many bytes of the log from a place on were copied: as many as there are, or as there is room for. The room behind them is as
-- it was.
pub record CopiesFrom (log : List ℕ) (from count : ℕ) (before later : List ℕ) : Type 0 where
  pub within : from ≤ length log
  pub most : count ≡ min (length log - from) (length before)
  pub copied : later ≡ take count (drop from log) ++ drop count before

-- The log is that of the site behind the handle.
abbrev pub Copies : Option SiteValue → ℕ → ℕ → List ℕ → List ℕ → Type 0
Copies None from count before later = ⊥
Copies (Some site) from count before later = CopiesFrom site.bytes from count before later

-- Why nothing was copied.
abbrev pub FailsToCopy : Option SiteValue → ℕ → ℕ → Type 0
FailsToCopy None from status = status ≡ closed
FailsToCopy (Some site) from status = (status ≡ past_end) × (length site.bytes < from)

-- The log of the site behind the handle has so many bytes.
abbrev pub HasLength : Option SiteValue → ℕ → Type 0
HasLength None count = ⊥
HasLength (Some site) count = count ≡ length site.bytes

-- ---- looks

-- The field of the site behind the handle lies between these.
abbrev pub LiesBetween : Option SiteValue → FieldNo → ℤ → ℤ → Type 0
LiesBetween None field low high = ⊥
LiesBetween (Some site) field low high = interval_of (here site) field ≡ Some (low, high)

-- These are its free rights on the field, to lower and to raise it.
abbrev pub HasShare : Option SiteValue → FieldNo → ℕ → ℕ → Type 0
HasShare None field lower raise = ⊥
HasShare (Some site) field lower raise = shares_of (here site) field ≡ Some (lower, raise)

-- The site tells nothing of a field, since it is down; or it is up, and would refuse to be asked: the field isn't in the schema.
abbrev pub IsUntold : {A : Type 0} → SiteValue → Option A → ℕ → Type 0
IsUntold site told status =
    ((status ≡ down) × (is_up (base_of site) site.history ≡ false))
    ⊎ ((status ≡ no_field) × ((is_up (base_of site) site.history ≡ true) × (told ≡ None)))

-- Why no interval is told: there is no site, or the site tells none.
abbrev pub HasNoInterval : Option SiteValue → FieldNo → ℕ → Type 0
HasNoInterval None field status = status ≡ closed
HasNoInterval (Some site) field status = IsUntold site (interval_of (here site) field) status

-- Why no share is told.
abbrev pub HasNoShare : Option SiteValue → FieldNo → ℕ → Type 0
HasNoShare None field status = status ≡ closed
HasNoShare (Some site) field status = IsUntold site (shares_of (here site) field) status
