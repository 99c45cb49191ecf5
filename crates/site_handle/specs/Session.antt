-- A site that is held for a host, and what its calls do (this project).
use Rattle.std.specs.Prelude.{◌≡◌, ◌≤◌, ℕ, List, take, drop, length, None, Ok, Err}
use Rattle.field_bounds.specs.Schema.{SchemaValue}
use Rattle.field_bounds.specs.Header.{schema_of}
use Rattle.field_bounds.specs.declared.fault.SchemaFault.{SchemaFault}
use Rattle.field_bounds.specs.declared.entry.Command.{Command}
use Rattle.field_bounds.specs.declared.entry.Reply.{Reply}
use Rattle.field_bounds.specs.declared.entry.Reply.TheVariants.{Restarted}
use Rattle.field_bounds.specs.declared.entry.Last.{Last}
use Rattle.field_bounds.specs.declared.entry.Last.TheVariants.{Nothing}
use Rattle.entry_text.specs.Spelling.{entry_text}
use Rattle.site_step.specs.Site.{SiteValue, Applies, Opens, entry_of}
use Rattle.site_step.specs.Calls.{IsSure}
use Rattle.site_step.specs.Opening.{IsFirstBad}
use Rattle.request_lines.specs.Requests.{Asks}
use Rattle.site_service.specs.Opening.{AreLines}
use Rattle.site_service.specs.Service.{IsWhole, Grows}
use Rattle.site_handle.specs.Lines.{IsUnasked}
use Rattle.site_handle.specs.declared.fault.OpeningFault.{OpeningFault}
use Rattle.site_handle.specs.declared.fault.OpeningFault.TheVariants as openings
use Rattle.site_handle.specs.declared.fault.CallFault.{CallFault}
use Rattle.site_handle.specs.declared.fault.CallFault.TheVariants as calls

-- What holds of every session: the log is whole lines, of which none is gone, and no answer is in doubt.
pub record IsSoundSession (v : SiteValue) : Type 0 where
  pub whole : IsWhole v
  pub clear : v.doubt ≡ None

-- ---- opening

-- The site of the header's schema and this number stands on the first so many bytes of a log: its whole lines. What stands behind
-- them has no line feed.
pub record IsOpenOver (header : List ℕ) (number : ℕ) (log : List ℕ) (kept : ℕ) (v : SiteValue) : Type 0 where
  pub schema : SchemaValue
  pub told : schema_of header ≡ Ok schema
  pub within : kept ≤ length log
  pub lines : AreLines log (take kept log) (drop kept log)
  pub opens : Opens schema (record { 0 = number }) (take kept log) 0 v

-- The header tells no schema.
pub record IsNoSchema (header : List ℕ) : Type 0 where
  pub fault : SchemaFault
  pub told : schema_of header ≡ Err fault

-- The header's schema has no site of this number.
pub record HasNoSite (header : List ℕ) (number : ℕ) : Type 0 where
  pub schema : SchemaValue
  pub told : schema_of header ≡ Ok schema
  pub outside : schema.sites ≤ number

-- Line n of a log, counted from 1, is the first of its whole lines that is no record, or breaks a rule of a kept log.
pub record NamesLine (header : List ℕ) (number : ℕ) (log : List ℕ) (n : ℕ) : Type 0 where
  pub schema : SchemaValue
  pub told : schema_of header ≡ Ok schema
  pub front : List ℕ
  pub torn : List ℕ
  pub lines : AreLines log front torn
  pub bad : IsFirstBad schema number front n

-- Why no site is opened.
abbrev pub IsWhyClosed : List ℕ → ℕ → List ℕ → OpeningFault → Type 0
IsWhyClosed header number log openings.NoMemory = Unit {0}
IsWhyClosed header number log openings.NoSchema = IsNoSchema header
IsWhyClosed header number log openings.NoSite = HasNoSite header number
IsWhyClosed header number log (openings.Line n) = NamesLine header number log n

-- Why a header gives no schema.
abbrev pub TellsNoSchema : List ℕ → OpeningFault → Type 0
TellsNoSchema header openings.NoMemory = Unit {0}
TellsNoSchema header openings.NoSchema = IsNoSchema header
TellsNoSchema header openings.NoSite = ⊥
TellsNoSchema header (openings.Line n) = ⊥

-- Why no site stands on whole lines.
abbrev pub TellsBadLine : SchemaValue → ℕ → List ℕ → OpeningFault → Type 0
TellsBadLine schema number lines openings.NoMemory = Unit {0}
TellsBadLine schema number lines (openings.Line n) = IsFirstBad schema number lines n
TellsBadLine schema number lines openings.NoSchema = ⊥
TellsBadLine schema number lines openings.NoSite = ⊥

-- ---- asking

-- The site answered a command by one step, and its log has only grown at its end. The answer isn't in doubt, no restart fails, and one
-- that goes well finds nothing in doubt.
pub record Answers (before : SiteValue) (command : Command) (reply : Reply) (later : SiteValue) : Type 0 where
  pub applies : Applies before command reply later
  pub grows : Grows before later
  pub sure : IsSure reply
  pub nothing : (epoch : ℕ) (found : Last) → reply ≡ Restarted epoch found → found ≡ Nothing

-- The site carried out the command that a line asks of it, and answered with this reply.
pub record Does (before : SiteValue) (line : List ℕ) (reply : Reply) (later : SiteValue) : Type 0 where
  pub command : Command
  pub asked : Asks before.schema before.site line command
  pub answers : Answers before command reply later

-- The same, and the text is that of the entry: the command, an arrow, and the reply.
pub record Tells (before : SiteValue) (line : List ℕ) (text : List ℕ) (later : SiteValue) : Type 0 where
  pub command : Command
  pub reply : Reply
  pub asked : Asks before.schema before.site line command
  pub answers : Answers before command reply later
  pub told : text ≡ entry_text before.schema (entry_of before command reply)

-- What a call leaves that told nothing: the site as it was; or, where only the text is wanting, the command carried out.
abbrev pub Leaves : SiteValue → List ℕ → SiteValue → CallFault → Type 0
Leaves before line later calls.Untold = (reply : Reply) × Does before line reply later
Leaves before line later calls.NoMemory = later ≡ before
Leaves before line later calls.NoLine = (later ≡ before) × IsUnasked before.schema before.site line calls.NoLine
Leaves before line later calls.NoCommand = (later ≡ before) × IsUnasked before.schema before.site line calls.NoCommand
Leaves before line later calls.OtherSite = (later ≡ before) × IsUnasked before.schema before.site line calls.OtherSite
