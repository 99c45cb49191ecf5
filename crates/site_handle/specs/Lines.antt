-- What a line of a host is that asks nothing (this project).
use Rattle.std.specs.Prelude.{◌≡◌, ◌≢◌, ◌⊎◌, ◌<◌, ◌≤◌, ℕ, List, length}
use Rattle.std.specs.Str.{IsUtf8}
use Rattle.field_bounds.specs.Schema.{SchemaValue}
use Rattle.field_bounds.specs.declared.id.SiteNo.{SiteNo}
use Rattle.field_bounds.specs.declared.entry.Command.{Command}
use Rattle.entry_text.specs.Spelling.{command_text}
use Rattle.entry_text.specs.Ranges.{SiteFits, CommandFits}
use Rattle.entry_text.specs.Lines.{max_line}
use Rattle.kept_records.specs.Logs.{HasNoLf}
use Rattle.site_handle.specs.declared.fault.CallFault.{CallFault}
use Rattle.site_handle.specs.declared.fault.CallFault.TheVariants.{NoMemory, NoLine, NoCommand, OtherSite, Untold}

-- The bytes are no line: they are more than 256, have a line feed (10), or aren't UTF-8.
abbrev pub IsNoLine : List ℕ → Type 0
IsNoLine bytes = (max_line < length bytes) ⊎ ((HasNoLf bytes → ⊥) ⊎ (IsUtf8 bytes → ⊥))

-- They are one: at most 256, without a line feed, and UTF-8.
pub record IsLine (bytes : List ℕ) : Type 0 where
  pub short : length bytes ≤ max_line
  pub no_lf : HasNoLf bytes
  pub utf8 : IsUtf8 bytes

-- The line is the text of no command under the schema.
abbrev pub SpellsNothing : SchemaValue → List ℕ → Type 0
SpellsNothing schema line =
    (site : SiteNo) (command : Command) → SiteFits site → CommandFits command → line ≢ command_text schema site command

-- The line is the text of a command of another site, whose numbers fit.
pub record IsOthers (schema : SchemaValue) (number : SiteNo) (line : List ℕ) : Type 0 where
  pub site : SiteNo
  pub command : Command
  pub site_fits : SiteFits site
  pub fits : CommandFits command
  pub other : site ≢ number
  pub text : line ≡ command_text schema site command

-- Why bytes ask nothing of the site of this number: they are no line; or one that spells no command; or one of another site. Memory
-- is no reason.
abbrev pub IsUnasked : SchemaValue → SiteNo → List ℕ → CallFault → Type 0
IsUnasked schema number line NoLine = SpellsNothing schema line × IsNoLine line
IsUnasked schema number line NoCommand = SpellsNothing schema line × IsLine line
IsUnasked schema number line OtherSite = IsOthers schema number line
IsUnasked schema number line NoMemory = ⊥
IsUnasked schema number line Untold = ⊥
