-- Texts are lines of a script (this project).
use Rattle.std.specs.Prelude.{ℕ, ◌≤◌, ◌≢◌, List, length}
use Rattle.std.specs.List.{AllByRecursion}
use Rattle.field_bounds.specs.declared.id.SiteNo.{SiteNo}
use Rattle.field_bounds.specs.declared.entry.Command.{Command}
use Rattle.field_bounds.specs.declared.entry.Entry.{Entry}
use Rattle.field_bounds.specs.Schema.{SchemaValue}
use Rattle.entry_text.specs.Spelling.{command_text, entry_text}
use Rattle.entry_text.specs.Ranges.{SiteFits, CommandFits, EntryFits}

-- The most bytes of a line.
abbrev pub max_line : ℕ
max_line = 256

-- No byte is a line feed (10), and there are no more than a line may have.
pub record IsLine (bytes : List ℕ) : Type 0 where
  pub one_line : AllByRecursion (λ b. b ≢ 10) bytes
  pub short : length bytes ≤ max_line

-- Each command's text under the schema is a line.
abbrev pub CommandsAreLines : SchemaValue → Type 0
CommandsAreLines schema = (site : SiteNo) (command : Command) → SiteFits site → CommandFits command
    → IsLine (command_text schema site command)

-- Each entry's text under the schema is a line.
abbrev pub EntriesAreLines : SchemaValue → Type 0
EntriesAreLines schema = (entry : Entry) → EntryFits entry → IsLine (entry_text schema entry)
