-- The scripts of the lines of one input: each site's commands, in the order of their lines (this project).
use Rattle.std.specs.Prelude.{◌≡◌, ℕ, zero, suc, ◌+◌, ◌<◌, ◌≤◌, ◌==◌, if◌then◌else◌, false, List, [], ◌∷◌, ◌++◌, length, set, slice_index_or, Ok}
use Rattle.field_bounds.specs.declared.id.SiteNo.{SiteNo}
use Rattle.field_bounds.specs.declared.entry.Command.{Command}
use Rattle.field_bounds.specs.Schema.{SchemaValue}
use Rattle.field_bounds.specs.Header.{schema_of}
use Rattle.field_bounds.specs.Shape.{is_accept}
use Rattle.entry_text.specs.Spelling.{command_text}
use Rattle.entry_text.specs.Ranges.{SiteFits, CommandFits}
use Rattle.entry_text.specs.Lines.{max_line}

-- A line is a plain command: the text of a command at a site of the schema, which isn't an accept, and not too long.
pub record IsPlain (schema : SchemaValue) (line : List ℕ) (site : SiteNo) (command : Command) : Type 0 where
  pub site_fits : SiteFits site
  pub command_fits : CommandFits command
  pub text : line ≡ command_text schema site command
  pub known : site.0 < schema.sites
  pub no_accept : is_accept command ≡ false
  pub short : length line ≤ max_line

-- A line is bad: it is no plain command.
abbrev pub IsBadLine : SchemaValue → List ℕ → Type 0
IsBadLine schema line = (site : SiteNo) (command : Command) → IsPlain schema line site command → ⊥

-- What lines ask, one after the other: each is a plain command.
abbrev pub AreAsked : SchemaValue → List (List ℕ) → List (SiteNo × Command) → Type 0
AreAsked schema [] [] = Unit {0}
AreAsked schema [] (a ∷ asked) = ⊥
AreAsked schema (line ∷ lines) [] = ⊥
AreAsked schema (line ∷ lines) (a ∷ asked) = IsPlain schema line a.0 a.1 × AreAsked schema lines asked

-- The commands of site s, in order.
abbrev pub script_of : ℕ → List (SiteNo × Command) → List Command
script_of s [] = []
script_of s (a ∷ asked) = if a.0.0 == s then a.1 ∷ script_of s asked else script_of s asked

-- The scripts of n sites, from site s on.
abbrev pub scripts_above : ℕ → ℕ → List (SiteNo × Command) → List (List Command)
scripts_above s zero asked = []
scripts_above s (suc n) asked = script_of s asked ∷ scripts_above (s + 1) n asked

-- The scripts of n sites, in order.
abbrev pub scripts_from : ℕ → List (SiteNo × Command) → List (List Command)
scripts_from n asked = scripts_above 0 n asked

-- The scripts with one command more, at the end of its site's.
abbrev pub with_command : List (List Command) → ℕ → Command → List (List Command)
with_command scripts s command = set scripts s (slice_index_or scripts s [] ++ command ∷ [])

-- Lines are a header and, behind it, plain commands, whose scripts these are.
pub record HasScripts (schema : SchemaValue) (header : List ℕ) (scripts : List (List Command)) (lines : List (List ℕ)) : Type 0 where
  pub behind : List (List ℕ)
  pub asked : List (SiteNo × Command)
  pub parts : lines ≡ header ∷ behind
  pub start : schema_of header ≡ Ok schema
  pub each : AreAsked schema behind asked
  pub dealt : scripts ≡ scripts_from schema.sites asked

-- The first bad line among lines, counted from 1 with the header.
pub record IsFirstBad (lines : List (List ℕ)) (number : ℕ) : Type 0 where
  pub schema : SchemaValue
  pub header : List ℕ
  pub scripts : List (List Command)
  pub front : List (List ℕ)
  pub line : List ℕ
  pub back : List (List ℕ)
  pub parts : lines ≡ front ++ line ∷ back
  pub good : HasScripts schema header scripts front
  pub bad : IsBadLine schema line
  pub place : number ≡ length front + 1
