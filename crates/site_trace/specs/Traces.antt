-- What the bytes of a site's trace tell (this project). Entries stand in order, the oldest first.
use Rattle.std.specs.Prelude.{◌≡◌, ◌⊎◌, ◌+◌, ℕ, List, [], ◌∷◌, ◌++◌, length, map, sum_by}
use Rattle.field_bounds.specs.Schema.{SchemaValue}
use Rattle.field_bounds.specs.declared.entry.Entry.{Entry}
use Rattle.script_input.specs.Lines.{whole_lines}
use Rattle.site_trace.specs.declared.fault.TraceFault.{TraceFault}
use Rattle.site_trace.specs.declared.fault.TraceFault.TheVariants.{Line, NoMemory}
use Rattle.site_trace.specs.declared.reading.TracedEntry.{TracedEntry}
use Rattle.site_trace.specs.declared.reading.Trace.{Trace}
use Rattle.site_trace.specs.Lines.{IsEntry, IsNoEntry, IsRemark, IsOtherLine}

-- The entries alone.
abbrev pub entries_of : List TracedEntry → List Entry
entries_of traced = map (λ t. t.entry) traced

-- How many bytes lines have, with the line feed of each.
abbrev pub lines_length : List (List ℕ) → ℕ
lines_length lines = sum_by (λ line. length line + 1) lines

-- Lines, of which the first begins behind so many bytes, have these entries, each with where its line begins; the other lines
-- are remarks.
abbrev pub AreTraced : SchemaValue → ℕ → List (List ℕ) → List TracedEntry → Type 0
AreTraced schema at [] traced = traced ≡ []
AreTraced schema at (line ∷ lines) traced =
    (IsNoEntry schema line × (IsRemark line × AreTraced schema (at + (length line + 1)) lines traced))
    ⊎ ((entry : Entry) × ((later : List TracedEntry) × (IsEntry schema line entry
    × (AreTraced schema (at + (length line + 1)) lines later × (traced ≡ record { entry = entry; start = at } ∷ later)))))

-- What the whole lines of the bytes hold.
pub record IsTrace (schema : SchemaValue) (bytes : List ℕ) (trace : Trace) : Type 0 where
  pub entries : AreTraced schema 0 (whole_lines bytes) trace.entries.items
  pub length : trace.length ≡ lines_length (whole_lines bytes)

-- The line of this number, from 1, is the first of the whole lines that is neither an entry nor a remark.
pub record IsFirstOther (schema : SchemaValue) (bytes : List ℕ) (number : ℕ) : Type 0 where
  pub before : List (List ℕ)
  pub traced : List TracedEntry
  pub line : List ℕ
  pub behind : List (List ℕ)
  pub parts : whole_lines bytes ≡ before ++ line ∷ behind
  pub front : AreTraced schema 0 before traced
  pub bad : IsOtherLine schema line
  pub place : number ≡ length before + 1

-- Why a trace wasn't read. Of want of memory nothing can be said.
abbrev pub TellsFault : SchemaValue → List ℕ → TraceFault → Type 0
TellsFault schema bytes (Line number) = IsFirstOther schema bytes number
TellsFault schema bytes NoMemory = Unit {0}
