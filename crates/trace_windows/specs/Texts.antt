-- Which entries of a trace count, and why they aren't told (this project). Entries stand in order, the oldest first.
use Rattle.std.specs.Prelude.{◌≡◌, ◌<◌, ◌≤◌, ◌^◌, ℕ, List, ◌∷◌, ◌++◌, length, take, Option, Some}
use Rattle.field_bounds.specs.Schema.{SchemaValue}
use Rattle.field_bounds.specs.declared.entry.Entry.{Entry}
use Rattle.script_input.specs.Lines.{whole_lines}
use Rattle.site_trace.specs.declared.reading.TracedEntry.{TracedEntry}
use Rattle.site_trace.specs.declared.fault.TraceFault.{TraceFault}
use Rattle.site_trace.specs.declared.fault.TraceFault.TheVariants as traces
use Rattle.site_trace.specs.Lines.{IsOtherLine}
use Rattle.site_trace.specs.Traces.{entries_of, AreTraced}
use Rattle.trace_windows.specs.declared.fault.WindowFault.{WindowFault}
use Rattle.trace_windows.specs.declared.fault.WindowFault.TheVariants.{Read, Line, Behind, NoMemory}

-- The bytes of a file are known, and this text stands behind the first so many of them.
pub record IsTextBehind (known : Option (List ℕ)) (start : ℕ) (text : List ℕ) : Type 0 where
  pub name : List ℕ
  pub known_is : known ≡ Some (name ++ text)
  pub start_is : start ≡ length name
  pub fits : length (name ++ text) < 2 ^ 64

-- Each of the lines is an entry or a remark, and these are the entries, in order.
pub record HaveEntries (schema : SchemaValue) (lines : List (List ℕ)) (entries : List Entry) : Type 0 where
  pub traced : List TracedEntry
  pub read : AreTraced schema 0 lines traced
  pub same : entries_of traced ≡ entries

-- The text begins with whole lines that have these entries, the first so many.
pub record AreFirst (schema : SchemaValue) (text : List ℕ) (count : ℕ) (entries : List Entry) : Type 0 where
  pub front : List (List ℕ)
  pub behind : List (List ℕ)
  pub parts : whole_lines text ≡ front ++ behind
  pub all : List Entry
  pub have : HaveEntries schema front all
  pub enough : count ≤ length all
  pub first : entries ≡ take count all

-- One of the whole lines is neither an entry nor a remark.
pub record HasOtherLine (schema : SchemaValue) (text : List ℕ) : Type 0 where
  pub before : List (List ℕ)
  pub line : List ℕ
  pub behind : List (List ℕ)
  pub parts : whole_lines text ≡ before ++ line ∷ behind
  pub bad : IsOtherLine schema line

-- The whole lines have fewer entries.
pub record HasFewer (schema : SchemaValue) (text : List ℕ) (count : ℕ) : Type 0 where
  pub all : List Entry
  pub have : HaveEntries schema (whole_lines text) all
  pub fewer : length all < count

-- Why so many entries of the text aren't told. Of a read that failed, and of want of memory, the text says nothing.
abbrev pub TellsWhy : SchemaValue → List ℕ → ℕ → WindowFault → Type 0
TellsWhy schema text count Read = Unit {0}
TellsWhy schema text count Line = HasOtherLine schema text
TellsWhy schema text count Behind = HasFewer schema text count
TellsWhy schema text count NoMemory = Unit {0}

-- The fault of a window by that of a piece of the trace.
abbrev pub fault_of : TraceFault → WindowFault
fault_of (traces.Line number) = Line
fault_of traces.NoMemory = NoMemory
