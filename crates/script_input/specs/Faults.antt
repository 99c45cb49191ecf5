-- The faults of a call that reads a text: a run of a script, an audit, or a work of all sites (this project). BadLine, Work,
-- Stuck and Illegal are a work's alone: what they say is told where it answers them.
use Rattle.std.specs.Prelude.{◌≡◌, ◌≢◌, ◌<◌, ◌≤◌, ◌⊎◌, ℕ, List, [], ◌∷◌, ◌++◌, length, Option, Result, Ok, Err}
use Rattle.std.specs.Io.KnownBytes.{IsAtEnd}
use Rattle.field_bounds.specs.Schema.{SchemaValue}
use Rattle.field_bounds.specs.Header.{schema_of}
use Rattle.field_bounds.specs.declared.fault.SchemaFault.{SchemaFault}
use Rattle.field_bounds.specs.declared.fault.SchemaFault.TheVariants as schema_faults
use Rattle.script_input.specs.declared.fault.ScriptFault.{ScriptFault}
use Rattle.script_input.specs.declared.fault.ScriptFault.TheVariants as faults
use Rattle.script_input.specs.declared.streams.CallEnd.{CallEnd}
use Rattle.script_input.specs.declared.streams.CallEnd.TheVariants.{Nothing}
use Rattle.script_input.specs.Lines.{whole_lines, last_part, lines_of}
use Rattle.script_input.specs.Streams.{one_more}

-- How a fault of the schema is told: want of memory as such, any other as the header's fault.
abbrev pub header_fault : SchemaFault → ScriptFault
header_fault schema_faults.NoMemory = faults.NoMemory
header_fault fault = faults.Header fault

-- A fault is that of the header, unless memory ran out, of which nothing can be said.
abbrev pub TellsHeader : ScriptFault → Result SchemaValue SchemaFault → Type 0
TellsHeader faults.Read told = ⊥
TellsHeader faults.TooLong told = ⊥
TellsHeader faults.Write told = ⊥
TellsHeader (faults.Header fault) told = told ≡ Err fault
TellsHeader (faults.BadLine number) told = ⊥
TellsHeader (faults.Work fault) told = ⊥
TellsHeader faults.Stuck told = ⊥
TellsHeader faults.Illegal told = ⊥
TellsHeader faults.NoMemory told = Unit {0}

-- The bytes begin with LF (10).
abbrev pub BeginsWithBreak : List ℕ → Type 0
BeginsWithBreak bs = (rest : List ℕ) × (bs ≡ 10 ∷ rest)

-- An input is within the limits: at most 1,000,000 lines, a last one without LF counted where it has a byte, and at most
-- 268,435,456 bytes.
pub record IsWithin (read : List ℕ) : Type 0 where
  pub lines : length (lines_of read) ≤ 1000000
  pub bytes : length read ≤ 268435456

-- A line of the bytes, by its number from 1 with the header, is reached: it stands in a front of them that is within the
-- limits. Of it that front has its LF, or more than so many bytes, or all up to the end of the input.
pub record IsLineReached (read : List ℕ) (number most : ℕ) (ended : Type 0) : Type 0 where
  pub front : List ℕ
  pub back : List ℕ
  pub parts : front ++ back ≡ read
  pub within : IsWithin front
  pub there : number ≤ length (lines_of front)
  pub reached : (number ≤ length (whole_lines front)) ⊎ ((most < length (last_part front)) ⊎ ((back ≡ []) × ended))

-- What a fault says of the bytes in front of it, which are within the limits, and of those that were read after them. So
-- too long an input is told just where a byte follows the 1,000,000th line or the 268,435,456th byte. What may be written at a
-- write fault, and of which input, is told by each call. The faults that are a work's alone
-- have no such reason: a call each of whose faults is explained so answers none of them. At want of memory at most 65,536 bytes,
-- which is what one read brings at most, stand behind the bytes in front of it.
abbrev pub Explains : ScriptFault → List ℕ → List ℕ → Type 0 → Type 0
Explains faults.Read front back ended = IsWithin front × (back ≡ [])
Explains faults.TooLong front back ended = IsWithin front
    × ((back ≢ []) × ((1000000 ≤ length (whole_lines front)) ⊎ (268435456 ≤ length front)))
Explains faults.Write front back ended = Unit {0}
Explains (faults.Header fault) front back ended = IsWithin front × ((whole_lines front ≡ [])
    × (((schema_of front ≡ Err fault) × (BeginsWithBreak back ⊎ ((back ≡ []) × ended)))
    ⊎ ((fault ≡ schema_faults.TooLong) × (65536 < length front))))
Explains (faults.BadLine number) front back ended = ⊥
Explains (faults.Work fault) front back ended = ⊥
Explains faults.Stuck front back ended = ⊥
Explains faults.Illegal front back ended = ⊥
Explains faults.NoMemory front back ended = IsWithin front × (length back ≤ 65536)

-- The input has ended: no known byte is left, and the last read gave nothing.
abbrev pub HasEndedAt : Option (List ℕ) → CallEnd → Type 0
HasEndedAt to last = IsAtEnd to × (last ≡ Nothing)

-- How many reads failed, before and after a call that this fault ends: one more at a read fault, and else as many.
abbrev pub CountsRead : ScriptFault → ℕ → ℕ → Type 0
CountsRead faults.Read before after = after ≡ one_more before
CountsRead faults.TooLong before after = after ≡ before
CountsRead faults.Write before after = after ≡ before
CountsRead (faults.Header fault) before after = after ≡ before
CountsRead (faults.BadLine number) before after = after ≡ before
CountsRead (faults.Work fault) before after = after ≡ before
CountsRead faults.Stuck before after = after ≡ before
CountsRead faults.Illegal before after = after ≡ before
CountsRead faults.NoMemory before after = after ≡ before

-- How many reads failed, before and after a call that ends so.
abbrev pub CountsReads : {T : Type 0} → Result T ScriptFault → ℕ → ℕ → Type 0
CountsReads (Ok x) before after = after ≡ before
CountsReads (Err fault) before after = CountsRead fault before after

-- How many writes were refused, before and after a call that this fault ends: one more at a write fault, and else as many.
abbrev pub CountsWrite : ScriptFault → ℕ → ℕ → Type 0
CountsWrite faults.Read before after = after ≡ before
CountsWrite faults.TooLong before after = after ≡ before
CountsWrite faults.Write before after = after ≡ one_more before
CountsWrite (faults.Header fault) before after = after ≡ before
CountsWrite (faults.BadLine number) before after = after ≡ before
CountsWrite (faults.Work fault) before after = after ≡ before
CountsWrite faults.Stuck before after = after ≡ before
CountsWrite faults.Illegal before after = after ≡ before
CountsWrite faults.NoMemory before after = after ≡ before

-- How many writes were refused, before and after a call that ends so.
abbrev pub CountsWrites : {T : Type 0} → Result T ScriptFault → ℕ → ℕ → Type 0
CountsWrites (Ok x) before after = after ≡ before
CountsWrites (Err fault) before after = CountsWrite fault before after
