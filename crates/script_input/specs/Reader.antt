-- What a reader of lines has read and given, and what it finds next (this project).
use Rattle.std.specs.Prelude.{◌≡◌, ◌≢◌, ℕ, ◌+◌, ◌-◌, ◌*◌, ◌<◌, ◌≤◌, ◌⊎◌, ◌==◌, not, Bool, true, false, List, [], ◌∷◌, ◌++◌, length, take, drop, Option, None, Some, Result, Ok, Err, All}
use Rattle.std.specs.Io.KnownBytes.{Consumes}
use Rattle.field_bounds.specs.Schema.{SchemaValue}
use Rattle.field_bounds.specs.Header.{schema_of}
use Rattle.script_input.specs.declared.streams.CallEnd.{CallEnd}
use Rattle.script_input.specs.declared.fault.ScriptFault.{ScriptFault}
use Rattle.script_input.specs.declared.reader.LineReader.{LineReader}
use Rattle.script_input.specs.declared.reader.NextLine.{NextLine}
use Rattle.script_input.specs.declared.reader.NextLine.TheVariants as nexts
use Rattle.script_input.specs.Window.{rest_of, line_of}
use Rattle.script_input.specs.Lines.{whole_lines, last_part, until_break, script_lines}
use Rattle.script_input.specs.Faults.{BeginsWithBreak, Explains, HasEndedAt, IsWithin}

-- ---- what a reader of lines shows

-- The bytes that were read and not given.
abbrev pub pending : LineReader → List ℕ
pending r = rest_of r.window

-- The line that was given last.
abbrev pub given_line : LineReader → List ℕ
given_line r = line_of r.window

-- How many lines were given.
abbrev pub lines_given : LineReader → ℕ
lines_given r = r.lines

-- How many bytes were passed over of the line that is being read, which is too long; 0 of any other.
abbrev pub passed_over : LineReader → ℕ
passed_over r = r.passed

-- Nothing was read.
pub record IsFresh (r : LineReader) : Type 0 where
  pub pending : pending r ≡ []
  pub taken : r.taken ≡ 0
  pub lines : r.lines ≡ 0
  pub passed : r.passed ≡ 0
  pub ended : r.ended ≡ false

-- A read is due: the end wasn't reached, and what was read and not given is a part of one line, within the limits.
pub record IsDue (r : LineReader) : Type 0 where
  pub unbroken : All (λ b. b ≢ 10) (pending r)
  pub room : length (pending r) ≤ 65536
  pub bytes : r.taken + length (pending r) ≤ 268435456
  pub lines : (r.lines < 1000000) ⊎ ((pending r ≡ []) × (r.passed ≡ 0))
  pub not_ended : r.ended ≡ false

-- A line of so many bytes that its LF follows can be given as it is: none of it was passed over, it has at most `most` bytes, and
-- it is within the limits.
pub record IsPlain (r : LineReader) (count most : ℕ) : Type 0 where
  pub none : r.passed ≡ 0
  pub short : count ≤ most
  pub lines : r.lines < 1000000
  pub bytes : r.taken + count < 268435456

-- Bytes are passed over only of a line of which some were.
pub record PassesOn (old new : LineReader) : Type 0 where
  pub none : old.passed ≡ 0 → new.passed ≡ 0
  pub more : old.passed ≤ new.passed

-- 1 where it holds, and else 0.
abbrev pub one_if : Bool → ℕ
one_if true = 1
one_if false = 0

-- A number that falls with each line that is given or passed over, and with each read.
abbrev pub ahead_of : LineReader → ℕ
ahead_of r = 2 * (1000000 - r.lines) + (268500992 - (r.taken + length (pending r))) + one_if (r.passed == 0) + one_if (not r.ended)

-- It doesn't grow where a read is due, and falls but for the end.
abbrev pub Falls : LineReader → LineReader → Option NextLine → Type 0
Falls old new None = ahead_of new ≤ ahead_of old
Falls old new (Some next) = next ≢ nexts.End → ahead_of new < ahead_of old

-- ---- what was read, and what was given of it

-- Behind whole lines, which were given. Of the line behind them so many bytes were passed over.
pub record IsBehind (r : LineReader) (gone : List ℕ) (given : List (List ℕ)) : Type 0 where
  pub whole : given ≡ whole_lines gone
  pub passed : r.passed ≡ length (last_part gone)

-- Behind a last line without LF, at the end of the input: all lines were given.
pub record IsBehindAll (r : LineReader) (gone : List ℕ) (given : List (List ℕ)) : Type 0 where
  pub ended : r.ended ≡ true
  pub pending : pending r ≡ []
  pub passed : r.passed ≡ 0
  pub parts : given ≡ whole_lines gone ++ last_part gone ∷ []
  pub all : script_lines gone ≡ given

-- The source has lost what was read, and of that these lines were given, in their order. Behind the line that comes next no more
-- stands than one read brings, so at most 65,536 bytes.
pub record Reads (from to : Option (List ℕ)) (last : CallEnd) (r : LineReader) (given : List (List ℕ)) : Type 0 where
  pub gone : List ℕ
  pub consumed : Consumes from to (gone ++ pending r)
  pub ended : r.ended ≡ true → HasEndedAt to last
  pub taken : r.taken ≡ length gone
  pub lines : r.lines ≡ length given
  pub place : IsBehind r gone given ⊎ IsBehindAll r gone given
  pub near : length (pending r) ≤ until_break (pending r) + 65536

-- A line is given that so many bytes are the rest of, and as many behind it as end it.
pub record HasGiven (old new : LineReader) (count ending : ℕ) : Type 0 where
  pub line : given_line new ≡ take count (pending old)
  pub pending : pending new ≡ drop (count + ending) (pending old)
  pub taken : new.taken ≡ old.taken + (count + ending)
  pub lines : new.lines ≡ old.lines + 1
  pub passed : new.passed ≡ 0
  pub ended : new.ended ≡ old.ended

-- So many bytes of a line are passed over.
pub record HasPassed (old new : LineReader) (count : ℕ) : Type 0 where
  pub pending : pending new ≡ drop count (pending old)
  pub taken : new.taken ≡ old.taken + count
  pub lines : new.lines ≡ old.lines
  pub passed : new.passed ≡ old.passed + count
  pub ended : new.ended ≡ old.ended

-- ---- what comes next

-- A line is whole where an LF follows it, or the end of the input; there a line of no bytes counts only as the first.
abbrev pub EndsLine : List (List ℕ) → List ℕ → List ℕ → Type 0 → Type 0
EndsLine given line back ended = BeginsWithBreak back ⊎ ((back ≡ []) × (ended × (line ≡ [] → given ≡ [])))

-- These lines stand whole in front of the last piece that was read, of at most 65,536 bytes, and no other; and they are within the
-- limits.
pub record ReadsNoFurther (from to : Option (List ℕ)) (given : List (List ℕ)) : Type 0 where
  pub front : List ℕ
  pub piece : List ℕ
  pub consumed : Consumes from to (front ++ piece)
  pub whole : whole_lines front ≡ given
  pub within : IsWithin front
  pub most : length piece ≤ 65536

-- The next line is given. It has at most so many bytes, and stands whole in what was read: behind a front, within the limits, of
-- the lines that were given before it, and in front of at most 65,536 bytes.
pub record GivesLine (from to : Option (List ℕ)) (last : CallEnd) (given : List (List ℕ)) (r : LineReader) (most : ℕ) : Type 0 where
  pub front : List ℕ
  pub back : List ℕ
  pub consumed : Consumes from to (front ++ back)
  pub whole : whole_lines front ≡ given
  pub part : last_part front ≡ given_line r
  pub within : IsWithin front
  pub ends : EndsLine given (given_line r) back (HasEndedAt to last)
  pub near : length back ≤ 65536
  pub short : length (given_line r) ≤ most
  pub passed : r.passed ≡ 0
  pub reads : Reads from to last r (given ++ given_line r ∷ [])

-- The next line has more than so many bytes, which are passed over. It isn't given yet.
pub record FindsLong (from to : Option (List ℕ)) (last : CallEnd) (given : List (List ℕ)) (r : LineReader) (most : ℕ) : Type 0 where
  pub long : most < r.passed
  pub reads : Reads from to last r given

-- A line is given of which bytes were passed over.
pub record GivesPassed (from to : Option (List ℕ)) (last : CallEnd) (given : List (List ℕ)) (old new : LineReader) : Type 0 where
  pub line : List ℕ
  pub was : 0 < old.passed
  pub long : old.passed ≤ length line
  pub passed : new.passed ≡ 0
  pub no_further : ReadsNoFurther from to given
  pub reads : Reads from to last new (given ++ line ∷ [])

-- The input has ended within the limits, and all its lines were given.
pub record GaveAll (from to : Option (List ℕ)) (last : CallEnd) (given : List (List ℕ)) : Type 0 where
  pub read : List ℕ
  pub consumed : Consumes from to read
  pub ended : HasEndedAt to last
  pub within : IsWithin read
  pub all : script_lines read ≡ given

-- A fault comes behind the lines that were given, for a reason.
pub record StopsAt (from to : Option (List ℕ)) (last : CallEnd) (given : List (List ℕ)) (fault : ScriptFault) : Type 0 where
  pub front : List ℕ
  pub back : List ℕ
  pub consumed : Consumes from to (front ++ back)
  pub whole : whole_lines front ≡ given
  pub why : Explains fault front back (HasEndedAt to last)

-- What comes next, behind the lines that were given.
abbrev pub Nexts : Option (List ℕ) → Option (List ℕ) → CallEnd → List (List ℕ) → LineReader → LineReader → ℕ
    → Result NextLine ScriptFault → Type 0
Nexts from to last given old new most (Ok nexts.Line) = GivesLine from to last given new most
Nexts from to last given old new most (Ok nexts.Long) = FindsLong from to last given new most
Nexts from to last given old new most (Ok nexts.Passed) = GivesPassed from to last given old new
Nexts from to last given old new most (Ok nexts.End) = GaveAll from to last given
Nexts from to last given old new most (Err fault) = StopsAt from to last given fault

-- What comes next in what was read.
abbrev pub Finds : Option (List ℕ) → Option (List ℕ) → CallEnd → List (List ℕ) → LineReader → LineReader → ℕ
    → Result (Option NextLine) ScriptFault → Type 0
Finds from to last given old new most (Ok None) = Reads from to last new given
Finds from to last given old new most (Ok (Some next)) = Nexts from to last given old new most (Ok next)
Finds from to last given old new most (Err fault) = StopsAt from to last given fault

-- The first line was given, and tells a schema.
pub record HasHeader (from to : Option (List ℕ)) (last : CallEnd) (r : LineReader) (schema : SchemaValue) : Type 0 where
  pub told : schema_of (given_line r) ≡ Ok schema
  pub passed : r.passed ≡ 0
  pub reads : Reads from to last r (given_line r ∷ [])
