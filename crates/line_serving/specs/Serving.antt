-- What a served site reads and lets out (this project).
use Rattle.std.specs.Prelude.{◌≡◌, ◌⊎◌, ◌<◌, ◌≤◌, ◌-◌, ◌^◌, ℕ, Bool, true, false, List, [], ◌++◌, length, Option}
use Rattle.std.specs.Io.KnownBytes.{Appends, Consumes, IsAtEnd}
use Rattle.entry_text.specs.Lines.{max_line}
use Rattle.script_input.specs.Lines.{whole_lines, last_part}
use Rattle.script_input.specs.Streams.{AppendsPrefix}
use Rattle.site_service.specs.declared.fault.ServeFault.{ServeFault}
use Rattle.site_service.specs.declared.fault.ServeFault.TheVariants as faults
use Rattle.site_service.specs.Answers.{Served}
use Rattle.line_serving.specs.Keeping.{AnswersBy, IsSafeAt}
use Rattle.site_service.specs.Service.{ServiceValue, IsSettled}
use Rattle.site_service.specs.Traces.{TraceValue, HasTold, HasKept}

-- What is kept of a part of a line: all of it, or, of more than 256 bytes, more than 256.
abbrev pub IsKeptOf : List ℕ → List ℕ → Type 0
IsKeptOf part kept = (kept ≡ part) ⊎ ((max_line < length kept) × (max_line < length part))

-- The reader has lost what was read. What waited at first was written, and behind it exactly the text of the answers to the whole
-- lines that were read, by which text the trace has grown too; none waits, and the record of each is safe, unless it was let go. Nothing
-- is let go but by a service that shortens its log, of which so many bytes stay each time.
pub record Serves (keep : Option ℕ) (from to before after : Option (List ℕ)) (trace traced : TraceValue) (start now : ServiceValue)
    : Type 0 where
  pub read : List ℕ
  pub consumed : Consumes from to read
  pub text : List ℕ
  pub answers : AnswersBy keep start.served (whole_lines read) now.served text
  pub written : Appends before after (start.waiting ++ text)
  pub waiting : now.waiting ≡ []
  pub settled : IsSettled now
  pub told : HasTold trace traced text

-- The same between two reads, after so many: each has brought one byte at least, and of the line that is being read so much is kept.
pub record ServesPart (keep : Option ℕ) (from to before after : Option (List ℕ)) (trace traced : TraceValue) (start now : ServiceValue)
    (line : List ℕ) (reads : ℕ) : Type 0 where
  pub serves : Serves keep from to before after trace traced start now
  pub kept : IsKeptOf (last_part serves.read) line
  pub some : reads ≤ length serves.read

-- The serving goes on, or the input has ended: a last line without a line feed is no line.
abbrev pub ServesOn : Option ℕ → Option (List ℕ) → Option (List ℕ) → Option (List ℕ) → Option (List ℕ) → TraceValue → TraceValue
    → ServiceValue → ServiceValue → List ℕ → ℕ → Bool → Type 0
ServesOn keep from to before after trace traced start now line reads true =
    ServesPart keep from to before after trace traced start now line reads
ServesOn keep from to before after trace traced start now line reads false =
    Serves keep from to before after trace traced start now × IsAtEnd to

-- What was written by the time of a fault, of this text: a front of it at a write fault, and else all.
abbrev pub IsOutAt : ServeFault → Option (List ℕ) → Option (List ℕ) → List ℕ → Type 0
IsOutAt faults.Write before after text = AppendsPrefix before after text
IsOutAt faults.Read before after text = Appends before after text
IsOutAt faults.Device before after text = Appends before after text
IsOutAt faults.TooLong before after text = Appends before after text
IsOutAt faults.NoMemory before after text = Appends before after text

-- The input was too long only where 2^64 - 1 bytes were read: one at least by each of so many reads.
abbrev pub IsLongAt : ServeFault → List ℕ → Type 0
IsLongAt faults.TooLong read = 2 ^ 64 - 1 ≤ length read
IsLongAt faults.Read read = Unit {0}
IsLongAt faults.Write read = Unit {0}
IsLongAt faults.Device read = Unit {0}
IsLongAt faults.NoMemory read = Unit {0}

-- A fault ends the serving. What was read is a front, whose batches were let out, and the rest: what was written is exactly what
-- waited at first and the text of the answers to the whole lines of the front, at a write fault a front of that. The record of each
-- of these answers is safe, unless it was let go, and the key of each commit: what is safe of the log is a text of exactly the bytes that
-- are held by the site that answered the last of them, with notes that tell the keys that it knew; or, where the log is shortened, and its
-- file failed, that or one of fewer bytes, of which so many stay. The text of these answers is safe in the trace, maybe with more behind
-- it: so what is safe of the log is never ahead of the trace.
pub record Stops (keep : Option ℕ) (from to before after : Option (List ℕ)) (trace traced : TraceValue) (start now : ServiceValue)
    (fault : ServeFault) : Type 0 where
  pub front : List ℕ
  pub back : List ℕ
  pub consumed : Consumes from to (front ++ back)
  pub last : Served
  pub text : List ℕ
  pub answers : AnswersBy keep start.served (whole_lines front) last text
  pub out : IsOutAt fault before after (start.waiting ++ text)
  pub safe : IsSafeAt keep fault last now.safe
  pub told : HasKept trace traced text
  pub long : IsLongAt fault front

-- What waited at first wasn't let out, since the log's file failed: nothing was read, nothing written, and nothing traced, and what
-- was safe of the log still is.
pub record StopsAtOnce (from to before after : Option (List ℕ)) (trace traced : TraceValue) (start now : ServiceValue) (fault : ServeFault)
    : Type 0 where
  pub device : fault ≡ faults.Device
  pub unread : to ≡ from
  pub unwritten : after ≡ before
  pub untold : traced ≡ trace
  pub safe : now.safe ≡ start.safe
