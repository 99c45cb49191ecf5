-- A service as its callers see it, and what its calls do (this project).
use Rattle.std.specs.Prelude.{◌≡◌, ◌≤◌, ℕ, Bool, true, false, List, [], ◌++◌, length, take, drop, Option, Some}
use Rattle.std.specs.List.{AllByRecursion, flat_map}
use Rattle.std.specs.Io.KnownBytes.{Appends}
use Rattle.field_bounds.specs.declared.entry.Command.{Command}
use Rattle.kept_records.specs.declared.medium.Mishap.TheVariants.{Never}
use Rattle.kept_records.specs.declared.record.Record.{Record}
use Rattle.site_step.specs.Site.{SiteValue, Holds}
use Rattle.script_input.specs.Streams.{AppendsPrefix}
use Rattle.file_medium.specs.Copies.{IsCopyOf}
use Rattle.caller_keys.specs.Keys.{KeyNote, IsNote, note_line, IsKeyed, AreLines, last_txn}
use Rattle.site_service.specs.declared.fault.ServeFault.{ServeFault}
use Rattle.site_service.specs.declared.fault.ServeFault.TheVariants as faults
use Rattle.site_service.specs.Kept.{LastNotes, last_of}
use Rattle.log_head.specs.declared.gone.Gone.{Gone}
use Rattle.site_service.specs.LetGo.{IsTold}
use Rattle.site_service.specs.Answers.{Served, served_of, held_in, Answered, IsAnswer, AnswersLine, AnswersLines}

-- What the answers depend on; the text of the answers that wait to be let out; the bytes that the log's file holds, those of it
-- that are safe, and the fewest that a cut of it has left, where they are known; how many of the bytes that the medium holds are
-- settled there; and whether a call of the file that was to settle more has failed.
pub record ServiceValue : Type 0 where
  pub served : Served
  pub waiting : List ℕ
  pub log : Option (List ℕ)
  pub safe : Option (List ℕ)
  pub least : Option ℕ
  pub settled : ℕ
  pub lost : Bool

-- A service's value, from its parts.
abbrev pub value_of : SiteValue → LastNotes → Option Gone → ℕ → List ℕ → Option (List ℕ) → Option (List ℕ) → Option ℕ → ℕ → Bool
    → ServiceValue
value_of site last told lines waiting log safe least settled lost =
    record {
      served = served_of site last told lines;
      waiting = waiting;
      log = log;
      safe = safe;
      least = least;
      settled = settled;
      lost = lost;
    }

-- ---- the link between the medium and the log

-- The site stands on a medium that never fails, and that holds lawful records and nothing behind them: none is gone.
pub record IsWhole (v : SiteValue) : Type 0 where
  pub never : v.foretold ≡ Some Never
  pub held : v.gone ≡ []
  pub records : List Record
  pub log : Holds v.schema v.site.0 v.bytes records []

-- The site goes on over such a medium, to which it only appends.
pub record Grows (old new : SiteValue) : Type 0 where
  pub whole : IsWhole new
  pub added : List ℕ
  pub bytes : new.bytes ≡ old.bytes ++ added
  pub schema : new.schema ≡ old.schema

-- The text holds lines of notes, which tell of each key what is its last transaction, and beside them exactly these records.
pub record IsTextOf (text : List ℕ) (last : LastNotes) (records : List ℕ) : Type 0 where
  pub notes : List KeyNote
  pub keyed : IsKeyed text notes records
  pub tells : (key : List ℕ) → last_of last key ≡ last_txn key notes

-- Such a text is all that a file holds, as far as it tells.
pub record HoldsText (known : Option (List ℕ)) (last : LastNotes) (records : List ℕ) : Type 0 where
  pub text : List ℕ
  pub copy : IsCopyOf known text
  pub is : IsTextOf text last records

-- The site stands on a medium that never fails, and its log is lawful records and nothing behind them: those that are gone, and those
-- that the medium holds.
pub record StandsOnHeld (v : SiteValue) : Type 0 where
  pub never : v.foretold ≡ Some Never
  pub records : List Record
  pub log : Holds v.schema v.site.0 v.bytes records []
  pub held : List Record
  pub parts : log.all ≡ v.gone ++ held

-- What is safe of the log is a text of whole lines, whose records are the first so many of the bytes that the medium of this site
-- holds, which are settled; and so is all that the log holds: unless a call of its file has failed. Its notes and some more tell of each
-- key its last transaction. What is told of what was let go is true.
pub record IsLinked (site : SiteValue) (v : ServiceValue) : Type 0 where
  pub stands : StandsOnHeld site
  pub let_go : IsTold v.served.let_go
  pub within : v.settled ≤ length (held_in v.served)
  pub text : List ℕ
  pub lines : AreLines text
  pub notes : List KeyNote
  pub keyed : IsKeyed text notes (take v.settled (held_in v.served))
  pub more : List KeyNote
  pub tells : (key : List ℕ) → last_of v.served.last key ≡ last_txn key (notes ++ more)
  pub safe : v.lost ≡ false → IsCopyOf v.safe text
  pub log : v.lost ≡ false → IsCopyOf v.log text

-- All that the medium holds is in the log, and safe there, and so is the note of each key: so the record of each answer so far, unless
-- it was let go, and the key of each commit that was noted.
pub record IsSettled (v : ServiceValue) : Type 0 where
  pub sound : v.lost ≡ false
  pub text : List ℕ
  pub is : IsTextOf text v.served.last (held_in v.served)
  pub log : IsCopyOf v.log text
  pub safe : IsCopyOf v.safe text

-- What a log gets behind a text: lines of notes, and behind them all that the medium holds behind its first so many bytes. So no front of
-- it has a record without the notes that come with it.
pub record AddsNotesFirst (known : Option (List ℕ)) (text : List ℕ) (settled : ℕ) (bytes : List ℕ) : Type 0 where
  pub notes : List KeyNote
  pub each : AllByRecursion IsNote notes
  pub copy : IsCopyOf known ((text ++ flat_map note_line notes) ++ drop settled bytes)

-- ---- the calls

-- The log is as before, and so is what is settled of it.
pub record KeepsLog (old new : ServiceValue) : Type 0 where
  pub log : new.log ≡ old.log
  pub safe : new.safe ≡ old.safe
  pub least : new.least ≡ old.least
  pub settled : new.settled ≡ old.settled
  pub lost : new.lost ≡ old.lost

-- The output has grown by the answer to the line, whose number the new count tells.
pub record Tells (line : List ℕ) (old new : Served) (out grown : List ℕ) : Type 0 where
  pub text : List ℕ
  pub answer : IsAnswer old line new text
  pub added : grown ≡ out ++ text

-- The output has grown by the entry of a command that was carried out.
pub record TellsEntry (command : Command) (old new : SiteValue) (out grown : List ℕ) : Type 0 where
  pub text : List ℕ
  pub answered : Answered old command new text
  pub added : grown ≡ out ++ text

-- A command is carried out, and its answer waits behind those that waited.
pub record HasApplied (command : Command) (old new : ServiceValue) : Type 0 where
  pub tells : TellsEntry command old.served.site new.served.site old.waiting new.waiting
  pub last : new.served.last ≡ old.served.last
  pub let_go : new.served.let_go ≡ old.served.let_go
  pub lines : new.served.lines ≡ old.served.lines

-- A line is answered, and its answer waits behind those that waited.
pub record HasAnswered (line : List ℕ) (old new : ServiceValue) : Type 0 where
  pub text : List ℕ
  pub answer : AnswersLine old.served line new.served text
  pub added : new.waiting ≡ old.waiting ++ text

-- Lines are answered one after the other, and their answers wait behind those that waited.
pub record HasAnsweredAll (lines : List (List ℕ)) (old new : ServiceValue) : Type 0 where
  pub text : List ℕ
  pub answers : AnswersLines old.served lines new.served text
  pub added : new.waiting ≡ old.waiting ++ text

-- What a release that went well leaves: all is settled, the text of the answers that waited was written, all of it, and none waits.
pub record LetsOut (before after : Option (List ℕ)) (old new : ServiceValue) : Type 0 where
  pub settled : IsSettled new
  pub out : Appends before after old.waiting
  pub waiting : new.waiting ≡ []

-- What a fault of a release leaves. Device: the sink holds what it held, what was safe still is, and nothing will be let out any
-- more. Write: all is settled, a front of the answers was written, and none waits. No other fault comes.
abbrev pub HoldsBack : Option (List ℕ) → Option (List ℕ) → ServiceValue → ServiceValue → ServeFault → Type 0
HoldsBack before after old new faults.Device =
    (after ≡ before) × (new.waiting ≡ old.waiting) × (new.safe ≡ old.safe) × (new.lost ≡ true)
HoldsBack before after old new faults.Write = IsSettled new × AppendsPrefix before after old.waiting × (new.waiting ≡ [])
HoldsBack before after old new faults.Read = ⊥
HoldsBack before after old new faults.TooLong = ⊥
HoldsBack before after old new faults.NoMemory = ⊥
