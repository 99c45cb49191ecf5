-- What workers are asked, what they make of it, and what is written (this project).
use Rattle.std.specs.Prelude.{◌≡◌, ◌≢◌, ◌<◌, ℕ, ◌⊎◌, List, [], ◌∷◌, ◌++◌, reverse, Option, IfSome}
use Rattle.std.specs.Io.KnownBytes.{Appends, Consumes}
use Rattle.field_bounds.specs.Schema.{SchemaValue}
use Rattle.field_bounds.specs.Central.{IsCentral}
use Rattle.field_bounds.specs.declared.entry.Command.{Command}
use Rattle.field_bounds.specs.declared.entry.Entry.{Entry}
use Rattle.entry_text.specs.Spelling.{entry_text}
use Rattle.entry_text.specs.Lines.{max_line}
use Rattle.central_rules.specs.declared.verdict.Rule.{Rule}
use Rattle.central_rules.specs.declared.verdict.Verdict.TheVariants.{Legal, Illegal}
use Rattle.central_rules.specs.Verdict.{verdict_of}
use Rattle.work_faults.specs.declared.workers.WorkFault.{WorkFault}
use Rattle.work_faults.specs.declared.workers.WorkFault.TheVariants as work_faults
use Rattle.site_workers.specs.Scripts.{AllWorked}
use Rattle.site_workers.specs.Faults.{TurnsNone, TellsForeign, TellsLost, TellsDiffers, TellsTurned, site_named}
use Rattle.site_workers.specs.Jobs.{TellsFirst}
use Rattle.trace_weave.specs.Weave.{WeavesLowest, NoneWeaves}
use Rattle.script_input.specs.declared.fault.ScriptFault.{ScriptFault}
use Rattle.script_input.specs.declared.fault.ScriptFault.TheVariants as faults
use Rattle.script_input.specs.declared.streams.CallEnd.{CallEnd}
use Rattle.script_input.specs.Lines.{whole_lines, script_lines}
use Rattle.script_input.specs.Faults.{Explains, HasEndedAt, IsWithin, IsLineReached}
use Rattle.script_input.specs.Streams.{AppendsPrefix}
use Rattle.escrow_work.specs.Scripts.{HasScripts, IsFirstBad}

-- ---- what workers make

-- Entries, the oldest first, are woven of histories that the workers of these scripts made. Each history is a run of owed
-- replies on its site's fresh base, and its commands without its accepts are its script.
pub record Works (schema : SchemaValue) (scripts : List (List Command)) (entries : List Entry) : Type 0 where
  pub histories : List (List Entry)
  pub worked : AllWorked schema scripts histories
  pub woven : WeavesLowest histories (reverse entries)

-- The judge's verdict on them is Legal, so they are a run of one central store.
pub record WorksLegally (schema : SchemaValue) (scripts : List (List Command)) (entries : List Entry) : Type 0 where
  pub works : Works schema scripts entries
  pub legal : verdict_of schema entries ≡ Legal
  pub central : IsCentral schema (reverse entries)

-- The judge's verdict on the entries is that some rule is broken.
pub record IsIllegal (schema : SchemaValue) (entries : List Entry) : Type 0 where
  pub at : ℕ
  pub rule : Rule
  pub verdict : verdict_of schema entries ≡ Illegal at rule

-- Workers of these scripts may make histories that no trace weaves.
pub record Sticks (schema : SchemaValue) (scripts : List (List Command)) : Type 0 where
  pub histories : List (List Entry)
  pub worked : AllWorked schema scripts histories
  pub none : NoneWeaves histories

-- ---- what is written

-- Entries, a line each.
abbrev pub entries_text : SchemaValue → List Entry → List ℕ
entries_text schema [] = []
entries_text schema (e ∷ es) = entry_text schema e ++ (10 ∷ entries_text schema es)

-- The header line as it was read, and the entries.
abbrev pub work_text : SchemaValue → List ℕ → List Entry → List ℕ
work_text schema header entries = header ++ (10 ∷ entries_text schema entries)

-- Lines and what is written of them: they are a header and plain commands, and the text is that header and the entries that
-- the workers of their scripts made.
pub record IsWorkOf (lines : List (List ℕ)) (text : List ℕ) : Type 0 where
  pub schema : SchemaValue
  pub header : List ℕ
  pub scripts : List (List Command)
  pub entries : List Entry
  pub good : HasScripts schema header scripts lines
  pub made : WorksLegally schema scripts entries
  pub told : text ≡ work_text schema header entries

-- The work of all that was read is written, the input has ended, and it is within the limits on lines and bytes.
pub record WritesWork (from to before after : Option (List ℕ)) (last : CallEnd) : Type 0 where
  pub read : List ℕ
  pub text : List ℕ
  pub consumed : Consumes from to read
  pub ended : HasEndedAt to last
  pub within : IsWithin read
  pub work : IsWorkOf (script_lines read) text
  pub written : Appends before after text

-- ---- faults

-- The bytes have a bad line, and this is the first. It was reached within the limits: as a line, or as one of more than 256
-- bytes.
pub record FindsBad (read : List ℕ) (number : ℕ) (ended : Type 0) : Type 0 where
  pub first : IsFirstBad (script_lines read) number
  pub reached : IsLineReached read number max_line ended

-- No line, or a header with plain commands behind it.
abbrev pub IsGood : List (List ℕ) → Type 0
IsGood lines = (lines ≡ []) ⊎ ((schema : SchemaValue) × ((header : List ℕ) × ((scripts : List (List Command))
    × HasScripts schema header scripts lines)))

-- A fault of the input: what was read is the front and the back, where it came, and the whole lines of the front are good. At want
-- of memory, in the work too, these are all lines but those that end in the last 65,536 bytes that were read, at most (`Explains`).
pub record FaultIn (fault : ScriptFault) (read : List ℕ) (ended : Type 0) : Type 0 where
  pub front : List ℕ
  pub back : List ℕ
  pub parts : front ++ back ≡ read
  pub why : Explains fault front back ended
  pub good : IsGood (whole_lines front)
  pub other : fault ≢ faults.Write

-- All lines are good, and the input has ended within the limits on lines and bytes.
pub record IsAsked (schema : SchemaValue) (scripts : List (List Command)) (read : List ℕ) (ended : Type 0) : Type 0 where
  pub header : List ℕ
  pub good : HasScripts schema header scripts (script_lines read)
  pub within : IsWithin read
  pub at : ended

-- What a fault of the work says of workers of these scripts, as a run of them tells it: that of the lowest site that has one; or
-- histories that such workers may make, of which the site that it names shows it. Their gate, which is free, turns no call away, and
-- want of memory is told as such.
pub record IsWorkFault (schema : SchemaValue) (scripts : List (List Command)) (fault : WorkFault) : Type 0 where
  pub known : fault ≢ work_faults.NoMemory
  pub first : TellsFirst schema TurnsNone scripts fault
  pub foreign : TellsForeign schema scripts fault
  pub lost : TellsLost schema scripts fault
  pub receipts : TellsDiffers schema fault
  pub turned : TellsTurned schema TurnsNone fault
  pub site : IfSome (site_named fault) (λ site. site.0 < schema.sites)

-- What a fault says of the bytes that were read. A write fault says it by what is written, and that a verdict is other than
-- Legal never comes.
abbrev pub TellsOf : ScriptFault → List ℕ → Type 0 → Type 0
TellsOf faults.Read read ended = FaultIn faults.Read read ended
TellsOf faults.TooLong read ended = FaultIn faults.TooLong read ended
TellsOf faults.Write read ended = ⊥
TellsOf (faults.Header fault) read ended = FaultIn (faults.Header fault) read ended
TellsOf (faults.BadLine number) read ended = FindsBad read number ended
TellsOf (faults.Work fault) read ended = (schema : SchemaValue) × ((scripts : List (List Command)) × (IsAsked schema scripts read ended
    × IsWorkFault schema scripts fault))
TellsOf faults.Stuck read ended = (schema : SchemaValue) × ((scripts : List (List Command)) × (IsAsked schema scripts read ended
    × Sticks schema scripts))
TellsOf faults.Illegal read ended = ⊥
TellsOf faults.NoMemory read ended = FaultIn faults.NoMemory read ended

-- Why workers of these scripts make no trace.
abbrev pub MakesNone : SchemaValue → List (List Command) → ScriptFault → Type 0
MakesNone schema scripts faults.Read = ⊥
MakesNone schema scripts faults.TooLong = ⊥
MakesNone schema scripts faults.Write = ⊥
MakesNone schema scripts (faults.Header fault) = ⊥
MakesNone schema scripts (faults.BadLine number) = ⊥
MakesNone schema scripts (faults.Work fault) = IsWorkFault schema scripts fault
MakesNone schema scripts faults.Stuck = Sticks schema scripts
MakesNone schema scripts faults.Illegal = ⊥
MakesNone schema scripts faults.NoMemory = Unit {0}

-- The text of the work of all that was read, at whose end the input has ended, and which is within the limits.
abbrev pub Tells : Option (List ℕ) → Option (List ℕ) → CallEnd → List ℕ → Type 0
Tells from to last text =
    (read : List ℕ) × (Consumes from to read × (HasEndedAt to last × (IsWithin read × IsWorkOf (script_lines read) text)))

-- The fault came in what was read.
abbrev pub FaultsIn : Option (List ℕ) → Option (List ℕ) → CallEnd → ScriptFault → Type 0
FaultsIn from to last fault = (read : List ℕ) × (Consumes from to read × TellsOf fault read (HasEndedAt to last))

-- At a write fault a front of a text that Ok allows is written, of an input within the limits. At every other fault nothing
-- is.
abbrev pub FailsIn : ScriptFault → List ℕ → Type 0 → Option (List ℕ) → Option (List ℕ) → Type 0
FailsIn faults.Read read ended before after = TellsOf faults.Read read ended × Appends before after []
FailsIn faults.TooLong read ended before after = TellsOf faults.TooLong read ended × Appends before after []
FailsIn faults.Write read ended before after = ended × (IsWithin read × ((text : List ℕ)
    × (IsWorkOf (script_lines read) text × AppendsPrefix before after text)))
FailsIn (faults.Header fault) read ended before after = TellsOf (faults.Header fault) read ended × Appends before after []
FailsIn (faults.BadLine number) read ended before after = TellsOf (faults.BadLine number) read ended × Appends before after []
FailsIn (faults.Work fault) read ended before after = TellsOf (faults.Work fault) read ended × Appends before after []
FailsIn faults.Stuck read ended before after = TellsOf faults.Stuck read ended × Appends before after []
FailsIn faults.Illegal read ended before after = TellsOf faults.Illegal read ended × Appends before after []
FailsIn faults.NoMemory read ended before after = TellsOf faults.NoMemory read ended × Appends before after []

-- A fault comes for a reason in what was read, and nothing but a front of a text that Ok allows is written.
pub record Fails (from to before after : Option (List ℕ)) (last : CallEnd) (fault : ScriptFault) : Type 0 where
  pub read : List ℕ
  pub consumed : Consumes from to read
  pub told : FailsIn fault read (HasEndedAt to last) before after
