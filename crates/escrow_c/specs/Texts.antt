-- What a script is answered, and what is judged (this project).
use Rattle.std.specs.Prelude.{◌≡◌, ◌≢◌, ◌⊎◌, ℕ, ◌+◌, ◌<◌, All, List, [], ◌∷◌, ◌++◌, length, Ok}
use Rattle.std.specs.List.{flat_map}
use Rattle.field_bounds.specs.Schema.{SchemaValue}
use Rattle.field_bounds.specs.Header.{schema_of}
use Rattle.field_bounds.specs.declared.entry.Entry.{Entry}
use Rattle.entry_text.specs.Spelling.{entry_text}
use Rattle.entry_text.specs.Ranges.{EntryFits}
use Rattle.script_input.specs.Lines.{script_lines}
use Rattle.script_input.specs.Faults.{IsWithin, Explains}
use Rattle.script_input.specs.declared.fault.ScriptFault.{ScriptFault}
use Rattle.script_input.specs.declared.fault.ScriptFault.TheVariants.{Read, TooLong, Write, Header, BadLine, Work, Stuck, Illegal as NotLegal, NoMemory}
use Rattle.world_steps.specs.declared.step.WorldStep.{WorldStep}
use Rattle.escrow_run.specs.Text.{HasText}
use Rattle.central_rules.specs.declared.verdict.Verdict.{Verdict}
use Rattle.central_rules.specs.declared.verdict.Verdict.TheVariants.{Legal, Illegal}
use Rattle.central_rules.specs.declared.verdict.Rule.{Rule}
use Rattle.central_rules.specs.Verdict.{verdict_of}
use Rattle.site_handle.specs.Session.{IsNoSchema}
use Rattle.escrow_c.specs.declared.trace.EntriesFault.{EntriesFault}
use Rattle.escrow_c.specs.declared.trace.EntriesFault.TheVariants as trace_faults
use Rattle.escrow_c.specs.Status.{done, no_memory, no_schema, too_long, bad_entry, illegal}

-- ---- a script

-- The text is what answers a script, which is within the limits: line by line, by the one trace of the steps that it asks.
pub record AnswersScript (script text : List ℕ) : Type 0 where
  pub schema : SchemaValue
  pub steps : List WorldStep
  pub within : IsWithin script
  pub answered : HasText schema steps (script_lines script) text

-- The answers have so many bytes, for which there is too little room.
pub record NeedsRoom (script : List ℕ) (room needed : ℕ) : Type 0 where
  pub text : List ℕ
  pub answers : AnswersScript script text
  pub needed_is : needed ≡ length text
  pub short : room < needed

-- The status of a script that isn't answered.
abbrev pub script_status : ScriptFault → ℕ
script_status (Header fault) = no_schema
script_status TooLong = too_long
script_status NoMemory = no_memory
script_status Read = no_memory
script_status Write = no_memory
script_status (BadLine number) = no_memory
script_status (Work fault) = no_memory
script_status Stuck = no_memory
script_status NotLegal = no_memory

-- Why a script isn't answered: the fault came behind a front of it.
pub record Explained (script : List ℕ) (fault : ScriptFault) : Type 0 where
  pub front : List ℕ
  pub back : List ℕ
  pub behind : List ℕ
  pub parts : script ≡ (front ++ back) ++ behind
  pub why : Explains fault front back (behind ≡ [])

-- The same, by the status.
pub record IsUnanswered (script : List ℕ) (status : ℕ) : Type 0 where
  pub fault : ScriptFault
  pub told : status ≡ script_status fault
  pub why : Explained script fault

-- ---- a trace

-- Entries as text: a line for each.
abbrev pub lines_text : SchemaValue → List Entry → List ℕ
lines_text schema entries = flat_map (λ e. entry_text schema e ++ 10 ∷ []) entries

-- The trace is the text of these entries, under the header's schema, and this is the verdict on them.
pub record IsJudged (header trace : List ℕ) (verdict : Verdict) : Type 0 where
  pub schema : SchemaValue
  pub told : schema_of header ≡ Ok schema
  pub entries : List Entry
  pub text : trace ≡ lines_text schema entries
  pub judged : verdict_of schema entries ≡ verdict

-- It is a run of one central store, in which each reply was owed.
abbrev pub IsLegal : List ℕ → List ℕ → Type 0
IsLegal header trace = IsJudged header trace Legal

-- This entry, counted from 1, is the first that breaks a rule.
abbrev pub IsIllegal : List ℕ → List ℕ → ℕ → Type 0
IsIllegal header trace at = (rule : Rule) × IsJudged header trace (Illegal at rule)

-- A line is the text of no entry.
abbrev pub SpellsNoEntry : SchemaValue → List ℕ → Type 0
SpellsNoEntry schema line = (entry : Entry) → EntryFits entry → line ≢ entry_text schema entry

-- What stands there begins with a line that is the text of no entry, or is a last line with no line feed.
abbrev pub BeginsBadly : SchemaValue → List ℕ → Type 0
BeginsBadly schema rest =
    ((line : List ℕ) × (behind : List ℕ) × (rest ≡ line ++ 10 ∷ behind) × SpellsNoEntry schema line)
    ⊎ (All (λ b. b ≢ 10) rest × (rest ≢ []))

-- This line of a text, counted from 1, is the first that is no entry.
pub record HasBadLine (schema : SchemaValue) (text : List ℕ) (at : ℕ) : Type 0 where
  pub entries : List Entry
  pub rest : List ℕ
  pub parts : text ≡ lines_text schema entries ++ rest
  pub bad : BeginsBadly schema rest
  pub place : at ≡ length entries + 1

-- So is this line of a trace.
pub record HasBadEntry (header trace : List ℕ) (at : ℕ) : Type 0 where
  pub schema : SchemaValue
  pub told : schema_of header ≡ Ok schema
  pub line : HasBadLine schema trace at

-- Why a text isn't read.
abbrev pub TellsBadLine : SchemaValue → List ℕ → EntriesFault → Type 0
TellsBadLine schema text trace_faults.NoMemory = Unit {0}
TellsBadLine schema text (trace_faults.BadEntry at) = HasBadLine schema text at

-- ---- the judge's answer

-- What a judgement says of a trace: its status, and the entry or the line that it names, or 0.
abbrev pub Judges : List ℕ → List ℕ → ℕ → ℕ → Type 0
Judges header trace status at =
    ((status ≡ done) × ((at ≡ 0) × IsLegal header trace))
    ⊎ (((status ≡ illegal) × IsIllegal header trace at)
    ⊎ (((status ≡ bad_entry) × HasBadEntry header trace at)
    ⊎ (((status ≡ no_schema) × ((at ≡ 0) × IsNoSchema header))
    ⊎ ((status ≡ no_memory) × (at ≡ 0)))))
