-- What an audit answers of the lines that it reads (this project).
use Rattle.std.specs.Prelude.{◌≡◌, ℕ, ◌+◌, ◌≤◌, ◌⊎◌, List, [], ◌∷◌, ◌++◌, length, Ok, Option, codes}
use Rattle.std.specs.Fmt.{decimal}
use Rattle.std.specs.Io.KnownBytes.{Appends, Consumes}
use Rattle.field_bounds.specs.Schema.{SchemaValue}
use Rattle.field_bounds.specs.Header.{schema_of}
use Rattle.field_bounds.specs.declared.entry.Entry.{Entry}
use Rattle.entry_text.specs.Spelling.{entry_text}
use Rattle.entry_text.specs.Ranges.{EntryFits}
use Rattle.entry_text.specs.Lines.{max_line}
use Rattle.central_rules.specs.declared.verdict.Verdict.{Verdict}
use Rattle.central_rules.specs.declared.verdict.Verdict.TheVariants as verdicts
use Rattle.central_rules.specs.declared.verdict.Rule.{Rule}
use Rattle.central_rules.specs.declared.verdict.Rule.TheVariants as rules
use Rattle.central_rules.specs.Verdict.{verdict_of}
use Rattle.script_input.specs.declared.fault.ScriptFault.{ScriptFault}
use Rattle.script_input.specs.declared.fault.ScriptFault.TheVariants as faults
use Rattle.script_input.specs.declared.streams.CallEnd.{CallEnd}
use Rattle.script_input.specs.Lines.{whole_lines, script_lines}
use Rattle.script_input.specs.Faults.{Explains, HasEndedAt, IsWithin, IsLineReached}
use Rattle.script_input.specs.Streams.{AppendsPrefix}
use Rattle.escrow_audit.specs.declared.answer.AuditEnd.{AuditEnd}
use Rattle.escrow_audit.specs.declared.answer.AuditEnd.TheVariants as ends
use Rattle.escrow_audit.specs.Remarks.{IsRemark}

-- ---- the lines behind the header

-- A line is an entry: its text, and not too long.
pub record IsEntry (schema : SchemaValue) (line : List ℕ) (entry : Entry) : Type 0 where
  pub fits : EntryFits entry
  pub text : line ≡ entry_text schema entry
  pub short : length line ≤ max_line

-- A line is a bad entry: neither an entry nor a remark.
pub record IsBadEntry (schema : SchemaValue) (line : List ℕ) : Type 0 where
  pub no_entry : (entry : Entry) → IsEntry schema line entry → ⊥
  pub no_remark : IsRemark schema line → ⊥

-- The entries of lines, in their order; the others are remarks.
abbrev pub AreEntries : SchemaValue → List (List ℕ) → List Entry → Type 0
AreEntries schema [] entries = entries ≡ []
AreEntries schema (line ∷ lines) entries =
    (IsRemark schema line × AreEntries schema lines entries)
    ⊎ ((entry : Entry) × ((later : List Entry) × (IsEntry schema line entry × (AreEntries schema lines later × (entries ≡ entry ∷ later)))))

-- Lines are a header and, behind it, these entries and remarks.
pub record HasEntries (schema : SchemaValue) (entries : List Entry) (lines : List (List ℕ)) : Type 0 where
  pub header : List ℕ
  pub behind : List (List ℕ)
  pub parts : lines ≡ header ∷ behind
  pub start : schema_of header ≡ Ok schema
  pub each : AreEntries schema behind entries

-- The first bad entry among lines, counted from 1 with the header.
pub record IsFirstBad (lines : List (List ℕ)) (number : ℕ) : Type 0 where
  pub schema : SchemaValue
  pub entries : List Entry
  pub front : List (List ℕ)
  pub line : List ℕ
  pub back : List (List ℕ)
  pub parts : lines ≡ front ++ line ∷ back
  pub good : HasEntries schema entries front
  pub bad : IsBadEntry schema line
  pub place : number ≡ length front + 1

-- ---- the answer

-- A rule.
abbrev pub rule_text : Rule → List ℕ
rule_text rules.Site = codes "site"
rule_text rules.Grant = codes "grant"
rule_text rules.Shortage = codes "shortage"
rule_text rules.Interval = codes "interval"
rule_text rules.Statement = codes "statement"
rule_text rules.Reply = codes "reply"

-- A verdict over so many entries: all of them are legal, or one is the first that breaks a rule.
abbrev pub verdict_text : Verdict → ℕ → List ℕ
verdict_text verdicts.Legal count = codes "legal " ++ (decimal count ++ 10 ∷ [])
verdict_text (verdicts.Illegal at rule) count = codes "illegal " ++ (decimal at ++ (codes " " ++ (rule_text rule ++ 10 ∷ [])))

-- What ends an audit by a verdict.
abbrev pub end_of : Verdict → AuditEnd
end_of verdicts.Legal = ends.Legal
end_of (verdicts.Illegal at rule) = ends.Illegal

-- A bad entry at a line.
abbrev pub bad_entry_text : ℕ → List ℕ
bad_entry_text number = codes "bad entry " ++ (decimal number ++ 10 ∷ [])

-- The lines have no bad entry, and this is the verdict over their entries.
pub record IsJudged (lines : List (List ℕ)) (end : AuditEnd) (text : List ℕ) : Type 0 where
  pub schema : SchemaValue
  pub entries : List Entry
  pub good : HasEntries schema entries lines
  pub ended : end ≡ end_of (verdict_of schema entries)
  pub told : text ≡ verdict_text (verdict_of schema entries) (length entries)

-- The bytes have a bad entry, and this is the first. It was reached within the limits: as a line, or as one of more than 256
-- bytes.
pub record FindsBad (read : List ℕ) (number : ℕ) (ended : Type 0) : Type 0 where
  pub first : IsFirstBad (script_lines read) number
  pub reached : IsLineReached read number max_line ended

-- What an audit answers of the bytes that it read, with what says that the input has ended: the first bad entry, or at the
-- end of the input the verdict.
abbrev pub IsAudit : AuditEnd → List ℕ → Type 0 → List ℕ → Type 0
IsAudit ends.BadEntry read ended text = (number : ℕ) × (FindsBad read number ended × (text ≡ bad_entry_text number))
IsAudit end read ended text = ended × IsJudged (script_lines read) end text

-- The answer to bytes, whether or not the input ends behind them.
abbrev pub Answers : AuditEnd → List ℕ → List ℕ → Type 0
Answers end read text = IsAudit end read (Unit {0}) text

-- ---- what an audit reads and writes

-- A verdict is on an input within the limits on lines and bytes. A bad entry is within them itself, and nothing is said of
-- what stands behind it.
abbrev pub IsWithinAt : AuditEnd → List ℕ → Type 0
IsWithinAt ends.Legal read = IsWithin read
IsWithinAt ends.Illegal read = IsWithin read
IsWithinAt ends.BadEntry read = Unit {0}

-- The answer to all that was read is written.
pub record Audits (from to before after : Option (List ℕ)) (last : CallEnd) (end : AuditEnd) : Type 0 where
  pub read : List ℕ
  pub text : List ℕ
  pub consumed : Consumes from to read
  pub within : IsWithinAt end read
  pub answer : IsAudit end read (HasEndedAt to last) text
  pub written : Appends before after text

-- No line, or a header with entries and remarks behind it.
abbrev pub IsGood : List (List ℕ) → Type 0
IsGood lines = (lines ≡ []) ⊎ ((schema : SchemaValue) × ((entries : List Entry) × HasEntries schema entries lines))

-- At a write fault a front of the answer is written, which keeps the limits as it does where all of it is. At every other
-- fault nothing is, and the lines in front of it have no bad entry. At want of memory these are all lines but those that end in the
-- last 65,536 bytes that were read, at most (`Explains`).
abbrev pub LeavesFor : ScriptFault → Option (List ℕ) → Option (List ℕ) → List ℕ → List ℕ → Type 0 → Type 0
LeavesFor faults.Write before after front back ended =
    (end : AuditEnd) × ((text : List ℕ) × ((back ≡ []) × (IsWithinAt end front × (IsAudit end front ended text
    × AppendsPrefix before after text))))
LeavesFor faults.Read before after front back ended = IsGood (whole_lines front) × Appends before after []
LeavesFor faults.TooLong before after front back ended = IsGood (whole_lines front) × Appends before after []
LeavesFor (faults.Header fault) before after front back ended = IsGood (whole_lines front) × Appends before after []
LeavesFor (faults.BadLine number) before after front back ended = IsGood (whole_lines front) × Appends before after []
LeavesFor (faults.Work fault) before after front back ended = IsGood (whole_lines front) × Appends before after []
LeavesFor faults.Stuck before after front back ended = IsGood (whole_lines front) × Appends before after []
LeavesFor faults.Illegal before after front back ended = IsGood (whole_lines front) × Appends before after []
LeavesFor faults.NoMemory before after front back ended = IsGood (whole_lines front) × Appends before after []

-- What was read is the front and the back, where the fault came.
pub record Fails (from to before after : Option (List ℕ)) (last : CallEnd) (fault : ScriptFault) : Type 0 where
  pub front : List ℕ
  pub back : List ℕ
  pub consumed : Consumes from to (front ++ back)
  pub why : Explains fault front back (HasEndedAt to last)
  pub written : LeavesFor fault before after front back (HasEndedAt to last)
