-- What the reading of an input finds (this project).
use Rattle.std.specs.Prelude.{◌≡◌, ℕ, List, [], ◌∷◌, ◌++◌, ◌⊎◌, Option, Bool, false}
use Rattle.std.specs.Io.KnownBytes.{Consumes}
use Rattle.field_bounds.specs.Schema.{SchemaValue}
use Rattle.field_bounds.specs.declared.entry.Entry.{Entry}
use Rattle.script_input.specs.declared.fault.ScriptFault.{ScriptFault}
use Rattle.script_input.specs.declared.streams.CallEnd.{CallEnd}
use Rattle.script_input.specs.Lines.{script_lines}
use Rattle.script_input.specs.Faults.{HasEndedAt, IsWithin}
use Rattle.script_input.specs.Reader.{StopsAt, ReadsNoFurther}
use Rattle.escrow_audit.specs.declared.reading.ReadInput.{ReadInput}
use Rattle.escrow_audit.specs.declared.reading.ReadInput.TheVariants.{Entries, BadEntry}
use Rattle.escrow_audit.specs.declared.answer.AuditEnd.{AuditEnd}
use Rattle.escrow_audit.specs.Remarks.{IsRemark}
use Rattle.escrow_audit.specs.Audit.{IsEntry, HasEntries, IsGood, FindsBad, IsAudit, IsWithinAt}

-- A line behind the header is taken in: an entry joins the others, and a remark is left out.
abbrev pub Notes : SchemaValue → List ℕ → List Entry → List Entry → Type 0
Notes schema line old new = (IsRemark schema line × (new ≡ old))
    ⊎ ((entry : Entry) × (IsEntry schema line entry × (new ≡ old ++ entry ∷ [])))

-- And what takes in the entries has taken that one in.
abbrev pub TakesIn : {E : Type 0} → (SchemaValue → List Entry → E → Type 0) → SchemaValue → List ℕ → E → E → Type 0
TakesIn has_taken schema line old new =
    (entries : List Entry) → has_taken schema entries old → (more : List Entry) × (Notes schema line entries more × has_taken schema more new)

-- What was found: at the end of an input within the limits all entries of its lines were taken in; or before it the first bad
-- entry.
abbrev pub IsFound : {E : Type 0} → (SchemaValue → List Entry → E → Type 0) → ReadInput E → List ℕ → Type 0 → Type 0
IsFound has_taken (Entries schema taken) read ended =
    ended × (IsWithin read × ((entries : List Entry) × (HasEntries schema entries (script_lines read) × has_taken schema entries taken)))
IsFound has_taken (BadEntry number) read ended = FindsBad read number ended

-- It was found in what was read.
abbrev pub FindsIn : {E : Type 0} → (SchemaValue → List Entry → E → Type 0) → Option (List ℕ) → Option (List ℕ) → CallEnd → ReadInput E → Type 0
FindsIn has_taken from to last found = (read : List ℕ) × (Consumes from to read × IsFound has_taken found read (HasEndedAt to last))

-- What is answered of all that was read.
abbrev pub Tells : Option (List ℕ) → Option (List ℕ) → CallEnd → AuditEnd → List ℕ → Type 0
Tells from to last end text =
    (read : List ℕ) × (Consumes from to read × (IsWithinAt end read × IsAudit end read (HasEndedAt to last) text))

-- The fault came behind lines that have no bad entry.
abbrev pub FaultsIn : Option (List ℕ) → Option (List ℕ) → CallEnd → ScriptFault → Type 0
FaultsIn from to last fault = (given : List (List ℕ)) × (IsGood given × StopsAt from to last given fault)

-- Want of memory came for a line of the last piece that was read, and the lines in front of that piece are good: for the
-- header, so that there are none; or for an entry, where the entries are kept.
pub record WantsAt (keeps : Bool) (from to : Option (List ℕ)) : Type 0 where
  pub given : List (List ℕ)
  pub good : IsGood given
  pub header : keeps ≡ false → given ≡ []
  pub no_further : ReadsNoFurther from to given

-- So it came, or what was read has its answer: the first bad entry, or the verdict at the end of an input within the limits
-- whose lines are all good.
abbrev pub WantsIn : Bool → Option (List ℕ) → Option (List ℕ) → CallEnd → Type 0
WantsIn keeps from to last = WantsAt keeps from to ⊎ ((end : AuditEnd) × ((text : List ℕ) × Tells from to last end text))
