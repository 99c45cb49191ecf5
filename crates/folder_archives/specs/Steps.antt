-- How the parts of a log are verified one by one, from the log back (this project).
use Rattle.std.specs.Prelude.{◌≡◌, ◌⊎◌, ℕ, ◌+◌, List, [], ◌∷◌, ◌++◌, length, Option, None, Some, string_bytes, String}
use Rattle.std.specs.Global.{Global}
use Rattle.std.specs.List.{flat_map}
use Rattle.kept_records.specs.declared.record.Record.{Record}
use Rattle.kept_records.specs.Logs.{HasNoLf, IsLog}
use Rattle.kept_records.specs.Stands.{plain}
use Rattle.kept_records.specs.Text.{text}
use Rattle.site_folder.specs.Identity.{IdentityValue}
use Rattle.log_replay.specs.declared.log_bytes.LogReplayed.TheVariants as came
use Rattle.folder_faults.specs.declared.fault.Fault.{Fault}
use Rattle.folder_faults.specs.declared.fault.Fault.TheVariants.{NoMemory}
use Rattle.folder_faults.specs.declared.fault.Why.TheVariants as why
use Rattle.folder_faults.specs.Faults.{IsRefused}
use Rattle.world_folders.specs.declared.reading.PathFault.{PathFault}
use Rattle.world_folders.specs.declared.reading.PathFault.TheVariants.{NotThere, NoFolder, Failed}
use Rattle.log_head.specs.declared.gone.Gone.{Gone}
use Rattle.held_logs.specs.declared.fault.HeldFault.{HeldFault}
use Rattle.held_logs.specs.declared.fault.HeldFault.TheVariants as no_log
use Rattle.held_logs.specs.Counts.{told_number}
use Rattle.world_folders.specs.Logs.{AreOfLog, TellsHeld}
use Rattle.log_archives.specs.declared.fault.JointFault.{JointFault}
use Rattle.log_archives.specs.declared.fault.JointFault.TheVariants as apart
use Rattle.log_archives.specs.Heads.{bytes_told, records_told}
use Rattle.log_archives.specs.Joints.{AreFrom, Joins}
use Rattle.folder_archives.specs.declared.beginning.Beginning.{Beginning}
use Rattle.folder_archives.specs.declared.fault.PartWhy.{PartWhy}
use Rattle.folder_archives.specs.declared.fault.PartWhy.TheVariants.{Missing, Other, Changed, Damaged, BadLine, Short, OtherBase, OtherBytes, OtherRecords, OtherHorizon}
use Rattle.folder_archives.specs.declared.fault.VerifyFault.{VerifyFault}
use Rattle.folder_archives.specs.declared.fault.VerifyFault.TheVariants.{Log, Part}
use Rattle.folder_archives.specs.declared.verifying.LogTotals.{LogTotals}
use Rattle.folder_archives.specs.Verified.{AreVerified, path_of}
use Rattle.folder_archives.specs.Faults.{IsUnreadThere, TellsUnreadThere, TellsWhyNot}

-- ---- how a part begins

-- This is the first line of the bytes, with its line feed (10), or all of them where no line ends.
pub record IsFirstLineOf (bytes line : List ℕ) : Type 0 where
  pub front : List ℕ
  pub behind : List ℕ
  pub one_line : HasNoLf front
  pub ends : ((line ≡ front ++ 10 ∷ []) × (bytes ≡ front ++ 10 ∷ behind)) ⊎ ((line ≡ front) × (bytes ≡ front))

-- The part at this path begins so, of which this is gone and which holds these records.
pub record IsBeginning (path : List ℕ) (gone : Option Gone) (held : List ℕ) (begins : Beginning) : Type 0 where
  pub place : string_bytes begins.path ≡ path
  pub told : gone ≡ Some begins.told
  pub line : IsFirstLineOf held begins.base.items

abbrev pub PartBegins : List ℕ → Option Gone → List ℕ → Option Beginning → Type 0
PartBegins _ gone _ None = gone ≡ None
PartBegins path gone held (Some begins) = IsBeginning path gone held begins

-- ---- what was verified

-- So many records without summaries, and so many bytes, are gone by what is told, and are these records.
pub record AreLogTotals (gone : Option Gone) (rs : List Record) (totals : LogTotals) : Type 0 where
  pub records : totals.records ≡ told_number (records_told gone + length (plain rs))
  pub bytes : totals.bytes ≡ told_number (bytes_told gone + length (flat_map text rs))

-- The same of the records of a log, whichever they are.
abbrev pub AreTotalsOf : Option Gone → List ℕ → LogTotals → Type 0
AreTotalsOf gone held totals = (rs : List Record) (rest : List ℕ) → IsLog held rs rest → AreLogTotals gone rs totals

-- What the log itself holds is lawful to its end, and so much.
pub record IsLastPart (identity : IdentityValue) (gone : Option Gone) (held : List ℕ) (totals : LogTotals) : Type 0 where
  pub records : List Record
  pub rest : List ℕ
  pub log : IsLog held records rest
  pub from : AreFrom identity.schema identity.number.0 gone records
  pub amount : AreLogTotals gone records totals

-- The parts from the one on that begins so were verified, and have so much with what is gone.
pub record IsNextPart (holds : List ℕ → List ℕ → Type 0) (log : List ℕ) (identity : IdentityValue) (begins : Beginning) (totals : LogTotals)
    : Type 0 where
  pub held : List ℕ
  pub all : AreVerified holds log identity (Some begins.told) held
  pub place : string_bytes begins.path ≡ path_of log all.parts
  pub line : IsFirstLineOf held begins.base.items
  pub amount : AreLogTotals (Some begins.told) all.records totals

-- A part was read at this path that joins with the next one, and begins so.
pub record IsPart (holds : List ℕ → List ℕ → Type 0) (identity : IdentityValue) (path : List ℕ) (next : Beginning)
    (begins : Option Beginning) : Type 0 where
  pub gone : Option Gone
  pub held : List ℕ
  pub log : AreOfLog holds path identity gone held
  pub joins : Joins identity.schema identity.number.0 gone held next.told next.base.items
  pub beginning : PartBegins path gone held begins

-- ---- why not

-- The fault names this path and tells this; or memory is wanting.
abbrev pub IsToldOf : List ℕ → PartWhy → VerifyFault → Type 0
IsToldOf _ _ (Log fault) = fault ≡ NoMemory
IsToldOf path why (Part at told) = (string_bytes at ≡ path) × (told ≡ why)

-- The fault tells why the part at this path isn't read: it is missing, something is no folder, or how the system failed.
abbrev pub TellsUnreadPart : List ℕ → PathFault → VerifyFault → Type 0
TellsUnreadPart path NotThere fault = IsToldOf path Missing fault
TellsUnreadPart path NoFolder fault = (told : Fault) × (fault ≡ Log told) × TellsUnreadThere path NoFolder told
TellsUnreadPart path (Failed error) fault = (told : Fault) × (fault ≡ Log told) × TellsUnreadThere path (Failed error) told

-- The part at this path wasn't read, and the fault tells why.
pub record IsUnreadPart (fails : List ℕ → PathFault → Type 0) (path : List ℕ) (fault : VerifyFault) : Type 0 where
  pub why : PathFault
  pub failed : fails path why
  pub told : TellsUnreadPart path why fault

-- The fault tells of the file at this path why it is no log of the site.
abbrev pub TellsHeldFault : List ℕ → HeldFault → VerifyFault → Type 0
TellsHeldFault path no_log.Other fault = IsToldOf path Other fault
TellsHeldFault path no_log.Changed fault = IsToldOf path Changed fault
TellsHeldFault path (no_log.Damaged line) fault = IsToldOf path (Damaged line) fault
TellsHeldFault _ no_log.NoMemory fault = fault ≡ Log NoMemory

-- A path as a text.
abbrev pub ByPath : List ℕ → (String Global → Type 0) → Type 0
ByPath path P = (text : String Global) × (string_bytes text ≡ path) × P text

-- The fault tells of the part at this path, or of the next one at that, why the two don't join.
abbrev pub TellsJointFault : List ℕ → List ℕ → JointFault → VerifyFault → Type 0
TellsJointFault path next (apart.BadLine line) fault = IsToldOf path (BadLine line) fault
TellsJointFault path next (apart.BreaksRule line) fault = IsToldOf path (BadLine line) fault
TellsJointFault path next apart.Short fault = ByPath next (λ of. IsToldOf path (Short of) fault)
TellsJointFault path next apart.OtherBase fault = ByPath path (λ of. IsToldOf next (OtherBase of) fault)
TellsJointFault path next apart.OtherBytes fault = ByPath path (λ of. IsToldOf next (OtherBytes of) fault)
TellsJointFault path next apart.OtherRecords fault = ByPath path (λ of. IsToldOf next (OtherRecords of) fault)
TellsJointFault path next apart.OtherHorizon fault = ByPath path (λ of. IsToldOf next (OtherHorizon of) fault)

-- What a fault tells of the part at a path that the next one asks for, of which the body knows how it begins.
abbrev pub TellsPart : (List ℕ → PathFault → Type 0) → (List ℕ → List ℕ → Type 0) → IdentityValue → List ℕ → Beginning → VerifyFault → Type 0
TellsPart fails _ _ path _ (Log fault) = IsUnreadThere fails path fault ⊎ (fault ≡ NoMemory)
TellsPart fails holds identity path next (Part at why) =
    TellsWhyNot fails holds identity path (string_bytes next.path) next.told next.base.items (string_bytes at) why

-- The log itself is refused for a line of the records that it holds, or memory was wanting.
abbrev pub IsLastFault : List ℕ → IdentityValue → Option Gone → List ℕ → Fault → Type 0
IsLastFault log identity gone held fault =
    ((line : ℕ) × (TellsHeld identity.schema identity.number.0 gone held (came.BadLine line)
    ⊎ TellsHeld identity.schema identity.number.0 gone held (came.BreaksRule line)) × IsRefused log (why.BadRecord line) fault)
    ⊎ (fault ≡ NoMemory)
