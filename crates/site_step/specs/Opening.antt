-- What a medium holds over which no site is opened (this project).
use Rattle.std.specs.Prelude.{◌≡◌, ◌⊎◌, ℕ, ◌+◌, List, ◌++◌, length, Option, Some, None}
use Rattle.std.specs.List.{flat_map, AllByRecursion}
use Rattle.field_bounds.specs.Schema.{SchemaValue}
use Rattle.kept_records.specs.declared.medium.Mishap.{Mishap}
use Rattle.kept_records.specs.declared.medium.Mishap.TheVariants.{Never, Append, Cut, Read}
use Rattle.kept_records.specs.declared.medium.MediumFault.{MediumFault}
use Rattle.kept_records.specs.declared.medium.MediumFault.TheVariants as faults
use Rattle.kept_records.specs.declared.record.Record.{Record}
use Rattle.kept_records.specs.Text.{text, IsRecord}
use Rattle.kept_records.specs.Logs.{IsLog, IsBadLine}
use Rattle.kept_records.specs.Stands.{Lawful, BreaksRule, plain}
use Rattle.kept_records.specs.ReadingBack.{told_length}
use Rattle.kept_records.specs.Summary.{SummaryValue, summary_record}
use Rattle.kept_records.specs.Lines.{IsRecordAt}
use Rattle.log_replay.specs.declared.standing.Standing.{Standing}
use Rattle.log_replay.specs.Standing.{IsStandingFor}
use Rattle.site_step.specs.State.{BeginsHeld}
use Rattle.site_step.specs.Site.{mishap_left}
use Rattle.site_step.specs.declared.site.opening.OpenFault.{OpenFault}
use Rattle.site_step.specs.declared.site.opening.OpenFault.TheVariants.{Device, Line, NoMemory}
use Rattle.site_step.specs.declared.site.opening.Found.{Found}

-- The bytes begin with the texts of these records.
pub record BeginsWith (bytes : List ℕ) (rs : List Record) : Type 0 where
  pub behind : List ℕ
  pub parts : bytes ≡ flat_map text rs ++ behind
  pub each : AllByRecursion IsRecord rs

-- Line n, counted from 1, is the first that isn't a record that may stand there: a record that may not stand behind those
-- before it, which are lawful, or behind lawful records the text of no record.
abbrev pub IsFirstBad : SchemaValue → ℕ → List ℕ → ℕ → Type 0
IsFirstBad schema s bytes n =
    ((rs : List Record) × BeginsWith bytes rs × BreaksRule schema s rs n) ⊎ ((bad : IsBadLine bytes n) × Lawful schema s bad.before)

-- A line is named only where it is the first bad one.
abbrev pub TellsLine : SchemaValue → ℕ → List ℕ → OpenFault → Type 0
TellsLine schema s bytes (Line n) = IsFirstBad schema s bytes n
TellsLine schema s bytes Device = Unit {0}
TellsLine schema s bytes NoMemory = Unit {0}

-- No line is bad where the bytes are a log of lawful records.
abbrev pub SparesLogs : SchemaValue → ℕ → List ℕ → OpenFault → Type 0
SparesLogs schema s bytes (Line n) = (rs : List Record) (rest : List ℕ) → IsLog bytes rs rest → Lawful schema s rs → ⊥
SparesLogs schema s bytes Device = Unit {0}
SparesLogs schema s bytes NoMemory = Unit {0}

-- ---- behind records that are gone

-- The bytes begin with the line of a summary.
abbrev pub StartsWith : List ℕ → SummaryValue → Type 0
StartsWith bytes base = (behind : List ℕ) × IsRecordAt bytes (summary_record base) behind

-- A line of what is held is named only where it is the first bad one behind the records that are gone, whose lines aren't
-- counted.
abbrev pub TellsLineBehind : SchemaValue → ℕ → List Record → List ℕ → OpenFault → Type 0
TellsLineBehind schema s gone held (Line n) = IsFirstBad schema s (flat_map text gone ++ held) (length gone + n)
TellsLineBehind schema s gone held Device = Unit {0}
TellsLineBehind schema s gone held NoMemory = Unit {0}

-- No line is bad where what is held is a log of records that are lawful behind those that are gone.
abbrev pub SparesLogsBehind : SchemaValue → ℕ → List Record → List ℕ → OpenFault → Type 0
SparesLogsBehind schema s gone held (Line n) =
    (rs : List Record) (rest : List ℕ) → IsLog held rs rest → Lawful schema s (gone ++ rs) → ⊥
SparesLogsBehind schema s gone held Device = Unit {0}
SparesLogsBehind schema s gone held NoMemory = Unit {0}

-- Behind which records a site is opened: they are in range and lawful, the standing is for them, and where there are any, a
-- summary is the first that is held.
pub record BeginsBehind (schema : SchemaValue) (s : ℕ) (gone : List Record) (standing : Standing) (held : List ℕ) : Type 0 where
  pub each : AllByRecursion IsRecord gone
  pub lawful : Lawful schema s gone
  pub stands : IsStandingFor schema s gone standing
  pub begins : (rs : List Record) (rest : List ℕ) → IsLog held rs rest → BeginsHeld gone rs

-- ---- what becomes of the medium

-- The fault of a medium that isn't read.
abbrev pub fault_of : MediumFault → OpenFault
fault_of faults.Device = Device
fault_of faults.NoMemory = NoMemory

-- The count of failures rises by one exactly at a fault of the device.
abbrev pub failed_at : OpenFault → ℕ → ℕ
failed_at Device n = n + 1
failed_at (Line line) n = n
failed_at NoMemory n = n

-- What becomes of a mishap that is known: it stays, but where the device failed it is used up.
abbrev pub foretold_at : OpenFault → Option Mishap → Option Mishap
foretold_at Device foretold = mishap_left foretold
foretold_at (Line n) foretold = foretold
foretold_at NoMemory foretold = foretold

-- The mishap may be one for reads: it is, or it isn't known.
abbrev pub MayStrikeRead : Option Mishap → Type 0
MayStrikeRead None = Unit {0}
MayStrikeRead (Some Read) = Unit {0}
MayStrikeRead (Some Never) = ⊥
MayStrikeRead (Some (Append kept)) = ⊥
MayStrikeRead (Some Cut) = ⊥

-- The device fails only where the mishap may be one for reads.
abbrev pub FailsUnder : OpenFault → Option Mishap → Type 0
FailsUnder Device foretold = MayStrikeRead foretold
FailsUnder (Line n) foretold = Unit {0}
FailsUnder NoMemory foretold = Unit {0}

-- What was found is the bytes' log, which is lawful behind the records that are gone, how far it reaches, and what all these
-- records stand for.
pub record IsFound (schema : SchemaValue) (s : ℕ) (gone : List Record) (bytes : List ℕ) (found : Found) : Type 0 where
  pub rest : List ℕ
  pub log : IsLog bytes found.based.list.items rest
  pub lawful : Lawful schema s (gone ++ found.based.list.items)
  pub stands : IsStandingFor schema s (gone ++ found.based.list.items) found.standing
  pub count : found.extent.count ≡ length (plain found.based.list.items)
  pub length_is : found.extent.length ≡ told_length (length (flat_map text found.based.list.items))
  pub behind : found.extent.behind ≡ 0
