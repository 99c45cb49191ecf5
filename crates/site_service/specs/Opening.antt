-- Over which log a service is opened, and what it finds there (this project).
use Rattle.std.specs.Prelude.{◌≡◌, ℕ, Bool, false, List, [], ◌++◌, length, ⊤, Option, None, Some}
use Rattle.field_bounds.specs.Schema.{SchemaValue}
use Rattle.field_bounds.specs.declared.id.SiteNo.{SiteNo}
use Rattle.field_bounds.specs.declared.entry.Command.TheVariants.{Restart}
use Rattle.kept_records.specs.Logs.{HasNoLf}
use Rattle.script_input.specs.Lines.{last_part}
use Rattle.site_step.specs.Site.{SiteValue, Opens}
use Rattle.site_step.specs.Opening.{TellsLine, SparesLogs}
use Rattle.site_step.specs.declared.site.opening.OpenFault.{OpenFault}
use Rattle.site_step.specs.declared.site.opening.OpenFault.TheVariants.{Device, Line, NoMemory}
use Rattle.file_medium.specs.Copies.{IsCopyOf}
use Rattle.file_medium.specs.Files.{SparesFront}
use Rattle.site_service.specs.Kept.{LastNotes}
use Rattle.site_service.specs.LetGo.{LetGo, nothing_gone}
use Rattle.site_service.specs.Answers.{Answered}
use Rattle.site_service.specs.Service.{ServiceValue, IsTextOf, IsSettled}

-- The bytes are whole lines, and behind them a torn end, in which no line ends.
pub record AreLines (bytes front torn : List ℕ) : Type 0 where
  pub parts : bytes ≡ front ++ torn
  pub whole : last_part front ≡ []
  pub no_lf : HasNoLf torn

-- The file holds these whole lines, as far as it tells, and behind them a torn end.
pub record HoldsLines (known : Option (List ℕ)) (front : List ℕ) : Type 0 where
  pub bytes : List ℕ
  pub torn : List ℕ
  pub copy : IsCopyOf known bytes
  pub lines : AreLines bytes front torn

-- The same where the whole lines have so many bytes. The end is told as torn unless the file holds nothing but them.
pub record HoldsWhole (known : Option (List ℕ)) (whole : ℕ) (torn : Bool) : Type 0 where
  pub held : List ℕ
  pub lines : HoldsLines known held
  pub size : whole ≡ length held
  pub all : torn ≡ false → IsCopyOf known held

-- ---- what a start keeps of a log

-- The safe bytes begin with these, as far as it is known.
abbrev pub IsSafe : Option (List ℕ) → List ℕ → Type 0
IsSafe None front = ⊤
IsSafe (Some safe) front = (more : List ℕ) × (safe ≡ front ++ more)

-- Each front of these lines that was safe still is.
abbrev pub KeepsFronts : List ℕ → Option (List ℕ) → Option (List ℕ) → Type 0
KeepsFronts lines was now = (front more : List ℕ) → lines ≡ front ++ more → IsSafe was front → IsSafe now front

-- Of the whole lines that the file held, what was safe still is.
abbrev pub KeepsLines : Option (List ℕ) → Option (List ℕ) → Option (List ℕ) → Type 0
KeepsLines None was now = ⊤
KeepsLines (Some bytes) was now = (lines torn : List ℕ) → AreLines bytes lines torn → KeepsFronts lines was now

-- From the one moment to the other no cut went in front of the end of the whole lines that the file held.
abbrev pub SparesLines : Option (List ℕ) → Option ℕ → Option ℕ → Type 0
SparesLines None was now = ⊤
SparesLines (Some bytes) was now = (lines torn : List ℕ) → AreLines bytes lines torn → SparesFront (length lines) was now

-- ---- what it finds

-- A service over a site that was opened: that was restarted once, the answer to it waits, the keys are those that were found, this was
-- let go of the log, no line was answered, and all is settled.
pub record IsStarted (opened : SiteValue) (found : LastNotes) (let_go : LetGo) (v : ServiceValue) : Type 0 where
  pub restarted : Answered opened Restart v.served.site v.waiting
  pub last : v.served.last ≡ found
  pub let_go_is : v.served.let_go ≡ let_go
  pub none : v.served.lines ≡ 0
  pub settled : IsSettled v

-- The file holds a text of whole lines, and behind them a torn end. The text has these records, and its notes tell of each key its last
-- transaction.
pub record HoldsRecords (known : Option (List ℕ)) (held : List ℕ) (last : LastNotes) (records : List ℕ) : Type 0 where
  pub lines : HoldsLines known held
  pub is : IsTextOf held last records

-- Such a service over the whole lines of a log, of which nothing was let go.
pub record IsOpened (schema : SchemaValue) (number : SiteNo) (known : Option (List ℕ)) (v : ServiceValue) : Type 0 where
  pub held : List ℕ
  pub last : LastNotes
  pub records : List ℕ
  pub holds : HoldsRecords known held last records
  pub opened : SiteValue
  pub opens : Opens schema number records 0 opened
  pub started : IsStarted opened last nothing_gone v

-- A line of the log is named only where it is the first bad one of its whole lines that are no notes, and these are then no lawful log.
-- Its number counts those lines alone.
pub record NamesBadLine (schema : SchemaValue) (number : SiteNo) (known : Option (List ℕ)) (n : ℕ) : Type 0 where
  pub held : List ℕ
  pub last : LastNotes
  pub records : List ℕ
  pub holds : HoldsRecords known held last records
  pub tells : TellsLine schema number.0 records (Line n)
  pub spares : SparesLogs schema number.0 records (Line n)

abbrev pub TellsBadLine : SchemaValue → SiteNo → Option (List ℕ) → OpenFault → Type 0
TellsBadLine schema number known (Line n) = NamesBadLine schema number known n
TellsBadLine schema number known Device = Unit {0}
TellsBadLine schema number known NoMemory = Unit {0}
