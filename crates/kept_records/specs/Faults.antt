-- What a fault of reading records tells (this project).
use Rattle.std.specs.Prelude.{ℕ, List}
use Rattle.kept_records.specs.declared.log.RecordFault.{RecordFault}
use Rattle.kept_records.specs.declared.log.RecordFault.TheVariants.{Line, NoMemory}
use Rattle.kept_records.specs.Logs.{IsBadLine, IsNoLog}

-- Line n names the first line that is the text of no record.
abbrev pub TellsBadLine : RecordFault → List ℕ → Type 0
TellsBadLine (Line n) bytes = IsBadLine bytes n
TellsBadLine NoMemory bytes = Unit {0}

-- No line is named of bytes that are a log.
abbrev pub TellsNoLog : RecordFault → List ℕ → Type 0
TellsNoLog (Line n) bytes = IsNoLog bytes
TellsNoLog NoMemory bytes = Unit {0}
