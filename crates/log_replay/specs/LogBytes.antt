-- What the bytes of a log came to (this project).
use Rattle.std.specs.Prelude.{◌≡◌, ℕ, ◌+◌, List, None, length}
use Rattle.field_bounds.specs.Schema.{SchemaValue}
use Rattle.kept_records.specs.declared.record.Record.{Record}
use Rattle.kept_records.specs.Logs.{IsLog, IsBadLine, AreGoodRecords}
use Rattle.kept_records.specs.Lines.{Begins}
use Rattle.kept_records.specs.Stands.{Lawful, BreaksRule as IsFirstBroken}
use Rattle.log_replay.specs.declared.standing.Standing.{Standing}
use Rattle.log_replay.specs.declared.log_bytes.LogReplayed.{LogReplayed}
use Rattle.log_replay.specs.declared.log_bytes.LogReplayed.TheVariants as came
use Rattle.log_replay.specs.Standing.{IsStandingFor}

-- Each line of the bytes is a record, and the records are lawful; the standing is what they stand for, and so many bytes
-- are their texts.
pub record ComesTo (schema : SchemaValue) (s : ℕ) (bytes : List ℕ) (standing : Standing) (n : ℕ) : Type 0 where
  pub records : List Record
  pub all : AreGoodRecords bytes records n None
  pub lawful : Lawful schema s records
  pub stands : IsStandingFor schema s records standing

-- Each line of the bytes is a record, and the record of this number, counted from 1, is the first that may not stand
-- behind those before it.
pub record BreaksAt (schema : SchemaValue) (s : ℕ) (bytes : List ℕ) (number : ℕ) : Type 0 where
  pub records : List Record
  pub size : ℕ
  pub all : AreGoodRecords bytes records size None
  pub broken : IsFirstBroken schema s records number

-- What the answer tells of the bytes of a site's log: a line that is no record before any rule.
abbrev pub TellsLog : SchemaValue → ℕ → List ℕ → LogReplayed → Type 0
TellsLog schema s bytes (came.Standing standing length) = ComesTo schema s bytes standing length
TellsLog schema s bytes (came.BadLine number) = IsBadLine bytes number
TellsLog schema s bytes (came.BreaksRule number) = BreaksAt schema s bytes number

-- ---- how the body goes on

-- What it tells of the bytes behind a record of this number, which breaks a rule: the first line there that is no record,
-- or else that record.
abbrev pub TellsBehind : ℕ → List ℕ → LogReplayed → Type 0
TellsBehind broken left (came.Standing standing length) = ⊥
TellsBehind broken left (came.BadLine number) = (n : ℕ) × IsBadLine left n × (number ≡ broken + n)
TellsBehind broken left (came.BreaksRule number) = (number ≡ broken) × ((rs : List Record) × (rest : List ℕ) × IsLog left rs rest)

-- So many records were taken in, all of them lawful: the standing is for them, and the bytes are their texts and what is left.
pub record TakenIn (schema : SchemaValue) (s : ℕ) (bytes : List ℕ) (standing : Standing) (number : ℕ) (left : List ℕ) : Type 0 where
  pub records : List Record
  pub begins : Begins bytes records left
  pub lawful : Lawful schema s records
  pub stands : IsStandingFor schema s records standing
  pub count : number ≡ length records
