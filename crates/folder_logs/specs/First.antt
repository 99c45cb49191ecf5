-- What the records of a log come to, where of a broken rule and a line that is no record the first is told (this project).
use Rattle.std.specs.Prelude.{ℕ, List, Option}
use Rattle.field_bounds.specs.Schema.{SchemaValue}
use Rattle.kept_records.specs.declared.record.Record.{Record}
use Rattle.kept_records.specs.Logs.{IsBadLine, AreGoodRecords}
use Rattle.kept_records.specs.Stands.{Lawful, BreaksRule as IsFirstBroken}
use Rattle.log_replay.specs.declared.log_bytes.LogReplayed.{LogReplayed}
use Rattle.log_replay.specs.declared.log_bytes.LogReplayed.TheVariants as came
use Rattle.log_replay.specs.LogBytes.{ComesTo}

-- This line is the first that is no record, and the records in front of it are lawful.
pub record IsFirstLine (schema : SchemaValue) (s : ℕ) (bytes : List ℕ) (line : ℕ) : Type 0 where
  pub bad : IsBadLine bytes line
  pub lawful : Lawful schema s bad.before

-- The record of this number, counted from 1, is the first that may not stand behind those before it, of the records in front of the
-- first line that is none, or of all where there is no such line.
pub record BreaksFirst (schema : SchemaValue) (s : ℕ) (bytes : List ℕ) (number : ℕ) : Type 0 where
  pub records : List Record
  pub size : ℕ
  pub bad_line : Option ℕ
  pub good : AreGoodRecords bytes records size bad_line
  pub broken : IsFirstBroken schema s records number

-- What the answer tells of the bytes of a site's records.
abbrev pub TellsFirst : SchemaValue → ℕ → List ℕ → LogReplayed → Type 0
TellsFirst schema s bytes (came.Standing standing length) = ComesTo schema s bytes standing length
TellsFirst schema s bytes (came.BadLine number) = IsFirstLine schema s bytes number
TellsFirst schema s bytes (came.BreaksRule number) = BreaksFirst schema s bytes number
