-- What the records come to that a shortened log holds: a base and those behind it. Nobody has the records in front of the base, so what
-- is said holds behind each past that it may have (this project; Balegas and others 2015 for the rights and the totals).
use Rattle.std.specs.Prelude.{◌≡◌, ◌⊎◌, ℕ, ◌+◌, false, List, ◌∷◌, ◌++◌, None, length}
use Rattle.field_bounds.specs.Schema.{SchemaValue}
use Rattle.kept_records.specs.declared.record.Record.{Record}
use Rattle.kept_records.specs.Logs.{HasNoLf, IsBadLine, AreGoodRecords}
use Rattle.kept_records.specs.Lines.{IsRecordAt, StartsBad, Begins}
use Rattle.kept_records.specs.Stands.{is_summary, Lawful, BreaksRule as IsFirstBroken}
use Rattle.kept_records.specs.Summary.{SummaryValue, summary_record}
use Rattle.log_replay.specs.declared.standing.Standing.{Standing}
use Rattle.log_replay.specs.declared.log_bytes.LogReplayed.{LogReplayed}
use Rattle.log_replay.specs.declared.log_bytes.LogReplayed.TheVariants as came
use Rattle.log_replay.specs.Standing.{IsStandingFor}
use Rattle.log_bases.specs.Bases.{IsPast}
use Rattle.log_bases.specs.Pasts.{past_of}
use Rattle.held_logs.specs.declared.first_line.FirstLine.{FirstLine}
use Rattle.held_logs.specs.declared.first_line.FirstLine.TheVariants as first

-- ---- the first line

-- The bytes begin with the line of a base.
abbrev pub StartsWith : List ℕ → SummaryValue → Type 0
StartsWith bytes base = (behind : List ℕ) × IsRecordAt bytes (summary_record base) behind

-- No line ends in the bytes, or the first one is no record.
abbrev pub HasNoFirst : List ℕ → Type 0
HasNoFirst bytes = HasNoLf bytes ⊎ StartsBad bytes

-- The first line is a record, and no summary that any records may stand in front of.
pub record IsNoBase (schema : SchemaValue) (s : ℕ) (bytes : List ℕ) : Type 0 where
  pub first : Record
  pub behind : List ℕ
  pub at : IsRecordAt bytes first behind
  pub none : (base : SummaryValue) → first ≡ summary_record base → (past : List Record) → IsPast schema s base past → ⊥

-- ---- what the lines come to

-- The base has a past, and behind whichever it has the records are lawful.
pub record AreLawfulBehind (schema : SchemaValue) (s : ℕ) (base : SummaryValue) (rs : List Record) : Type 0 where
  pub some : IsPast schema s base (past_of schema s base)
  pub lawful : (past : List Record) → IsPast schema s base past → Lawful schema s (past ++ rs)

-- The standing is for the records behind whichever past the base has.
abbrev pub StandsBehind : SchemaValue → ℕ → SummaryValue → List Record → Standing → Type 0
StandsBehind schema s base rs standing =
    (past : List Record) → IsPast schema s base past → IsStandingFor schema s (past ++ rs) standing

-- Each line of the bytes is a record, the first of them a base; they are lawful behind it, the standing is for them, and so many bytes
-- are their texts.
pub record ComesFrom (schema : SchemaValue) (s : ℕ) (bytes : List ℕ) (standing : Standing) (n : ℕ) : Type 0 where
  pub base : SummaryValue
  pub records : List Record
  pub all : AreGoodRecords bytes (summary_record base ∷ records) n None
  pub lawful : AreLawfulBehind schema s base (summary_record base ∷ records)
  pub stands : StandsBehind schema s base (summary_record base ∷ records) standing

-- Behind a base this line is the first that is no record, and the records in front of it are lawful.
pub record IsLineBehind (schema : SchemaValue) (s : ℕ) (bytes : List ℕ) (line : ℕ) : Type 0 where
  pub base : SummaryValue
  pub first : StartsWith bytes base
  pub bad : IsBadLine bytes line
  pub lawful : AreLawfulBehind schema s base bad.before

-- Behind a base the record of this number, the base's being 1, is the first that may not stand behind those before it, and each line up
-- to it is a record.
pub record IsRuleBehind (schema : SchemaValue) (s : ℕ) (bytes : List ℕ) (number : ℕ) : Type 0 where
  pub base : SummaryValue
  pub first : StartsWith bytes base
  pub some : IsPast schema s base (past_of schema s base)
  pub records : List Record
  pub left : List ℕ
  pub begins : Begins bytes records left
  pub broken : (past : List Record) → IsPast schema s base past → IsFirstBroken schema s (past ++ records) (length past + number)

-- What the answer tells of the bytes of the records that a shortened log holds.
abbrev pub TellsBehind : SchemaValue → ℕ → List ℕ → LogReplayed → Type 0
TellsBehind schema s bytes (came.Standing standing length) = ComesFrom schema s bytes standing length
TellsBehind schema s bytes (came.BadLine number) = ((number ≡ 1) × HasNoFirst bytes) ⊎ IsLineBehind schema s bytes number
TellsBehind schema s bytes (came.BreaksRule number) = ((number ≡ 1) × IsNoBase schema s bytes) ⊎ IsRuleBehind schema s bytes number

-- The standing is for lawful records of a site.
abbrev pub IsForLog : SchemaValue → ℕ → Standing → Type 0
IsForLog schema s standing = (rs : List Record) × Lawful schema s rs × IsStandingFor schema s rs standing

-- ---- how the body goes on

-- The first line: a summary, behind which these bytes are left; another record; or none.
abbrev pub IsFirst : List ℕ → FirstLine → List ℕ → Type 0
IsFirst bytes (first.Base base) left = IsRecordAt bytes (summary_record base) left
IsFirst bytes first.Other left = (r : Record) × (behind : List ℕ) × IsRecordAt bytes r behind × (is_summary r ≡ false)
IsFirst bytes first.Missing left = HasNoFirst bytes

-- So many records were taken in, the first of them a base: they are lawful behind it, the standing is for them, and the bytes are their
-- texts and what is left.
pub record TakenBehind (schema : SchemaValue) (s : ℕ) (bytes : List ℕ) (standing : Standing) (number : ℕ) (left : List ℕ) : Type 0 where
  pub base : SummaryValue
  pub records : List Record
  pub begins : Begins bytes (summary_record base ∷ records) left
  pub lawful : AreLawfulBehind schema s base (summary_record base ∷ records)
  pub stands : StandsBehind schema s base (summary_record base ∷ records) standing
  pub count : number ≡ length records + 1
