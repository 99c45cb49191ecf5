-- Records at the front of bytes that may be no log (this project).
use Rattle.std.specs.Prelude.{◌≡◌, ℕ, ◌<◌, length, List, [], ◌∷◌, ◌++◌}
use Rattle.std.specs.List.{flat_map, AllByRecursion}
use Rattle.field_bounds.specs.declared.entry.Escrow.{Escrow}
use Rattle.field_bounds.specs.declared.id.TxnId.{TxnId}
use Rattle.kept_records.specs.declared.record.Record.{Record}
use Rattle.kept_records.specs.declared.record.Record.TheVariants.{Commit, Restart}
use Rattle.kept_records.specs.declared.record_lines.RecordLine.{RecordLine}
use Rattle.kept_records.specs.declared.record_lines.RecordLine.TheVariants as lines
use Rattle.kept_records.specs.Text.{text, IsRecord}
use Rattle.kept_records.specs.Logs.{HasNoLf}

-- The bytes begin with the text of this record, whose numbers lie in their ranges, and behind it stands the rest.
pub record IsRecordAt (bytes : List ℕ) (r : Record) (behind : List ℕ) : Type 0 where
  pub parts : bytes ≡ text r ++ behind
  pub fits : IsRecord r

-- The same of a commit and of a restart.
abbrev pub IsCommitAt : List ℕ → TxnId → List Escrow → List ℕ → Type 0
IsCommitAt bytes txn escrows behind = IsRecordAt bytes (Commit txn escrows) behind

abbrev pub IsRestartAt : List ℕ → ℕ → List ℕ → Type 0
IsRestartAt bytes epoch behind = IsRecordAt bytes (Restart epoch) behind

-- The bytes begin with a line, up to and with its line feed (10), that is the text of no record.
pub record StartsBad (bytes : List ℕ) : Type 0 where
  pub line : List ℕ
  pub behind : List ℕ
  pub parts : bytes ≡ line ++ 10 ∷ behind
  pub one_line : HasNoLf line
  pub none : (r : Record) → IsRecord r → text r ≡ line ++ 10 ∷ [] → ⊥

-- The old bytes are the record's text and the new ones; or their first line is the text of no record, or no line ends in
-- them, and they stayed.
abbrev pub HandsLine : List ℕ → RecordLine → List ℕ → Type 0
HandsLine old (lines.Record r) new = IsRecordAt old r new
HandsLine old lines.NoRecord new = StartsBad old × (new ≡ old)
HandsLine old lines.End new = HasNoLf old × (new ≡ old)

-- Fewer bytes are left where a record was taken.
abbrev pub IsFewer : List ℕ → RecordLine → List ℕ → Type 0
IsFewer old (lines.Record r) new = length new < length old
IsFewer old lines.NoRecord new = Unit {0}
IsFewer old lines.End new = Unit {0}

-- The bytes are the texts of these records, and behind them what is left.
pub record Begins (bytes : List ℕ) (rs : List Record) (left : List ℕ) : Type 0 where
  pub parts : bytes ≡ flat_map text rs ++ left
  pub each : AllByRecursion IsRecord rs
