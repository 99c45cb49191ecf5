-- Records of the common kinds, as a reader lends them (this project).
use Rattle.std.specs.Prelude.{◌≡◌, ℕ, List, Option, Some, None}
use Rattle.field_bounds.specs.declared.entry.Escrow.{Escrow}
use Rattle.kept_records.specs.declared.record.Record.{Record}
use Rattle.kept_records.specs.declared.record.Record.TheVariants.{Commit, Gift, Accept, Tighten, Restart}
use Rattle.kept_records.specs.declared.lent_records.CommonRecord.{CommonRecord}
use Rattle.kept_records.specs.declared.lent_records.CommonRecord.TheVariants as common
use Rattle.kept_records.specs.Lines.{IsRecordAt}

-- The bytes that are left, and the escrows that are lent.
pub record LentValue : Type 0 where
  pub left : List ℕ
  pub escrows : List Escrow

-- The record that is told, where these are its escrows if it is a commit.
abbrev pub record_told : CommonRecord → List Escrow → Record
record_told (common.Commit txn) escrows = Commit txn escrows
record_told (common.Gift to field kind total) escrows = Gift to field kind total
record_told (common.Accept from field kind total) escrows = Accept from field kind total
record_told (common.Tighten field kind total) escrows = Tighten field kind total
record_told (common.Restart epoch) escrows = Restart epoch

-- The old bytes are the text of the record that is told, with the escrows that are lent, and the new bytes; or they stayed.
abbrev pub HandsCommon : List ℕ → Option CommonRecord → LentValue → Type 0
HandsCommon old None new = new.left ≡ old
HandsCommon old (Some r) new = IsRecordAt old (record_told r new.escrows) new.left
