-- What the records of a log are counted as (this project).
use Rattle.std.specs.Prelude.{◌≡◌, ℕ, List, length}
use Rattle.std.specs.List.{flat_map}
use Rattle.kept_records.specs.declared.record.Record.{Record}
use Rattle.kept_records.specs.declared.counting.LogCount.{LogCount}
use Rattle.kept_records.specs.Text.{text}
use Rattle.kept_records.specs.Logs.{AreGoodRecords}
use Rattle.kept_records.specs.Stands.{plain}

-- The records in front of the first line that is the text of no record, or all of them where there is no such line: how
-- many are no summaries, how long their texts are, and which line that is.
pub record IsCountOf (bytes : List ℕ) (count : LogCount) : Type 0 where
  pub records : List Record
  pub good : AreGoodRecords bytes records count.length count.bad_line
  pub others : count.plain ≡ length (plain records)
  pub size : count.length ≡ length (flat_map text records)
