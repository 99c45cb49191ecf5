-- How far a log has come (this project).
use Rattle.std.specs.Prelude.{◌≡◌, ◌⊎◌, ◌<◌, ℕ, List}
use Rattle.kept_records.specs.declared.counting.LogCount.{LogCount}
use Rattle.kept_records.specs.Counting.{IsCountOf}
use Rattle.kept_records.specs.Stands.{greatest}
use Rattle.log_stand.specs.declared.stand.Stand.{Stand}

-- Of the records in front of the first line that is none, or of all where there is no such line, as they are counted, these
-- are the greatest epoch of a restart and the length of their texts.
abbrev pub IsStandOf : List ℕ → Stand → Type 0
IsStandOf bytes stand =
    (count : LogCount) × (counted : IsCountOf bytes count) × (stand.epoch ≡ greatest counted.records) × (stand.length ≡ count.length)

-- A log has come less far than another: it has an earlier epoch, or fewer bytes.
abbrev pub IsBefore : Stand → Stand → Type 0
IsBefore stand seen = (stand.epoch < seen.epoch) ⊎ (stand.length < seen.length)
