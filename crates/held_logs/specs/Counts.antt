-- How far a shortened log has come, and how many records it has, those that are gone included (this project).
use Rattle.std.specs.Prelude.{◌≡◌, ℕ, ◌+◌, ◌-◌, ◌^◌, max, min, List, [], ◌∷◌, Option, Some, None}
use Rattle.kept_records.specs.declared.record.Record.{Record}
use Rattle.kept_records.specs.Kinds.{base_told}
use Rattle.kept_records.specs.Summary.{SummaryValue}
use Rattle.kept_records.specs.declared.counting.LogCount.{LogCount}
use Rattle.kept_records.specs.Counting.{IsCountOf}
use Rattle.kept_records.specs.Stands.{greatest}
use Rattle.log_stand.specs.declared.stand.Stand.{Stand}
use Rattle.log_head.specs.declared.gone.Gone.{Gone}

-- A number, as far as one of 64 bits tells it: a log is never that long.
abbrev pub told_number : ℕ → ℕ
told_number n = min n (2 ^ 64 - 1)

-- The epoch that a summary tells; other records tell none.
abbrev pub epoch_in : Option SummaryValue → ℕ
epoch_in None = 0
epoch_in (Some base) = base.epoch

abbrev pub epoch_told : Record → ℕ
epoch_told r = epoch_in (base_told r)

-- The epoch that a base tells, where the records begin with one.
abbrev pub base_epoch : List Record → ℕ
base_epoch [] = 0
base_epoch (r ∷ rs) = epoch_told r

-- Of the records that are held, as they are counted: the epoch is the greatest of a restart behind the base, or that which the base
-- tells, where that is greater; and the length is that of their texts and of those that are gone.
pub record IsStandBehind (gone : Gone) (bytes : List ℕ) (stand : Stand) : Type 0 where
  pub count : LogCount
  pub counted : IsCountOf bytes count
  pub epoch : stand.epoch ≡ max (greatest counted.records) (base_epoch counted.records)
  pub size : stand.length ≡ told_number (gone.bytes + count.length)

-- They are counted, and those that are gone with those that are no summaries.
pub record IsCountBehind (gone : Gone) (bytes : List ℕ) (count : LogCount) : Type 0 where
  pub held : LogCount
  pub counted : IsCountOf bytes held
  pub count_is : count ≡ record held { plain = told_number (gone.records + held.plain) }
