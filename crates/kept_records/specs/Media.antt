-- What the media in memory hold.
use Rattle.std.specs.Prelude.{ℕ, ◌-◌, ◌^◌, List, Option, Some, nat_lt, if◌then◌else◌}
use Rattle.kept_records.specs.declared.medium.Mishap.{Mishap}
use Rattle.kept_records.specs.declared.medium.Mishap.TheVariants.{Never}

-- A medium that never fails: its bytes, and how many more it can hold without memory.
pub record Memory : Type 0 where
  pub bytes : List ℕ
  pub room : ℕ

-- The same with a mishap that strikes next and a count of failures.
pub record Torn : Type 0 where
  pub bytes : List ℕ
  pub room : ℕ
  pub mishap : Mishap
  pub failures : ℕ

-- The mishap that strikes next. Where the count of failures can't rise, none does.
abbrev pub mishap_next : Torn → Option Mishap
mishap_next m = if nat_lt m.failures (2 ^ 64 - 1) then Some m.mishap else Some Never
