-- What is told of what the logs of all sites came to: the standing for a log, or the number of its record that breaks a
-- rule (this project).
use Rattle.std.specs.Prelude.{◌≡◌, ℕ, ◌<◌, ◌++◌, ◌∷◌, List, Result, Ok, Err, length, map, slice_index_or}
use Rattle.field_bounds.specs.Schema.{SchemaValue}
use Rattle.kept_records.specs.declared.record.Record.{Record}
use Rattle.kept_records.specs.Stands.{BreaksRule as IsFirstBroken}
use Rattle.world_logs.specs.declared.fault.WorldFault.{WorldFault}
use Rattle.world_logs.specs.declared.fault.WorldFault.TheVariants.{BreaksRule, AcceptedMore, TooMuch, NoMemory}

-- The log of this site breaks a rule at the record of this number, and the log of no lower site breaks one.
pub record IsLowestBroken {A : Type 0} (outcomes : List (Result A ℕ)) (s number : ℕ) : Type 0 where
  pub below : List A
  pub above : List (Result A ℕ)
  pub all : outcomes ≡ map (λ one. Ok one) below ++ Err number ∷ above
  pub site : s ≡ length below

-- What a fault of them tells.
abbrev pub TellsBroken : {A : Type 0} → List (Result A ℕ) → WorldFault → Type 0
TellsBroken outcomes (BreaksRule site number) = IsLowestBroken outcomes site.0 number
TellsBroken outcomes (AcceptedMore excess) = ⊥
TellsBroken outcomes (TooMuch field) = ⊥
TellsBroken outcomes NoMemory = Unit {0}

-- The log of a site came to what stands for it, or to the number of the first of its records that breaks a rule.
abbrev pub IsOutcome : {A : Type 0} → SchemaValue → (ℕ → A → Type 0) → ℕ → Result A ℕ → Type 0
IsOutcome schema StandsFor s (Ok one) = StandsFor s one
IsOutcome schema StandsFor s (Err number) = (rs : List Record) × IsFirstBroken schema s rs number

-- There is what the log of each site came to, in their order.
pub record AreOutcomes {A : Type 0} (schema : SchemaValue) (StandsFor : ℕ → A → Type 0) (outcomes : List (Result A ℕ)) : Type 0 where
  pub count : length outcomes ≡ schema.sites
  pub each : (s : ℕ) → s < schema.sites → IsOutcome schema StandsFor s (slice_index_or outcomes s (Err 0))
