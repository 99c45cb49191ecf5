-- What the known logs of a world stand for, and how the body of a check goes on over that where logs are lost (this project).
use Rattle.std.specs.Prelude.{◌≡◌, ℕ, ◌<◌, Bool, List, [], length, Option, Some, None, unwrap_or, option_map, slice_index_or}
use Rattle.std.specs.Global.{Vec}
use Rattle.field_bounds.specs.Schema.{SchemaValue}
use Rattle.kept_records.specs.declared.record.Record.{Record}
use Rattle.kept_records.specs.Stands.{Lawful}
use Rattle.log_replay.specs.declared.standing.Standing.{Standing}
use Rattle.log_replay.specs.Standing.{IsStandingFor}
use Rattle.world_logs.specs.Lost.{lost_in, known_records, known_log}
use Rattle.world_logs.specs.Body.{StandFor, StandsForLog, is_lost}

-- The log of a site is known and lawful, and the standing is for it; or it is lost, and there is none.
abbrev pub StandsWhereKnown : SchemaValue → ℕ → Option (List Record) → Option Standing → Type 0
StandsWhereKnown schema s None None = Unit {0}
StandsWhereKnown schema s None (Some standing) = ⊥
StandsWhereKnown schema s (Some rs) None = ⊥
StandsWhereKnown schema s (Some rs) (Some standing) = Lawful schema s rs × IsStandingFor schema s rs standing

-- For each site, in order, there is the standing for its log where that is known.
pub record AreForKnown (schema : SchemaValue) (known : List (Option (List Record))) (standings : List (Option Standing)) : Type 0 where
  pub logs : length known ≡ schema.sites
  pub count : length standings ≡ schema.sites
  pub each : (s : ℕ) → s < schema.sites → StandsWhereKnown schema s (known_log known s) (slice_index_or standings s None)

-- The standing of a site is for lawful records of it, where there is one.
abbrev pub StandsIfKnown : SchemaValue → ℕ → Option Standing → Type 0
StandsIfKnown schema s None = Unit {0}
StandsIfKnown schema s (Some standing) = StandsForLog schema s standing

-- For each site, in order, there is the standing for a lawful log, or none.
pub record AreForKnownLogs (schema : SchemaValue) (standings : List (Option Standing)) : Type 0 where
  pub count : length standings ≡ schema.sites
  pub each : (s : ℕ) → s < schema.sites → StandsIfKnown schema s (slice_index_or standings s None)

-- ---- how the body goes on

-- The records of a log, and none where it is lost.
abbrev pub records_in : Option (Vec Record) → List Record
records_in log = unwrap_or (option_map (λ (v : Vec Record). v.items) log) []

-- For each site there is the standing for its log, that of no records where it is lost, and whether it is.
pub record StandForKnown (schema : SchemaValue) (known : List (Option (List Record))) (standings : List Standing) (lost : List Bool) : Type 0 where
  pub stand : StandFor schema (known_records known) standings
  pub count : length known ≡ schema.sites
  pub lost_is : (s : ℕ) → is_lost lost s ≡ is_lost (lost_in known) s

-- There are such logs.
abbrev pub AreOfKnown : SchemaValue → List Standing → List Bool → Type 0
AreOfKnown schema standings lost = (known : List (Option (List Record))) × StandForKnown schema known standings lost

-- The standing of a site, or one for no records where there is none.
abbrev pub IsFilled : SchemaValue → ℕ → Option Standing → Standing → Type 0
IsFilled schema s None all = IsStandingFor schema s [] all
IsFilled schema s (Some standing) all = all ≡ standing

-- The same of all sites.
pub record AreFilled (schema : SchemaValue) (standings : List (Option Standing)) (all : List Standing) : Type 0 where
  pub count : length all ≡ length standings
  pub each : (s : ℕ) (d : Standing) → s < length standings
      → IsFilled schema s (slice_index_or standings s None) (slice_index_or all s d)
