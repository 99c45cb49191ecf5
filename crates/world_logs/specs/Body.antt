-- What the logs of all sites of a world stand for, and how the body of a check goes on over that (this project).
use Rattle.std.specs.Prelude.{◌≡◌, ◌≢◌, ℕ, ◌<◌, Bool, false, List, length, slice_index_or}
use Rattle.field_bounds.specs.declared.kind.Kind.{Kind}
use Rattle.field_bounds.specs.declared.kind.Kind.TheVariants.{Lower, Raise}
use Rattle.field_bounds.specs.Schema.{SchemaValue}
use Rattle.kept_records.specs.declared.record.Record.{Record}
use Rattle.kept_records.specs.Stands.{Lawful}
use Rattle.log_replay.specs.declared.standing.Standing.{Standing}
use Rattle.log_replay.specs.Standing.{IsStandingFor}
use Rattle.world_logs.specs.declared.fault.Excess.{Excess}
use Rattle.world_logs.specs.Logs.{log_of, AreLawful, IsPair, AcceptedWithin}
use Rattle.world_logs.specs.Faults.{IsExcess, IsGiven}

-- Each log is lawful, and for each site there is the standing for its log.
pub record StandFor (schema : SchemaValue) (logs : List (List Record)) (standings : List Standing) : Type 0 where
  pub lawful : AreLawful schema logs
  pub count : length standings ≡ schema.sites
  pub each : (s : ℕ) (d : Standing) → s < schema.sites → IsStandingFor schema s (log_of logs s) (slice_index_or standings s d)

-- The standing is for lawful records of a site.
abbrev pub StandsForLog : SchemaValue → ℕ → Standing → Type 0
StandsForLog schema s standing = (rs : List Record) × Lawful schema s rs × IsStandingFor schema s rs standing

-- For each site, in order, there is the standing for a lawful log.
pub record AreForLogs (schema : SchemaValue) (standings : List Standing) : Type 0 where
  pub count : length standings ≡ schema.sites
  pub each : (s : ℕ) (d : Standing) → s < schema.sites → StandsForLog schema s (slice_index_or standings s d)

-- ---- how the body goes on

-- There are logs that these standings are for.
abbrev pub AreOfLogs : SchemaValue → List Standing → Type 0
AreOfLogs schema standings = (logs : List (List Record)) × StandFor schema logs standings

-- Standings are for logs, and no site has accepted more than was given.
pub record AddUp (schema : SchemaValue) (logs : List (List Record)) (standings : List Standing) : Type 0 where
  pub stand : StandFor schema logs standings
  pub within : AcceptedWithin schema logs

-- There are logs that these standings are for, and no site has accepted more than was given.
abbrev pub AreOfWorld : SchemaValue → List Standing → Type 0
AreOfWorld schema standings = (logs : List (List Record)) × AddUp schema logs standings

-- The excess is one between two sites on a field, of this kind.
pub record IsAt (logs : List (List Record)) (from to f : ℕ) (k : Kind) (e : Excess) : Type 0 where
  pub from_is : e.from.0 ≡ from
  pub to_is : e.to.0 ≡ to
  pub field_is : e.field.0 ≡ f
  pub kind_is : e.kind ≡ k
  pub excess : IsExcess logs e

-- It is the first between two sites on a field.
pub record IsFirstOn (logs : List (List Record)) (from to f : ℕ) (e : Excess) : Type 0 where
  pub at : IsAt logs from to f e.kind e
  pub kinds : e.kind ≡ Raise → IsGiven logs from to f Lower

-- It is the first between two sites.
pub record IsFirstBetween (schema : SchemaValue) (logs : List (List Record)) (from to : ℕ) (e : Excess) : Type 0 where
  pub field_in : e.field.0 < length schema.fields
  pub on : IsFirstOn logs from to e.field.0 e
  pub fields : (f : ℕ) (k : Kind) → f < e.field.0 → IsGiven logs from to f k

-- Whether the log of a site is lost: none is that isn't told so.
abbrev pub is_lost : List Bool → ℕ → Bool
is_lost lost s = slice_index_or lost s false

-- Two different sites and a field, all of the schema, where neither log is lost.
pub record IsKnownPair (schema : SchemaValue) (lost : List Bool) (from to f : ℕ) : Type 0 where
  pub pair : IsPair schema from to f
  pub from_known : is_lost lost from ≡ false
  pub to_known : is_lost lost to ≡ false

-- It is the first at a site that accepted.
pub record IsFirstAt (schema : SchemaValue) (lost : List Bool) (logs : List (List Record)) (to : ℕ) (e : Excess) : Type 0 where
  pub from_in : e.from.0 < schema.sites
  pub from_known : is_lost lost e.from.0 ≡ false
  pub apart : e.from.0 ≢ to
  pub between : IsFirstBetween schema logs e.from.0 to e
  pub givers : (from f : ℕ) (k : Kind) → from < e.from.0 → IsKnownPair schema lost from to f → IsGiven logs from to f k
