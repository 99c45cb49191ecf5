-- Between which values a field lies where logs are lost: of each site, in order, its log where it is known (this project).
use Rattle.std.specs.Prelude.{◌≡◌, ℕ, ◌+◌, ◌-◌, ◌<◌, ◌≤◌, ℤ, pos, ◌+ℤ◌, ◌-ℤ◌, Bool, List, [], length, map, Option, Some, None, is_none, unwrap_or, option_map, slice_index_or, slice_get}
use Rattle.std.specs.Global.{Vec}
use Rattle.field_bounds.specs.declared.kind.Kind.{Kind}
use Rattle.field_bounds.specs.declared.kind.Kind.TheVariants.{Lower, Raise}
use Rattle.field_bounds.specs.Schema.{SchemaValue}
use Rattle.field_bounds.specs.Parts.{field_at, width_of, sum_below}
use Rattle.kept_records.specs.declared.record.Record.{Record}
use Rattle.kept_records.specs.Stands.{given_in, accepted_in, guarded_in}
use Rattle.world_logs.specs.declared.field_state.FieldRange.{FieldRange}
use Rattle.world_logs.specs.Logs.{log_of, AreLawful, AcceptedWithin}

-- The records of vectors, where they are known.
abbrev pub known_of : List (Option (Vec Record)) → List (Option (List Record))
known_of vs = map (λ o. option_map (λ (v : Vec Record). v.items) o) vs

-- Site by site, whether the log is lost.
abbrev pub lost_in : List (Option (List Record)) → List Bool
lost_in known = map (λ o. is_none o) known

-- The same logs, with no records of a site whose log is lost.
abbrev pub known_records : List (Option (List Record)) → List (List Record)
known_records known = map (λ o. unwrap_or o []) known

-- The log of a site, where it is known.
abbrev pub known_log : List (Option (List Record)) → ℕ → Option (List Record)
known_log known s = slice_index_or known s None

-- These may be the logs of all sites: each is lawful, no site has accepted more than it was given, and those that are known
-- are as they are known.
pub record MayBe (schema : SchemaValue) (known : List (Option (List Record))) (logs : List (List Record)) : Type 0 where
  pub lawful : AreLawful schema logs
  pub within : AcceptedWithin schema logs
  pub same : (s : ℕ) (rs : List Record) → known_log known s ≡ Some rs → log_of logs s ≡ rs

-- What a site guards of a field's width: its own rights of a kind and those that it gave up, and nothing of a site whose log is lost.
abbrev pub guarded_by : SchemaValue → ℕ → Option (List Record) → ℕ → Kind → ℕ
guarded_by schema s None f k = 0
guarded_by schema s (Some rs) f k = guarded_in schema s rs f k

-- The rights in flight between two sites, and none where a log of them is lost.
abbrev pub flight_by : Option (List Record) → Option (List Record) → ℕ → ℕ → ℕ → Kind → ℕ
flight_by None log_to from to f k = 0
flight_by (Some giving) None from to f k = 0
flight_by (Some giving) (Some taking) from to f k = given_in giving to f k - accepted_in taking from f k

-- The same of all sites, added up.
abbrev pub guarded_known : SchemaValue → List (Option (List Record)) → ℕ → Kind → ℕ
guarded_known schema known f k = sum_below schema.sites (λ s. guarded_by schema s (known_log known s) f k)

abbrev pub flight_known : SchemaValue → List (Option (List Record)) → ℕ → Kind → ℕ
flight_known schema known f k =
    sum_below schema.sites (λ from. sum_below schema.sites
    (λ to. flight_by (known_log known from) (known_log known to) from to f k))

-- The least value that a field may have: the schema's floor and above it what the known sites guard of rights to lower, and
-- have in flight among one another.
abbrev pub least_value : SchemaValue → List (Option (List Record)) → ℕ → ℤ
least_value schema known f = (field_at schema f).floor +ℤ pos (guarded_known schema known f Lower + flight_known schema known f Lower)

-- The greatest value that it may have: the schema's ceiling, less the same to raise.
abbrev pub greatest_value : SchemaValue → List (Option (List Record)) → ℕ → ℤ
greatest_value schema known f =
    (field_at schema f).ceiling -ℤ pos (guarded_known schema known f Raise + flight_known schema known f Raise)

-- Between which values a field lies.
abbrev pub range_of : SchemaValue → List (Option (List Record)) → ℕ → FieldRange
range_of schema known f = record { least = least_value schema known f; greatest = greatest_value schema known f }

-- All that the known sites guard and have in flight on a field, of both kinds.
abbrev pub known_rights : SchemaValue → List (Option (List Record)) → ℕ → ℕ
known_rights schema known f =
    (guarded_known schema known f Lower + flight_known schema known f Lower)
    + (guarded_known schema known f Raise + flight_known schema known f Raise)

-- That is no more than the field is wide.
abbrev pub HasRoom : SchemaValue → List (Option (List Record)) → ℕ → Type 0
HasRoom schema known f = known_rights schema known f ≤ width_of (field_at schema f)

-- The ranges of all fields, in their order, each of which has room.
pub record AreRanges (schema : SchemaValue) (known : List (Option (List Record))) (ranges : List FieldRange) : Type 0 where
  pub count : length ranges ≡ length schema.fields
  pub each : (f : ℕ) → f < length schema.fields → slice_get ranges f ≡ Some (range_of schema known f)
  pub room : (f : ℕ) → f < length schema.fields → HasRoom schema known f

-- The field is the lowest that has no room, so that no logs of all sites are these where they are known.
pub record IsFirstTooMuch (schema : SchemaValue) (known : List (Option (List Record))) (f : ℕ) : Type 0 where
  pub field_in : f < length schema.fields
  pub more : width_of (field_at schema f) < known_rights schema known f
  pub before : (g : ℕ) → g < f → HasRoom schema known g
  pub none : (logs : List (List Record)) → MayBe schema known logs → ⊥
