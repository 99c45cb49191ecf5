-- What a restart does to a medium, and finds on it (this project).
use Rattle.std.specs.Prelude.{◌≡◌, ◌≢◌, ◌⊎◌, ℕ, ◌+◌, ◌<◌, ◌≤◌, nat_le, if◌then◌else◌, Bool, false, List, [], ◌∷◌, ◌++◌, length, Option, None, Some}
use Rattle.field_bounds.specs.declared.entry.Last.{Last}
use Rattle.field_bounds.specs.declared.entry.Last.TheVariants.{Nothing, Kept, Lost}
use Rattle.field_bounds.specs.Schema.{SchemaValue}
use Rattle.field_bounds.specs.Limits.{IsSchema}
use Rattle.field_bounds.specs.Owed.{max_epoch}
use Rattle.kept_records.specs.declared.medium.Mishap.{Mishap}
use Rattle.kept_records.specs.declared.medium.Mishap.TheVariants.{Never, Append, Cut, Read}
use Rattle.kept_records.specs.declared.record.Record.{Record}
use Rattle.kept_records.specs.declared.record.Record.TheVariants.{Restart}
use Rattle.std.specs.List.{flat_map, AllByRecursion}
use Rattle.kept_records.specs.Text.{text, IsRecord}
use Rattle.kept_records.specs.Medium.{IsCutShort}
use Rattle.kept_records.specs.Logs.{IsLog}
use Rattle.kept_records.specs.Keeping.{starts_with_no_restart}
use Rattle.kept_records.specs.ReadingBack.{told_length, AreBehind}
use Rattle.kept_records.specs.Stands.{greatest, Lawful, plain, since_summary, piece}
use Rattle.log_replay.specs.declared.standing.Standing.{Standing as StandingValue}
use Rattle.log_replay.specs.Standing.{IsStandingFor}
use Rattle.site_step.specs.State.{starts_with_summary, BeginsHeld}
use Rattle.site_step.specs.Site.{mishap_left}
use Rattle.site_step.specs.declared.site.restart.RestartEnd.{RestartEnd}
use Rattle.site_step.specs.declared.site.restart.RestartEnd.TheVariants.{Failed, NumbersFull, Standing}

-- The bytes hold these records and behind them a rest in which no line ends; the records are lawful behind those that are
-- gone, and where any are gone, a summary is the first that is held.
pub record HoldsBehind (schema : SchemaValue) (s : ℕ) (gone held : List Record) (rest bytes : List ℕ) : Type 0 where
  pub log : IsLog bytes held rest
  pub each : AllByRecursion IsRecord gone
  pub lawful : Lawful schema s (gone ++ held)
  pub begins : BeginsHeld gone held

-- The bytes are a log of these records and of a front of what a record adds behind them, which holds the record or nothing.
pub record Leaves (schema : SchemaValue) (s : ℕ) (rs : List Record) (r : Record) (stood : Bool) (bytes : List ℕ) : Type 0 where
  pub front : List Record
  pub rest : List ℕ
  pub log : IsLog bytes (rs ++ front) rest
  pub lawful : Lawful schema s (rs ++ front)
  pub told : plain front ≡ (if stood then r ∷ [] else [])
  pub first_ : starts_with_summary front ≡ false
  pub one : since_summary (rs ++ front) ≤ since_summary rs + 1

-- The record that a restart adds behind these, and its lines.
abbrev pub next_restart : List Record → Record
next_restart rs = Restart (greatest rs + 1)

abbrev pub next_piece : SchemaValue → ℕ → List Record → List Record
next_piece schema s rs = piece schema s rs (next_restart rs)

-- Whether a restart that failed had read the medium, as far as the mishap tells: one for appends or for cuts strikes behind
-- the read, and one for reads in it.
abbrev pub HasRead : Option ℕ → Option Mishap → Type 0
HasRead None foretold = ((n : ℕ) → foretold ≡ Some (Append n) → ⊥) × (foretold ≡ Some Cut → ⊥)
HasRead (Some turns) foretold = foretold ≡ Some Read → ⊥

-- A restart failed: its record stands or doesn't, as the mishap says where it is known. Where it read the medium, it
-- replayed the records behind the last summary.
pub record FailsOver (schema : SchemaValue) (s : ℕ) (rs : List Record) (turns : Option ℕ) (rest old bytes : List ℕ)
    (foretold left : Option Mishap) (before after : ℕ) : Type 0 where
  pub counts : after ≡ before + 1
  pub leaves : (stood : Bool) × Leaves schema s rs (next_restart rs) stood bytes
  pub left_ : (bytes ≡ old) ⊎ IsCutShort (flat_map text rs) (flat_map text (next_piece schema s rs)) bytes
  pub never : foretold ≡ Some Never → ⊥
  pub torn : (n : ℕ) → foretold ≡ Some (Append n) → (greatest rs < max_epoch)
      × Leaves schema s rs (next_restart rs) (nat_le (length (text (next_restart rs))) n) bytes
  pub cut : foretold ≡ Some Cut → (greatest rs < max_epoch) × (rest ≢ [])
  pub struck_ : left ≡ mishap_left foretold
  pub read : HasRead turns foretold
  pub replayed : (n : ℕ) → turns ≡ Some n → n ≡ since_summary rs

-- A restart found no epoch left.
pub record FullOver (rs : List Record) (old bytes : List ℕ) (foretold left : Option Mishap) (before after : ℕ) : Type 0 where
  pub same : bytes ≡ old
  pub counts : after ≡ before
  pub full : max_epoch ≤ greatest rs
  pub read : foretold ≡ Some Read → ⊥
  pub stays : left ≡ foretold

-- A restart went well: its record stands behind those that there were, with the summary that is due, and so long are all
-- texts then that are held. It replayed the records behind the last summary.
pub record StandsOver (schema : SchemaValue) (s : ℕ) (held rs : List Record) (epoch turns size : ℕ) (rest bytes : List ℕ)
    (foretold left : Option Mishap) (before after : ℕ) : Type 0 where
  pub counts : after ≡ before
  pub size_is : size ≡ told_length (length (flat_map text (held ++ next_piece schema s rs)))
  pub replayed : turns ≡ since_summary rs
  pub epoch_is : epoch ≡ greatest rs + 1
  pub some : greatest rs < max_epoch
  pub log : IsLog bytes (rs ++ next_piece schema s rs) []
  pub torn : (n : ℕ) → foretold ≡ Some (Append n) → ⊥
  pub read : foretold ≡ Some Read → ⊥
  pub cut : foretold ≡ Some Cut → rest ≡ []
  pub stays : left ≡ foretold

-- The texts of the records that are gone, and behind them these bytes.
abbrev pub all_bytes : List Record → List ℕ → List ℕ
all_bytes gone bytes = flat_map text gone ++ bytes

-- How a restart went over the records that are gone and those that are held, some of which stand behind the place that was
-- looked at.
abbrev pub ResumesOver : SchemaValue → ℕ → ℕ → List Record → List Record → List ℕ → RestartEnd → List ℕ → List ℕ → Option Mishap
    → Option Mishap → ℕ → ℕ → Type 0
ResumesOver schema s place gone held rest (Failed turns) old bytes foretold left before after =
    FailsOver schema s (gone ++ held) turns rest (all_bytes gone old) (all_bytes gone bytes) foretold left before after
ResumesOver schema s place gone held rest NumbersFull old bytes foretold left before after =
    FullOver (gone ++ held) (all_bytes gone old) (all_bytes gone bytes) foretold left before after
ResumesOver schema s place gone held rest (Standing behind standing epoch turns size) old bytes foretold left before after =
    StandsOver schema s held (gone ++ held) epoch turns size rest (all_bytes gone bytes) foretold left before after
    × IsStandingFor schema s (gone ++ held) standing × AreBehind old place behind.items

-- The bytes hold these records of a site of the schema, and the standing is for them and for those that are gone; so many of
-- them stand behind the last summary.
pub record IsReplayed (schema : SchemaValue) (s : ℕ) (gone held : List Record) (rest : List ℕ) (standing : StandingValue) (turns : ℕ)
    (bytes : List ℕ) : Type 0 where
  pub limits : IsSchema schema
  pub site_in : s < schema.sites
  pub holds : HoldsBehind schema s gone held rest bytes
  pub for_ : IsStandingFor schema s (gone ++ held) standing
  pub turns_are : turns ≡ since_summary (gone ++ held)

-- How a restart went over the records that were replayed, where these were behind the place.
abbrev pub ResumesAs : SchemaValue → StandingValue → ℕ → List Record → RestartEnd → List ℕ → List ℕ → Option Mishap → Option Mishap → ℕ → ℕ
    → Type 0
ResumesAs schema standing turns found resumed old bytes foretold left before after =
    (s place : ℕ) (gone held : List Record) (rest : List ℕ) → IsReplayed schema s gone held rest standing turns old
    → AreBehind old place found → ResumesOver schema s place gone held rest resumed old bytes foretold left before after

-- ---- the record in doubt

-- What became of the record in doubt, where one is, by the records behind its place: only a restart's stands there
-- where it was lost.
abbrev pub found_by : Option ℕ → List Record → Last
found_by None behind = Nothing
found_by (Some n) behind = if starts_with_no_restart behind then Kept else Lost
