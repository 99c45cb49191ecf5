-- Where no log is lost, the sums over the known sites are those over all.
use Rattle.std.proofs.Common.{◌≡◌, ℕ, zero, suc, ◌+◌, ◌-◌, ◌<◌, List, [], ◌∷◌, length, map, Option, Some, None, refl, sym, ◌∙◌, ap, subst, arith}
use Rattle.std.proofs.lemmas.List.{get_or-map, length-map}
use Rattle.field_bounds.specs.declared.kind.Kind.{Kind}
use Rattle.field_bounds.specs.Schema.{SchemaValue}
use Rattle.field_bounds.specs.Parts.{sum_below}
use Rattle.field_bounds.proofs.Sums.{sum_below-same, sum_below-add}
use Rattle.kept_records.specs.declared.record.Record.{Record}
use Rattle.kept_records.specs.Stands.{cut_in, own_in}
use Rattle.log_replay.specs.declared.standing.Standing.{Standing}
use Rattle.world_logs.specs.Logs.{log_of, given_between, accepted_between, all_rights, in_flight, all_cuts}
use Rattle.world_logs.specs.Lost.{lost_in, known_records, known_log, guarded_by, flight_by, guarded_known, flight_known}
use Rattle.world_logs.specs.Body.{StandFor, is_lost}
use Rattle.world_logs.specs.LostBody.{StandForKnown}

-- the logs, all of which are known
abbrev pub all_known : List (List Record) → List (Option (List Record))
all_known logs = map (λ (rs : List Record). Some rs) logs

all_records : (logs : List (List Record)) → known_records (all_known logs) ≡ logs
all_records [] = refl
all_records (rs ∷ logs) = ap (λ (ls : List (List Record)). rs ∷ ls) (all_records logs)

none_lost : (logs : List (List Record)) (s : ℕ) → is_lost [] s ≡ is_lost (lost_in (all_known logs)) s
none_lost [] s = refl
none_lost (rs ∷ logs) zero = refl
none_lost (rs ∷ logs) (suc s) = none_lost logs s

pub stand_for_all : (schema : SchemaValue) (logs : List (List Record)) (standings : List Standing) → StandFor schema logs standings
    → StandForKnown schema (all_known logs) standings []
stand_for_all schema logs standings is =
    record {
      stand = subst (λ (ls : List (List Record)). StandFor schema ls standings) (sym (all_records logs)) is;
      count = length-map logs (λ (rs : List Record). Some rs) ∙ is.lawful.count;
      lost_is = none_lost logs;
    }

known_at : (logs : List (List Record)) (s : ℕ) → s < length logs → known_log (all_known logs) s ≡ Some (log_of logs s)
known_at logs s below = get_or-map (λ (rs : List Record). Some rs) logs s [] None below

module _ (schema : SchemaValue) (logs : List (List Record)) (count : length logs ≡ schema.sites) (f : ℕ) (k : Kind) where
  pub guarded_all : guarded_known schema (all_known logs) f k ≡ all_rights schema logs f k + all_cuts schema logs f k
  guarded_all =
      sum_below-same schema.sites (λ s. guarded_by schema s (known_log (all_known logs) s) f k)
      (λ s. own_in schema s (log_of logs s) f k + cut_in (log_of logs s) f k)
      (λ s below. ap (λ (log : Option (List Record)). guarded_by schema s log f k) (known_at logs s (omega (arith, below, count)))
      ∙ omega arith)
      ∙ sum_below-add schema.sites (λ s. own_in schema s (log_of logs s) f k) (λ s. cut_in (log_of logs s) f k)

  flight_at : (from to : ℕ) → from < schema.sites → to < schema.sites
      → flight_by (known_log (all_known logs) from) (known_log (all_known logs) to) from to f k
      ≡ given_between logs from to f k - accepted_between logs from to f k
  flight_at from to from_in to_in =
      ap (λ (log : Option (List Record)). flight_by log (known_log (all_known logs) to) from to f k)
      (known_at logs from (omega (arith, from_in, count)))
      ∙ ap (λ (log : Option (List Record)). flight_by (Some (log_of logs from)) log from to f k)
      (known_at logs to (omega (arith, to_in, count)))

  pub flight_all : flight_known schema (all_known logs) f k ≡ in_flight schema logs f k
  flight_all =
      sum_below-same schema.sites
      (λ from. sum_below schema.sites
      (λ to. flight_by (known_log (all_known logs) from) (known_log (all_known logs) to) from to f k))
      (λ from. sum_below schema.sites (λ to. given_between logs from to f k - accepted_between logs from to f k))
      (λ from from_in. sum_below-same schema.sites
      (λ to. flight_by (known_log (all_known logs) from) (known_log (all_known logs) to) from to f k)
      (λ to. given_between logs from to f k - accepted_between logs from to f k)
      (λ to to_in. flight_at from to from_in to_in))
