-- What the standings for the known logs tell.
use Rattle.std.proofs.Common.{◌≡◌, ℕ, ◌<◌, Bool, true, false, List, [], ◌∷◌, length, map, get_or, Option, Some, None, refl, sym, ◌∙◌, ap, subst, inl, inr, arith}
use Rattle.std.specs.Prelude.{is_none, unwrap_or, option_map}
use Rattle.std.specs.Global.{Vec}
use Rattle.std.proofs.lemmas.Bool.{cases_lt}
use Rattle.std.proofs.lemmas.List.{get_or-map, get_or_past, length-map}
use Rattle.field_bounds.specs.declared.kind.Kind.{Kind}
use Rattle.field_bounds.specs.Schema.{SchemaValue}
use Rattle.kept_records.specs.declared.record.Record.{Record}
use Rattle.kept_records.specs.Stands.{Lawful, BreaksRule as IsFirstBroken}
use Rattle.world_logs.specs.declared.fault.Excess.{Excess}
use Rattle.world_logs.specs.declared.fault.WorldFault.{WorldFault}
use Rattle.world_logs.specs.declared.fault.WorldFault.TheVariants.{BreaksRule, AcceptedMore, TooMuch, NoMemory}
use Rattle.world_logs.specs.Faults.{IsGiven, IsFirstUnlawful, IsFirstExcess, TellsOfLog, TellsUnlawful}
use Rattle.world_logs.specs.Logs.{log_of}
use Rattle.world_logs.specs.Lost.{known_of, lost_in, known_records, known_log, flight_by}
use Rattle.log_replay.specs.declared.standing.Standing.{Standing}
use Rattle.log_replay.specs.Standing.{IsStandingFor}
use Rattle.world_logs.specs.Body.{StandFor, is_lost, IsKnownPair}
use Rattle.world_logs.specs.LostFaults.{KnownWithin, TellsTooMuch, TellsKnownFault}
use Rattle.world_logs.specs.LostBody.{records_in, StandForKnown, StandsWhereKnown, AreForKnown, IsFilled, AreFilled}
use Rattle.world_logs.proofs.Own.{given_own}

-- the log of a site that is there
pub records_at : (known : List (Option (List Record))) (s : ℕ) → s < length known
    → log_of (known_records known) s ≡ unwrap_or (known_log known s) []
records_at known s below = get_or-map (λ (o : Option (List Record)). unwrap_or o []) known s None [] below

pub lost_at : (known : List (Option (List Record))) (s : ℕ) → s < length known → is_lost (lost_in known) s ≡ is_none (known_log known s)
lost_at known s below = get_or-map (λ (o : Option (List Record)). is_none o) known s None false below

-- ---- what is in flight

pub flight_none_from : (a b : Option (List Record)) (from to f : ℕ) (k : Kind) → is_none a ≡ true → 0 ≡ flight_by a b from to f k
flight_none_from None b from to f k lost = refl
flight_none_from (Some giving) b from to f k lost = absurd cc

pub flight_none_to : (a b : Option (List Record)) (from to f : ℕ) (k : Kind) → is_none b ≡ true → 0 ≡ flight_by a b from to f k
flight_none_to None b from to f k lost = refl
flight_none_to (Some giving) None from to f k lost = refl
flight_none_to (Some giving) (Some taking) from to f k lost = absurd cc

pub flight_to_itself : (schema : SchemaValue) (log : Option (List Record)) (s f : ℕ) (k : Kind) → Lawful schema s (unwrap_or log [])
    → 0 ≡ flight_by log log s s f k
flight_to_itself schema None s f k lawful = refl
flight_to_itself schema (Some rs) s f k lawful = omega (arith, given_own schema s f k rs lawful)

-- whether the log of a site is lost, by what was told of it
pub lost_is : (known : List (Option (List Record))) (lost : List Bool) (s : ℕ) (b : Bool)
    → ((t : ℕ) → is_lost lost t ≡ is_lost (lost_in known) t) → s < length known
    → b ≡ is_lost lost s → is_none (known_log known s) ≡ b
lost_is known lost s b same below told = sym (lost_at known s below) ∙ sym (same s) ∙ sym told

-- what a fault of one log tells of all
pub unlawful_at : (schema : SchemaValue) (logs : List (List Record)) (s : ℕ) (rs : List Record) (fault : WorldFault) → s < schema.sites
    → log_of logs s ≡ rs → ((t : ℕ) → t < s → Lawful schema t (log_of logs t)) → TellsOfLog schema s rs fault
    → TellsUnlawful schema logs fault
unlawful_at schema logs s rs (BreaksRule site number) site_in is before told =
    let P : ℕ → Type 0 = λ (t : ℕ). IsFirstUnlawful schema logs t number in
    subst P (sym told.0)
    (record {
      site_in = site_in;
      broken = subst (λ (log : List Record). IsFirstBroken schema s log number) (sym is) told.1;
      before = before;
    })
unlawful_at schema logs s rs NoMemory site_in is before told = tt
unlawful_at schema logs s rs fault site_in is before told = absurd told

-- ---- the whole

lost_same : (logs : List (Option (Vec Record))) → map (λ (o : Option (Vec Record)). is_none o) logs ≡ lost_in (known_of logs)
lost_same [] = refl
lost_same (None ∷ logs) = ap (λ (l : List Bool). true ∷ l) (lost_same logs)
lost_same (Some v ∷ logs) = ap (λ (l : List Bool). false ∷ l) (lost_same logs)

-- the records of all, those of a lost log none
pub records_are : (logs : List (Option (Vec Record))) → map (λ (o : Option (Vec Record)). records_in o) logs ≡ known_records (known_of logs)
records_are [] = refl
records_are (o ∷ logs) = ap (λ (ls : List (List Record)). records_in o ∷ ls) (records_are logs)

pub stand_for_known : {schema : SchemaValue} (logs : List (Option (Vec Record))) {standings told : List Standing} {lost told_lost : List Bool}
    → length logs ≡ schema.sites → StandFor schema (map (λ (o : Option (Vec Record)). records_in o) logs) standings → told ≡ standings
    → told_lost ≡ lost → lost ≡ map (λ (o : Option (Vec Record)). is_none o) logs → StandForKnown schema (known_of logs) told told_lost
stand_for_known {schema} logs count stand same same_lost is =
    record {
      stand = rw (same, ← records_are logs) stand;
      count = length-map logs (λ (o : Option (Vec Record)). option_map (λ (v : Vec Record). v.items) o) ∙ count;
      lost_is = λ s. ap (λ (l : List Bool). is_lost l s) (same_lost ∙ is ∙ lost_same logs);
    }

-- which pairs of sites are known, by which logs are lost
known_pair : (schema : SchemaValue) (lost others : List Bool) → ((s : ℕ) → is_lost lost s ≡ is_lost others s) → (from to f : ℕ)
    → IsKnownPair schema lost from to f → IsKnownPair schema others from to f
known_pair schema lost others same from to f known = record {
  pair = known.pair;
  from_known = sym (same from) ∙ known.from_known;
  to_known = sym (same to) ∙ known.to_known;
}

pub known_within : {schema : SchemaValue} {known : List (Option (List Record))} {standings : List Standing} {lost : List Bool}
    → StandForKnown schema known standings lost
    → ((from to f : ℕ) (k : Kind) → IsKnownPair schema lost from to f → IsGiven (known_records known) from to f k)
    → KnownWithin schema known
known_within {schema} {known} {lost} is within from to f k pair =
    within from to f k (known_pair schema (lost_in known) lost (λ s. sym (is.lost_is s)) from to f pair)

pub excess_tells : {schema : SchemaValue} {known : List (Option (List Record))} {standings : List Standing} {lost : List Bool} {e : Excess}
    → StandForKnown schema known standings lost → IsFirstExcess (IsKnownPair schema lost) (known_records known) e
    → TellsKnownFault schema known (AcceptedMore e)
excess_tells {schema} {known} {lost} {e} is first =
    let back = known_pair schema (lost_in known) lost (λ s. sym (is.lost_is s)) in (
      is.stand.lawful,
      record {
        pair = known_pair schema lost (lost_in known) is.lost_is e.from.0 e.to.0 e.field.0 first.pair;
        excess = first.excess;
        receivers = λ from to f k less pair. first.receivers from to f k less (back from to f pair);
        givers = λ from f k less pair. first.givers from f k less (back from e.to.0 f pair);
        fields = first.fields;
        kinds = first.kinds;
      },
    )

pub too_much_tells : (schema : SchemaValue) (known : List (Option (List Record))) (fault : WorldFault) → KnownWithin schema known
    → TellsTooMuch schema known fault → TellsKnownFault schema known fault
too_much_tells schema known (TooMuch field) within told = (within, told)
too_much_tells schema known NoMemory within told = tt
too_much_tells schema known fault within told = absurd told

pub unlawful_tells : (schema : SchemaValue) (known : List (Option (List Record))) (fault : WorldFault)
    → TellsUnlawful schema (known_records known) fault → TellsKnownFault schema known fault
unlawful_tells schema known (BreaksRule site number) told = told
unlawful_tells schema known NoMemory told = tt
unlawful_tells schema known fault told = absurd told

-- ---- standings where logs are known

-- what they tell of one site
lawful_at : (schema : SchemaValue) (s : ℕ) (log : Option (List Record)) (told : Option Standing) → StandsWhereKnown schema s log told
    → Lawful schema s (unwrap_or log [])
lawful_at schema s None told stands = tt
lawful_at schema s (Some rs) None stands = absurd stands
lawful_at schema s (Some rs) (Some standing) stands = stands.0

filled_at : (schema : SchemaValue) (s : ℕ) (log : Option (List Record)) (told : Option Standing) (one : Standing)
    → StandsWhereKnown schema s log told → IsFilled schema s told one → IsStandingFor schema s (unwrap_or log []) one
filled_at schema s None None one stands filled = filled
filled_at schema s (Some rs) (Some standing) one stands filled = rw filled stands.1
filled_at schema s log told one stands filled = absurd stands

none_at : (schema : SchemaValue) (s : ℕ) (log : Option (List Record)) (told : Option Standing) → StandsWhereKnown schema s log told
    → is_none told ≡ is_none log
none_at schema s None None stands = refl
none_at schema s (Some rs) (Some standing) stands = refl
none_at schema s log told stands = absurd stands

-- which logs are lost, site by site
none_where_lost : (schema : SchemaValue) (known : List (Option (List Record))) (standings : List (Option Standing))
    → AreForKnown schema known standings → (s : ℕ)
    → is_lost (map (λ (o : Option Standing). is_none o) standings) s ≡ is_lost (lost_in known) s
none_where_lost schema known standings for_ s = elim (cases_lt s schema.sites) [
  | inl site_in ↦
      get_or-map (λ (o : Option Standing). is_none o) standings s None false (omega (arith, site_in, for_.count))
      ∙ none_at schema s (known_log known s) (get_or standings s None) (for_.each s site_in)
      ∙ sym (lost_at known s (omega (arith, site_in, for_.logs)))
  | inr past ↦
      get_or_past (map (λ (o : Option Standing). is_none o) standings) s false
      (omega (arith, past, for_.count, length-map standings (λ (o : Option Standing). is_none o)))
      ∙ sym (get_or_past (lost_in known) s false (omega (arith, past, for_.logs, length-map known (λ (o : Option (List Record)). is_none o))))
]

pub stand_where_known : {schema : SchemaValue} {known : List (Option (List Record))} {standings kept : List (Option Standing)}
    {all told : List Standing} {lost told_lost : List Bool} → AreForKnown schema known standings → AreFilled schema standings all
    → told ≡ all → lost ≡ map (λ (o : Option Standing). is_none o) kept → kept ≡ standings → told_lost ≡ lost
    → StandForKnown schema known told told_lost
stand_where_known {schema} {known} {standings} {all} for_ filled same is kept_is same_lost =
    let at : (s : ℕ) → s < schema.sites → log_of (known_records known) s ≡ unwrap_or (known_log known s) [] =
    λ s site_in. records_at known s (omega (arith, site_in, for_.logs)) in
    record {
      stand = record {
        lawful = record {
          count = length-map known (λ (o : Option (List Record)). unwrap_or o []) ∙ for_.logs;
          each = λ s site_in. rw (at s site_in) (lawful_at schema s (known_log known s) (get_or standings s None) (for_.each s site_in));
        };
        count = ap length same ∙ filled.count ∙ for_.count;
        each = λ s d site_in. rw (at s site_in, same)
            (filled_at schema s (known_log known s) (get_or standings s None) (get_or all s d) (for_.each s site_in)
            (filled.each s d (omega (arith, site_in, for_.count))));
      };
      count = for_.logs;
      lost_is = λ s. rw (same_lost, is, kept_is) (none_where_lost schema known standings for_ s);
    }
