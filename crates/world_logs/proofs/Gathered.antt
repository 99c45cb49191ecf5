-- The logs that standings are for, one after another, made one list.
use Rattle.std.proofs.Common.{◌≡◌, ℕ, zero, suc, ◌<◌, List, [], ◌∷◌, length, get_or, Option, Some, None, refl, arith}
use Rattle.std.proofs.lemmas.List.{get_or_default}
use Rattle.field_bounds.specs.Schema.{SchemaValue}
use Rattle.kept_records.specs.declared.record.Record.{Record}
use Rattle.kept_records.specs.Stands.{Lawful}
use Rattle.log_replay.specs.declared.standing.Standing.{Standing}
use Rattle.log_replay.specs.Standing.{IsStandingFor}
use Rattle.world_logs.specs.Logs.{log_of}
use Rattle.world_logs.specs.Body.{StandFor, AreForLogs, AreOfLogs}
use Rattle.world_logs.specs.LostBody.{StandsWhereKnown, StandsIfKnown, AreForKnown, AreForKnownLogs}

-- ---- what there is for each of a list, made one list

record Gathered {A B : Type 0} (P : ℕ → B → A → Type 0) (none : B) (xs : List A) : Type 0 where
  all : List B
  count : length all ≡ length xs
  each : (i : ℕ) (d : A) → i < length xs → P i (get_or all i none) (get_or xs i d)

one_more : {A B : Type 0} (P : ℕ → B → A → Type 0) (none b : B) (x : A) (xs : List A) → P 0 b x
    → (later : Gathered (λ i. P (suc i)) none xs) → (i : ℕ) (d : A) → i < length (x ∷ xs)
    → P i (get_or (b ∷ later.all) i none) (get_or (x ∷ xs) i d)
one_more P none b x xs one later zero d less = one
one_more P none b x xs one later (suc i) d less = later.each i d (omega (arith, less))

gather : {A B : Type 0} (P : ℕ → B → A → Type 0) (none : B) (xs : List A)
    → ((i : ℕ) (d : A) → i < length xs → (b : B) × P i b (get_or xs i d)) → Gathered P none xs
gather P none [] each = record { all = []; count = refl; each = λ i d less. absurd (omega (arith, less)) }
gather P none (x ∷ xs) each =
    let one = each 0 x (omega arith) in
    let later = gather (λ i. P (suc i)) none xs (λ i d less. each (suc i) d (omega (arith, less))) in
    record { all = one.0 ∷ later.all; count = omega (arith, later.count); each = one_more P none one.0 x xs one.1 later }

-- ---- all logs

some_of : (xs : List Standing) (i : ℕ) → i < length xs → Standing
some_of [] i less = absurd (omega (arith, less))
some_of (x ∷ xs) i less = x

pub gathered : (schema : SchemaValue) (standings : List Standing) → AreForLogs schema standings → AreOfLogs schema standings
gathered schema standings for_ =
    let P : ℕ → List Record → Standing → Type 0 = λ s rs standing. Lawful schema s rs × IsStandingFor schema s rs standing in
    let all = gather P [] standings (λ i d less. let it = for_.each i d (omega (arith, less, for_.count)) in (it.0, (it.1, it.2))) in
    let within : (s : ℕ) → s < schema.sites → s < length standings = λ s site_in. omega (arith, site_in, for_.count) in (
      all.all,
      record {
        lawful = record {
          count = omega (arith, all.count, for_.count);
          each = λ s site_in. (all.each s (some_of standings s (within s site_in)) (within s site_in)).0;
        };
        count = for_.count;
        each = λ s d site_in. (all.each s d (within s site_in)).1;
      },
    )

-- ---- the known ones

one_known : (schema : SchemaValue) (s : ℕ) (standing : Option Standing) → StandsIfKnown schema s standing
    → (log : Option (List Record)) × StandsWhereKnown schema s log standing
one_known schema s None stands = (None, tt)
one_known schema s (Some standing) stands = (Some stands.0, (stands.1, stands.2))

pub known_gathered : (schema : SchemaValue) (standings : List (Option Standing)) → AreForKnownLogs schema standings
    → (known : List (Option (List Record))) × AreForKnown schema known standings
known_gathered schema standings for_ =
    let all = gather (StandsWhereKnown schema) None standings
    (λ i d less. one_known schema i (get_or standings i d)
    (rw (get_or_default standings i None d less) at (for_.each i (omega (arith, less, for_.count))))) in (
      all.all,
      record {
        logs = omega (arith, all.count, for_.count);
        count = for_.count;
        each = λ s site_in. all.each s None (omega (arith, site_in, for_.count));
      },
    )

-- ---- logs that are there

pub are_for_logs : (schema : SchemaValue) (logs : List (List Record)) (standings : List Standing) → StandFor schema logs standings
    → AreForLogs schema standings
are_for_logs schema logs standings is = record {
  count = is.count;
  each = λ s d site_in. (log_of logs s, is.lawful.each s site_in, is.each s d site_in);
}
