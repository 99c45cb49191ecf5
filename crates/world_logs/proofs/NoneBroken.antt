-- What each log came to, where none breaks a rule.
use Rattle.std.proofs.Common.{◌≡◌, ℕ, ◌<◌, List, Option, None, length, map, get_or, sym, ◌∙◌, ap, arith}
use Rattle.std.specs.Prelude.{Result, Ok, Err}
use Rattle.std.proofs.lemmas.List.{get_or-map, length-map}
use Rattle.field_bounds.specs.Schema.{SchemaValue}
use Rattle.log_replay.specs.declared.standing.Standing.{Standing}
use Rattle.world_logs.specs.Body.{StandsForLog, AreForLogs}
use Rattle.world_logs.specs.LostBody.{StandsIfKnown, AreForKnownLogs}
use Rattle.world_logs.specs.Outcomes.{AreOutcomes}

abbrev pub ok : (A : Type 0) → A → Result A ℕ
ok A x = Ok x

module _ {A : Type 0} (schema : SchemaValue) (StandsFor : ℕ → A → Type 0) (outcomes : List (Result A ℕ)) (xs : List A)
    (are : AreOutcomes schema StandsFor outcomes) (same : outcomes ≡ map (ok A) xs) where
  count : length xs ≡ schema.sites
  count = sym (length-map xs (ok A)) ∙ sym (ap length same) ∙ are.count

  stands : (s : ℕ) (d : A) → s < schema.sites → StandsFor s (get_or xs s d)
  stands s d site_in =
      rw (same, get_or-map (ok A) xs s d (Err 0) (omega (arith, site_in, count))) at (are.each s site_in)

pub are_for_logs : (schema : SchemaValue) (outcomes : List (Result Standing ℕ)) (standings : List Standing)
    → AreOutcomes schema (StandsForLog schema) outcomes → outcomes ≡ map (ok Standing) standings → AreForLogs schema standings
are_for_logs schema outcomes standings are same = record {
  count = count schema (StandsForLog schema) outcomes standings are same;
  each = λ s d site_in. stands schema (StandsForLog schema) outcomes standings are same s d site_in;
}

pub are_for_known : (schema : SchemaValue) (outcomes : List (Result (Option Standing) ℕ)) (standings : List (Option Standing))
    → AreOutcomes schema (StandsIfKnown schema) outcomes → outcomes ≡ map (ok (Option Standing)) standings
    → AreForKnownLogs schema standings
are_for_known schema outcomes standings are same = record {
  count = count schema (StandsIfKnown schema) outcomes standings are same;
  each = λ s site_in. stands schema (StandsIfKnown schema) outcomes standings are same s None site_in;
}
