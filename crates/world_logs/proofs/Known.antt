-- What the known sites have lies between a field's value and its bounds.
use Rattle.std.proofs.Common.{◌≡◌, ℕ, ◌+◌, ◌-◌, ◌<◌, ◌≤◌, List, Option, Some, None, length, refl, subst, arith}
use Rattle.std.proofs.lemmas.Int.{ints}
use Rattle.std.specs.Prelude.{◌≤ℤ◌}
use Rattle.field_bounds.specs.declared.kind.Kind.{Kind}
use Rattle.field_bounds.specs.declared.kind.Kind.TheVariants.{Lower, Raise}
use Rattle.field_bounds.specs.Schema.{SchemaValue}
use Rattle.field_bounds.specs.Limits.{IsSchema}
use Rattle.field_bounds.specs.Parts.{field_at, width_of, sum_below}
use Rattle.field_bounds.proofs.Sums.{sum_below-mono, sum_below-add}
use Rattle.kept_records.specs.declared.record.Record.{Record}
use Rattle.kept_records.specs.Stands.{cut_in, own_in, guarded_in}
use Rattle.world_logs.specs.Logs.{log_of, given_between, accepted_between, all_rights, in_flight, all_cuts, value_in}
use Rattle.world_logs.specs.Lost.{known_log, MayBe, guarded_by, flight_by, guarded_known, flight_known, least_value, greatest_value, known_rights}
use Rattle.world_logs.proofs.Conserved.{is_conserved}
use Rattle.world_logs.proofs.Totals.{width_is}

module _ (schema : SchemaValue) (known : List (Option (List Record))) (logs : List (List Record)) (may : MayBe schema known logs) where
  guarded_at : (s : ℕ) (log : Option (List Record)) → ((rs : List Record) → log ≡ Some rs → log_of logs s ≡ rs) → (f : ℕ) (k : Kind)
      → guarded_by schema s log f k ≤ cut_in (log_of logs s) f k + own_in schema s (log_of logs s) f k
  guarded_at s None same f k = omega arith
  guarded_at s (Some rs) same f k =
      subst (λ (log : List Record). guarded_in schema s log f k ≤ cut_in (log_of logs s) f k + own_in schema s (log_of logs s) f k)
      (same rs refl) (omega arith)

  flight_at : (from to : ℕ) (giving taking : Option (List Record)) → ((rs : List Record) → giving ≡ Some rs → log_of logs from ≡ rs)
      → ((rs : List Record) → taking ≡ Some rs → log_of logs to ≡ rs) → (f : ℕ) (k : Kind)
      → flight_by giving taking from to f k ≤ given_between logs from to f k - accepted_between logs from to f k
  flight_at from to None taking a b f k = omega arith
  flight_at from to (Some giving) None a b f k = omega arith
  flight_at from to (Some giving) (Some taking) a b f k =
      let one : log_of logs from ≡ giving = a giving refl in
      let two : log_of logs to ≡ taking = b taking refl in
      rw (one, two) (omega arith)

  -- what is known is no more than what there is
  pub known_below : (f : ℕ) (k : Kind)
      → guarded_known schema known f k + flight_known schema known f k
      ≤ (all_rights schema logs f k + in_flight schema logs f k) + all_cuts schema logs f k
  known_below f k =
      omega (
        arith,
        sum_below-mono schema.sites (λ s. guarded_by schema s (known_log known s) f k)
            (λ s. cut_in (log_of logs s) f k + own_in schema s (log_of logs s) f k)
            (λ s. guarded_at s (known_log known s) (may.same s) f k),
        sum_below-add schema.sites (λ s. cut_in (log_of logs s) f k) (λ s. own_in schema s (log_of logs s) f k),
        sum_below-mono schema.sites
            (λ from. sum_below schema.sites (λ to. flight_by (known_log known from) (known_log known to) from to f k))
            (λ from. sum_below schema.sites (λ to. given_between logs from to f k - accepted_between logs from to f k))
            (λ from. sum_below-mono schema.sites (λ to. flight_by (known_log known from) (known_log known to) from to f k)
            (λ to. given_between logs from to f k - accepted_between logs from to f k)
            (λ to. flight_at from to (known_log known from) (known_log known to) (may.same from) (may.same to) f k)),
      )

  pub value_between : IsSchema schema → (f : ℕ) → f < length schema.fields
      → (least_value schema known f ≤ℤ value_in schema logs f) × (value_in schema logs f ≤ℤ greatest_value schema known f)
  value_between good f field_in =
      let is = is_conserved schema good logs may.lawful may.within in (
        omega (arith, ints, is.lowering f field_in, known_below f Lower),
        omega (arith, ints, is.raising f field_in, known_below f Raise),
      )

-- where the known sites have more than a field is wide, no logs go with theirs
pub none_goes : (schema : SchemaValue) (known : List (Option (List Record))) → IsSchema schema → (f : ℕ) → f < length schema.fields
    → width_of (field_at schema f) < known_rights schema known f → (logs : List (List Record)) → MayBe schema known logs → ⊥
none_goes schema known good f field_in more logs may =
    omega (
      arith,
      more,
      known_below schema known logs may f Lower,
      known_below schema known logs may f Raise,
      width_is schema good logs may.lawful may.within f field_in,
    )
