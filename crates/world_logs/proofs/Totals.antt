-- Sums over all sites are within what a field is wide.
use Rattle.std.proofs.Common.{◌≡◌, ℕ, ◌+◌, ◌<◌, ◌≤◌, List, length, refl, arith, add-one}
use Rattle.std.proofs.lemmas.Int.{ints}
use Rattle.field_bounds.specs.declared.kind.Kind.{Kind}
use Rattle.field_bounds.specs.declared.kind.Kind.TheVariants.{Lower, Raise}
use Rattle.field_bounds.specs.Schema.{SchemaValue}
use Rattle.field_bounds.specs.Limits.{IsSchema}
use Rattle.field_bounds.specs.Owed.{max_change}
use Rattle.field_bounds.specs.Parts.{field_at, width_of, sum_below}
use Rattle.field_bounds.proofs.Conserved.{is_ordered}
use Rattle.kept_records.specs.declared.record.Record.{Record}
use Rattle.kept_records.proofs.Covering.{width_few}
use Rattle.world_logs.specs.Logs.{AreLawful, AcceptedWithin, all_rights, in_flight, all_cuts}
use Rattle.world_logs.proofs.Conserved.{conserved}

-- ---- sums over the first sites

-- one term more
pub sum_below-more : (n : ℕ) (F : ℕ → ℕ) → sum_below (n + 1) F ≡ sum_below n F + F n
sum_below-more n F = rw add-one refl

-- ---- what all sites have

module _ (schema : SchemaValue) (good : IsSchema schema) (logs : List (List Record)) (lawful : AreLawful schema logs)
    (within : AcceptedWithin schema logs) where
  -- own rights, what is in flight and what was given up, of both kinds, are the width
  pub width_is : (f : ℕ) → f < length schema.fields
      → (all_rights schema logs f Lower + in_flight schema logs f Lower + all_cuts schema logs f Lower)
      + (all_rights schema logs f Raise + in_flight schema logs f Raise + all_cuts schema logs f Raise) ≡ width_of (field_at schema f)
  width_is f field_in =
      let order = is_ordered schema good f in
      omega (
        arith,
        ints,
        order.floor,
        order.ceiling,
        conserved schema good logs lawful within f Lower field_in,
        conserved schema good logs lawful within f Raise field_in,
      )

  pub all_few : (f : ℕ) (k : Kind) → f < length schema.fields
      → all_rights schema logs f k + in_flight schema logs f k + all_cuts schema logs f k ≤ max_change
  all_few f Lower field_in = omega (arith, width_is f field_in, width_few schema.fields good.each f)
  all_few f Raise field_in = omega (arith, width_is f field_in, width_few schema.fields good.each f)
