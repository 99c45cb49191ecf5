-- The own rights of all sites and those in flight make up the distance of the value from its bounds.
use Rattle.std.proofs.Common.{◌≡◌, ℕ, ◌+◌, ◌-◌, ◌<◌, ◌≤◌, List, length, subst, inl, inr, arith}
use Rattle.std.proofs.lemmas.Bool.{cases_eq}
use Rattle.std.proofs.lemmas.Int.{ints}
use Rattle.std.specs.Prelude.{ℤ, pos, ◌+ℤ◌, ◌-ℤ◌, ◌≤ℤ◌, unsigned_abs}
use Rattle.field_bounds.specs.declared.kind.Kind.{Kind}
use Rattle.field_bounds.specs.declared.kind.Kind.TheVariants.{Lower, Raise}
use Rattle.field_bounds.specs.Kind.{other}
use Rattle.field_bounds.specs.Schema.{SchemaValue}
use Rattle.field_bounds.specs.Limits.{IsSchema}
use Rattle.field_bounds.specs.Parts.{total_of, field_at, part_of, sum_below}
use Rattle.field_bounds.proofs.Conserved.{is_ordered}
use Rattle.field_bounds.proofs.Parts.{shares_add_up}
use Rattle.field_bounds.proofs.Sums.{sum_below-same, sum_below-add, sum_below-swap}
use Rattle.kept_records.specs.declared.record.Record.{Record}
use Rattle.kept_records.specs.Stands.{cut_in, committed_in, own_in}
use Rattle.kept_records.proofs.Covering.{own_whole}
use Rattle.world_logs.specs.Logs.{log_of, AreLawful, given_between, accepted_between, AcceptedWithin, all_rights, in_flight, all_cuts, all_commits, value_in, floor_in, ceiling_in, IsConserved}
use Rattle.world_logs.proofs.Own.{accepted_own}

-- a number above another lies so far above it
above_is : (low high : ℤ) → low ≤ℤ high → low +ℤ pos (unsigned_abs (high -ℤ low)) ≡ high
above_is low high h = omega (arith, ints)

module _ (schema : SchemaValue) (good : IsSchema schema) (logs : List (List Record)) (lawful : AreLawful schema logs)
    (within : AcceptedWithin schema logs) where
  -- what each site gave to all, and what it accepted from all
  given_by : ℕ → Kind → ℕ → ℕ
  given_by f k s = sum_below schema.sites (λ to. given_between logs s to f k)

  accepted_by : ℕ → Kind → ℕ → ℕ
  accepted_by f k s = sum_below schema.sites (λ from. accepted_between logs from s f k)

  own_of : ℕ → Kind → ℕ → ℕ
  own_of f k s = own_in schema s (log_of logs s) f k

  committed_of : ℕ → Kind → ℕ → ℕ
  committed_of f k s = committed_in f k (log_of logs s)

  cut_of : ℕ → Kind → ℕ → ℕ
  cut_of f k s = cut_in (log_of logs s) f k

  total : (ℕ → ℕ) → ℕ
  total F = sum_below schema.sites F

  -- one site: its own rights, and what it has committed, given and given up
  site_balance : (f : ℕ) (k : Kind) (s : ℕ) → s < schema.sites
      → (own_of f k s + committed_of f k s) + (given_by f k s + cut_of f k s)
      ≡ (part_of schema s f k + committed_of f (other k) s) + accepted_by f k s
  unfolding given_by accepted_by own_of committed_of cut_of
  site_balance f k s below = omega (arith, own_whole schema s (log_of logs s) (lawful.each s below) f k)

  -- all sites
  all_balance : (f : ℕ) (k : Kind)
      → (total (own_of f k) + total (committed_of f k)) + (total (given_by f k) + total (cut_of f k))
      ≡ (total_of (field_at schema f) k + total (committed_of f (other k))) + total (accepted_by f k)
  unfolding total
  all_balance f k =
      omega (
        arith,
        sum_below-same schema.sites (λ s. (own_of f k s + committed_of f k s) + (given_by f k s + cut_of f k s))
            (λ s. (part_of schema s f k + committed_of f (other k) s) + accepted_by f k s) (site_balance f k),
        sum_below-add schema.sites (λ s. own_of f k s + committed_of f k s) (λ s. given_by f k s + cut_of f k s),
        sum_below-add schema.sites (own_of f k) (committed_of f k),
        sum_below-add schema.sites (given_by f k) (cut_of f k),
        sum_below-add schema.sites (λ s. part_of schema s f k + committed_of f (other k) s) (accepted_by f k),
        sum_below-add schema.sites (λ s. part_of schema s f k) (committed_of f (other k)),
        shares_add_up (total_of (field_at schema f) k) schema.sites good.some_site,
      )

  -- no site has accepted more from any than that has given it: from itself nothing
  pub all_within : (from to f : ℕ) (k : Kind) → from < schema.sites → to < schema.sites → f < length schema.fields
      → accepted_between logs from to f k ≤ given_between logs from to f k
  all_within from to f k from_in to_in field_in =
      elim (cases_eq from to) [
        | inl same ↦
            subst (λ (n : ℕ). accepted_between logs from n f k ≤ given_between logs from n f k) same
            (omega (arith, accepted_own schema from f k (log_of logs from) (lawful.each from from_in)))
        | inr apart ↦ within from to f k (record { from_in = from_in; to_in = to_in; apart = apart; field_in = field_in })
      ]

  -- what was given is in flight or accepted
  flight : (f : ℕ) (k : Kind) → f < length schema.fields → in_flight schema logs f k + total (accepted_by f k) ≡ total (given_by f k)
  unfolding given_by accepted_by total
  flight f k field_in =
      let between : ℕ → ℕ → ℕ = λ from to. accepted_between logs from to f k in
      let given : ℕ → ℕ → ℕ = λ from to. given_between logs from to f k in
      omega (
        arith,
        sum_below-swap schema.sites schema.sites (λ from to. between from to),
        sum_below-add schema.sites (λ from. sum_below schema.sites (λ to. given from to - between from to))
            (λ from. sum_below schema.sites (λ to. between from to)),
        sum_below-same schema.sites
            (λ from. sum_below schema.sites (λ to. given from to - between from to) + sum_below schema.sites (λ to. between from to))
            (given_by f k)
            (λ from less. omega (
              arith,
              sum_below-add schema.sites (λ to. given from to - between from to) (λ to. between from to),
              sum_below-same schema.sites (λ to. (given from to - between from to) + between from to) (λ to. given from to)
                  (λ to small. omega (arith, all_within from to f k less small field_in)),
            )),
      )

  -- own rights, what is in flight and what was given up are what is not committed
  pub conserved : (f : ℕ) (k : Kind) → f < length schema.fields
      → (all_rights schema logs f k + in_flight schema logs f k + all_cuts schema logs f k) + all_commits schema logs f k
      ≡ total_of (field_at schema f) k + all_commits schema logs f (other k)
  unfolding total own_of committed_of cut_of
  conserved f k field_in = omega (arith, all_balance f k, flight f k field_in)

  pub is_conserved : IsConserved schema logs
  is_conserved =
      record {
        lowering = λ f field_in.
            let low = above_is (field_at schema f).floor (field_at schema f).value (is_ordered schema good f).floor in
            omega (arith, ints, conserved f Lower field_in, low);
        raising = λ f field_in.
            let high = above_is (field_at schema f).value (field_at schema f).ceiling (is_ordered schema good f).ceiling in
            omega (arith, ints, conserved f Raise field_in, high);
      }

-- so the value lies within the bounds
pub bounded : (schema : SchemaValue) (logs : List (List Record)) → IsConserved schema logs → (f : ℕ) → f < length schema.fields
    → (floor_in schema logs f ≤ℤ value_in schema logs f) × (value_in schema logs f ≤ℤ ceiling_in schema logs f)
bounded schema logs is f field_in = (omega (arith, ints, is.lowering f field_in), omega (arith, ints, is.raising f field_in))
