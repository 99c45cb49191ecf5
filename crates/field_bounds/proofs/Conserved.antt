-- The sums of all sites are tied to the committed value and its bounds.
use Rattle.std.proofs.Common.{◌≡◌, ℕ, zero, suc, ◌+◌, ◌-◌, ◌<◌, ◌≤◌, Bool, false, ◌&&◌, ◌||◌, List, [], ◌∷◌, sym, ◌∙◌, arith}
use Rattle.std.proofs.lemmas.Int.{ints}
use Rattle.std.proofs.lemmas.Bool.{or_left, and_parts}
use Rattle.std.specs.Prelude.{ℤ, pos, ◌+ℤ◌, ◌-ℤ◌, ◌≤ℤ◌, unsigned_abs, slice_index_or}
use Rattle.std.specs.List.{AllByRecursion}
use Rattle.field_bounds.specs.declared.kind.Kind.{Kind}
use Rattle.field_bounds.specs.declared.kind.Kind.TheVariants.{Lower, Raise}
use Rattle.field_bounds.specs.declared.id.TxnId.{TxnId}
use Rattle.field_bounds.specs.declared.entry.Entry.{Entry}
use Rattle.field_bounds.specs.Kind.{other}
use Rattle.field_bounds.specs.Schema.{FieldValue, SchemaValue}
use Rattle.field_bounds.specs.Limits.{IsField, IsSchema}
use Rattle.field_bounds.specs.Parts.{total_of, no_field, field_at, part_of, sum_below}
use Rattle.field_bounds.specs.Effects.{is_committed, is_open, granted_sizes, is_to, gifts, cut, share, fresh}
use Rattle.field_bounds.specs.Central.{own, at_site, sizes, is_committed_in, is_open_in, outcome, open_sizes, inf, sup, cuts, shares, in_flight, given_between, accepted_between, IsSound, IsConserved, IsConservedThroughout}
use Rattle.field_bounds.proofs.Parts.{shares_add_up}
use Rattle.field_bounds.proofs.Lawful.{IsLawful}
use Rattle.field_bounds.proofs.Runs.{run_is_lawful}
use Rattle.field_bounds.proofs.Sums.{sum_below-same, sum_below-add, sum_below-zero, sum_below-swap}
use Rattle.field_bounds.proofs.Shares.{balance, gifts_split, gains_split}
use Rattle.field_bounds.proofs.Ledgers.{accepted_is_given}
use Rattle.field_bounds.proofs.Traces.{effects_sizes, sizes_split, changes_split, sizes-mono, sizes-or, sound_front}

-- every outcome lies from inf to sup
pub outcomes_between : (schema : SchemaValue) (t : List Entry) (f : ℕ) (chosen : ℕ → TxnId → Bool)
    → (inf schema t f ≤ℤ outcome schema t f chosen) × (outcome schema t f chosen ≤ℤ sup schema t f)
outcomes_between schema t f chosen =
    let kept = is_committed_in schema t in
    let opened = is_open_in schema t in
    let taken : ℕ → TxnId → Bool = λ s id. opened s id && chosen s id in
    let all : ℕ → TxnId → Bool = λ s id. kept s id || taken s id in
    let before = changes_split kept f t in
    let later = changes_split all f t in
    let more : (k : Kind) → sizes kept f k t ≤ sizes all f k t =
    λ k. sizes-mono kept all (λ s id h. or_left (kept s id) (taken s id) h) f k t in
    let most : (k : Kind) → sizes all f k t ≤ sizes kept f k t + sizes opened f k t =
    λ k. omega (
      arith,
      sizes-or kept taken f k t,
      sizes-mono taken opened (λ s id h. (and_parts (opened s id) (chosen s id) h).0) f k t,
    ) in (
      omega (arith, ints, before, later, more Raise, most Lower),
      omega (arith, ints, before, later, more Lower, most Raise),
    )

-- ---- the bounds of a field

-- floor, value and ceiling of a field stand in their order
pub record IsOrdered (f : FieldValue) : Type 0 where
  pub floor : f.floor ≤ℤ f.value
  pub ceiling : f.value ≤ℤ f.ceiling

all_ordered : (fs : List FieldValue) → AllByRecursion IsField fs → (f : ℕ) → IsOrdered (slice_index_or fs f no_field)
all_ordered [] each f = record { floor = omega (arith, ints); ceiling = omega (arith, ints) }
all_ordered (x ∷ fs) each zero = record { floor = each.0.floor; ceiling = each.0.ceiling }
all_ordered (x ∷ fs) each (suc f) = all_ordered fs each.1 f

-- so of any number, since what stands in for a field that isn't there has all three at 0
pub is_ordered : (schema : SchemaValue) → IsSchema schema → (f : ℕ) → IsOrdered (field_at schema f)
is_ordered schema good f = all_ordered schema.fields good.each f

-- a number above another lies so far above it
above_is : (low high : ℤ) → low ≤ℤ high → low +ℤ pos (unsigned_abs (high -ℤ low)) ≡ high
above_is low high h = omega (arith, ints)

-- ---- the sums of all sites

module _ (schema : SchemaValue) (good : IsSchema schema) (t : List Entry) (sound : IsSound schema t) where
  abbrev pub committed_of : ℕ → Kind → ℕ → ℕ
  committed_of f k s = granted_sizes (λ id. is_committed id (at_site schema t s)) f k (at_site schema t s)

  abbrev pub open_of : ℕ → Kind → ℕ → ℕ
  open_of f k s = granted_sizes (λ id. is_open id (at_site schema t s)) f k (at_site schema t s)

  abbrev pub free_of : ℕ → Kind → ℕ → ℕ
  free_of f k s = share (fresh schema s) f k (at_site schema t s)

  pub lawful_at : (s : ℕ) → s < schema.sites → IsLawful schema (fresh schema s) (at_site schema t s)
  lawful_at s below = run_is_lawful schema s (fresh schema s) (own s t) (sound.runs s below) false

  -- what a site gave to all, and what it accepted from all
  given_by : ℕ → Kind → ℕ → ℕ
  given_by f k s = sum_below schema.sites (λ to. given_between schema t f k s to)

  -- what it gave up for good
  cut_by : ℕ → Kind → ℕ → ℕ
  cut_by f k s = cut (fresh schema s) f k (at_site schema t s)

  accepted_by : ℕ → Kind → ℕ → ℕ
  accepted_by f k s = sum_below schema.sites (λ from. accepted_between schema t f k from s)

  -- one site: its share, with what it has committed, holds open, gave and gave up
  site_balance : (f : ℕ) (k : Kind) (s : ℕ) → s < schema.sites
      → ((free_of f k s + committed_of f k s) + open_of f k s) + (given_by f k s + cut_by f k s)
      ≡ (part_of schema s f k + committed_of f (other k) s) + accepted_by f k s
  unfolding given_by cut_by accepted_by
  site_balance f k s below =
      let lawful = lawful_at s below in
      omega (
        arith,
        balance schema (fresh schema s) (at_site schema t s) lawful f k,
        gifts_split schema (fresh schema s) (at_site schema t s) lawful f k,
        gains_split schema (fresh schema s) (at_site schema t s) lawful f k,
        sum_below-zero schema.sites,
        sum_below-same schema.sites (λ to. gifts (is_to to) f k (at_site schema t s)) (λ to. given_between schema t f k s to)
            (λ to less. omega arith),
      )

  total : (ℕ → ℕ) → ℕ
  total F = sum_below schema.sites F

  -- all sites
  all_balance : (f : ℕ) (k : Kind)
      → ((shares schema t f k + total (committed_of f k)) + total (open_of f k)) + (total (given_by f k) + cuts schema t f k)
      ≡ (total_of (field_at schema f) k + total (committed_of f (other k))) + total (accepted_by f k)
  unfolding total cut_by
  all_balance f k =
      omega (
        arith,
        sum_below-same schema.sites (λ s. ((free_of f k s + committed_of f k s) + open_of f k s) + (given_by f k s + cut_by f k s))
            (λ s. (part_of schema s f k + committed_of f (other k) s) + accepted_by f k s) (site_balance f k),
        sum_below-add schema.sites (λ s. (free_of f k s + committed_of f k s) + open_of f k s) (λ s. given_by f k s + cut_by f k s),
        sum_below-add schema.sites (given_by f k) (cut_by f k),
        sum_below-add schema.sites (λ s. free_of f k s + committed_of f k s) (open_of f k),
        sum_below-add schema.sites (free_of f k) (committed_of f k),
        sum_below-add schema.sites (λ s. part_of schema s f k + committed_of f (other k) s) (accepted_by f k),
        sum_below-add schema.sites (λ s. part_of schema s f k) (committed_of f (other k)),
        shares_add_up (total_of (field_at schema f) k) schema.sites good.some_site,
      )

  -- what was given is in flight or accepted
  flight : (f : ℕ) (k : Kind) → in_flight schema t f k + total (accepted_by f k) ≡ total (given_by f k)
  unfolding given_by accepted_by total
  flight f k =
      let between : ℕ → ℕ → ℕ = λ from to. accepted_between schema t f k from to in
      omega (
        arith,
        sum_below-swap schema.sites schema.sites (λ from to. between from to),
        sum_below-add schema.sites (λ from. sum_below schema.sites (λ to. given_between schema t f k from to - between from to))
            (λ from. sum_below schema.sites (λ to. between from to)),
        sum_below-same schema.sites
            (λ from. sum_below schema.sites (λ to. given_between schema t f k from to - between from to)
            + sum_below schema.sites (λ to. between from to))
            (given_by f k)
            (λ from less. omega (
              arith,
              sum_below-add schema.sites (λ to. given_between schema t f k from to - between from to) (λ to. between from to),
              sum_below-same schema.sites (λ to. (given_between schema t f k from to - between from to) + between from to)
                  (λ to. given_between schema t f k from to)
                  (λ to small. omega (arith, accepted_is_given schema t sound false f k from to)),
            )),
      )

  -- a sum over the trace is the sum over what took effect at each site
  pub traced : (p : ℕ → TxnId → Bool) (f : ℕ) (k : Kind)
      → sizes p f k t ≡ sum_below schema.sites (λ s. granted_sizes (p s) f k (at_site schema t s))
  traced p f k =
      sizes_split p f k schema t sound.sites
      ∙ sum_below-same schema.sites (λ s. sizes (λ _. p s) f k (own s t)) (λ s. granted_sizes (p s) f k (at_site schema t s))
      (λ s below. sym (effects_sizes (fresh schema s) (p s) f k false (own s t)))

  -- what the sites may take, with what is in flight and what was given up, is what is not taken yet
  pub conserved : (f : ℕ) (k : Kind)
      → shares schema t f k + in_flight schema t f k + cuts schema t f k + sizes (is_committed_in schema t) f k t + open_sizes schema t f k
      ≡ total_of (field_at schema f) k + sizes (is_committed_in schema t) f (other k) t
  unfolding total
  conserved f k =
      omega (
        arith,
        all_balance f k,
        flight f k,
        traced (is_committed_in schema t) f k,
        traced (is_committed_in schema t) f (other k),
        traced (is_open_in schema t) f k,
      )

  pub is_conserved : IsConserved schema t
  is_conserved =
      record {
        lowering = λ f.
            let low = above_is (field_at schema f).floor (field_at schema f).value (is_ordered schema good f).floor in
            omega (arith, ints, conserved f Lower, changes_split (is_committed_in schema t) f t, low);
        raising = λ f.
            let high = above_is (field_at schema f).value (field_at schema f).ceiling (is_ordered schema good f).ceiling in
            omega (arith, ints, conserved f Raise, changes_split (is_committed_in schema t) f t, high);
        accepted = λ f from to k. accepted_is_given schema t sound false f k from to;
      }

-- in every front of a sound trace rights are conserved
pub conserved_throughout : (schema : SchemaValue) → IsSchema schema → (t : List Entry) → IsSound schema t → IsConservedThroughout schema t
conserved_throughout schema good [] sound = is_conserved schema good [] sound
conserved_throughout schema good (e ∷ t) sound =
    (conserved_throughout schema good t (sound_front schema e t sound), is_conserved schema good (e ∷ t) sound)
