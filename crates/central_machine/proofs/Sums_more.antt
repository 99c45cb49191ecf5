-- The sums of the fields, when the next entry is taken in.
use Rattle.std.proofs.Common.{◌≡◌, ℕ, ◌+◌, ◌-◌, ◌<◌, ◌≤◌, List, ◌∷◌, length, ◌∙◌, ap, arith}
use Rattle.std.proofs.lemmas.Int.{ints}
use Rattle.std.specs.Prelude.{pos, ◌+ℤ◌, ◌-ℤ◌}
use Rattle.field_bounds.specs.declared.kind.Kind.{Kind}
use Rattle.field_bounds.specs.declared.kind.Kind.TheVariants.{Lower, Raise}
use Rattle.field_bounds.specs.declared.effect.Effect.{Effect}
use Rattle.field_bounds.specs.declared.effect.Effect.TheVariants.{Begins, Grants, Commits, Aborts, Gives, Accepts, Stops}
use Rattle.field_bounds.specs.declared.entry.Entry.{Entry}
use Rattle.field_bounds.specs.Kind.{other}
use Rattle.field_bounds.specs.Schema.{SchemaValue}
use Rattle.field_bounds.specs.Limits.{IsSchema}
use Rattle.field_bounds.specs.Parts.{field_at}
use Rattle.field_bounds.specs.Effects.{fresh, held_rights, cut}
use Rattle.field_bounds.specs.Central.{at_site, committed_value, open_sizes, cuts, IsSound}
use Rattle.field_bounds.proofs.Lawful.{IsLawful}
use Rattle.field_bounds.proofs.Headline.{within_bounds}
use Rattle.field_bounds.proofs.Traces.{sound_front}
use Rattle.central_machine.specs.declared.field_sums.FieldSums.{FieldSums}
use Rattle.central_machine.specs.FieldAmounts.{amount, has_slot, capped_sum}
use Rattle.central_machine.specs.Sums.{AreSums}
use Rattle.central_machine.proofs.Small.{all_narrow}
use Rattle.central_machine.proofs.Moves.{committed_sizes, opened_by, closed_by, committed_by, given_up_by, held_moves, committed_moves, cut_moves, open_moves, held_in_open, cuts_more, committed_more}

-- how an entry moves the sums of a field
pub record Shifts (schema : SchemaValue) (e : Entry) (t : List Entry) (f : ℕ) (opened closed committed given : Kind → ℕ) : Type 0 where
  pub opens : (k : Kind) → open_sizes schema (e ∷ t) f k + closed k ≡ open_sizes schema t f k + opened k
  pub closes : (k : Kind) → closed k ≤ open_sizes schema t f k
  pub commits : (k : Kind) → committed k ≤ open_sizes schema t f k
  pub value : committed_value schema (e ∷ t) f ≡ (committed_value schema t f +ℤ (pos (committed Raise) -ℤ pos (committed Lower)))
  pub cuts : (k : Kind) → cuts schema (e ∷ t) f k ≡ cuts schema t f k + given k

module _ (schema : SchemaValue) (good : IsSchema schema) (e : Entry) (t : List Entry) (sound : IsSound schema (e ∷ t)) (f : ℕ) where
  -- how one effect moves them
  pub by_effect : (d : Effect) → IsLawful schema (fresh schema e.site.0) (d ∷ at_site schema t e.site.0)
      → at_site schema (e ∷ t) e.site.0 ≡ d ∷ at_site schema t e.site.0
      → Shifts schema e t f (λ k. opened_by f k d) (λ k. closed_by f k (at_site schema t e.site.0) d)
      (λ k. committed_by f k (at_site schema t e.site.0) d) (λ k. given_up_by f k d)
  by_effect d lawful is =
      let base = fresh schema e.site.0 in
      let es = at_site schema t e.site.0 in
      let held : (k : Kind) → held_rights f k (at_site schema (e ∷ t) e.site.0) + closed_by f k es d ≡ held_rights f k es + opened_by f k d =
      λ k. ap (λ (x : List Effect). held_rights f k x + closed_by f k es d) is ∙ held_moves schema base es f k d lawful in
      let told : (k : Kind) → committed_sizes f k (at_site schema (e ∷ t) e.site.0) ≡ committed_sizes f k es + committed_by f k es d =
      λ k. ap (λ (x : List Effect). committed_sizes f k x) is ∙ committed_moves schema base es f k d lawful in
      let ended : (k : Kind) → (closed_by f k es d ≤ held_rights f k es) × (committed_by f k es d ≤ held_rights f k es) =
      λ k. fits d k (held_moves schema base es f k d lawful) in
      record {
        opens = λ k. open_moves schema e t sound f k (closed_by f k es d) (opened_by f k d) (held k);
        closes = λ k. omega (arith, (ended k).0, held_in_open schema e t sound f k);
        commits = λ k. omega (arith, (ended k).1, held_in_open schema e t sound f k);
        value = committed_more schema e t sound f (committed_by f Raise es d) (committed_by f Lower es d) (told Raise) (told Lower);
        cuts = λ k. cuts_more schema e t sound f k (given_up_by f k d)
            (ap (λ (x : List Effect). cut base f k x) is ∙ cut_moves schema base es f k d);
      }
    where
      fits : (d : Effect) (k : Kind) → held_rights f k (d ∷ at_site schema t e.site.0) + closed_by f k (at_site schema t e.site.0) d
          ≡ held_rights f k (at_site schema t e.site.0) + opened_by f k d
          → (closed_by f k (at_site schema t e.site.0) d ≤ held_rights f k (at_site schema t e.site.0))
          × (committed_by f k (at_site schema t e.site.0) d ≤ held_rights f k (at_site schema t e.site.0))
      fits (Begins txn) k h = (omega arith, omega arith)
      fits (Grants txn field change) k h = (omega arith, omega arith)
      fits (Commits txn) k h = (omega (arith, h), omega (arith, h))
      fits (Aborts txn) k h = (omega (arith, h), omega arith)
      fits (Gives to field kind amount) k h = (omega arith, omega arith)
      fits (Accepts from field kind total) k h = (omega arith, omega arith)
      fits Stops k h = (omega arith, omega arith)

  front_sound : IsSound schema t
  front_sound = sound_front schema e t sound

  module _ (opened closed committed given : Kind → ℕ) (is : Shifts schema e t f opened closed committed given) where
    pub low_more : (a b : ℕ) → ((field_at schema f).floor +ℤ pos a) ≡ committed_value schema t f
        → b ≡ capped_sum (a + committed Raise) - committed Lower
        → ((field_at schema f).floor +ℤ pos b) ≡ committed_value schema (e ∷ t) f
    low_more a b was now = omega (
      arith,
      ints,
      was,
      now,
      is.value,
      is.commits Raise,
      is.commits Lower,
      (within_bounds schema good t front_sound f).0,
      (within_bounds schema good t front_sound f).1,
      (within_bounds schema good (e ∷ t) sound f).0,
      (all_narrow schema.fields good.each f).width,
    )

    pub high_more : (a b : ℕ) → (committed_value schema t f +ℤ pos a) ≡ (field_at schema f).ceiling
        → b ≡ capped_sum (a + committed Lower) - committed Raise
        → (committed_value schema (e ∷ t) f +ℤ pos b) ≡ (field_at schema f).ceiling
    high_more a b was now = omega (
      arith,
      ints,
      was,
      now,
      is.value,
      is.commits Raise,
      is.commits Lower,
      (within_bounds schema good t front_sound f).0,
      (within_bounds schema good t front_sound f).1,
      (within_bounds schema good (e ∷ t) sound f).1,
      (all_narrow schema.fields good.each f).width,
    )

    open_small : (k : Kind) → open_sizes schema (e ∷ t) f k ≤ 2_000_000_000_000_000
    open_small k =
        let b = within_bounds schema good (e ∷ t) sound f in
        let w = (all_narrow schema.fields good.each f).width in
        elim k as (λ j. open_sizes schema (e ∷ t) f j ≤ 2_000_000_000_000_000)
        [ Lower ↦ omega (arith, ints, b.0, b.1, w) | Raise ↦ omega (arith, ints, b.0, b.1, w) ]

    open_fits : (k : Kind) → open_sizes schema t f k ≤ 2_000_000_000_000_000
    open_fits k =
        let b = within_bounds schema good t front_sound f in
        let w = (all_narrow schema.fields good.each f).width in
        elim k as (λ j. open_sizes schema t f j ≤ 2_000_000_000_000_000)
        [ Lower ↦ omega (arith, ints, b.0, b.1, w) | Raise ↦ omega (arith, ints, b.0, b.1, w) ]

    pub aside_more : (k : Kind) (a b : ℕ) → a ≡ open_sizes schema t f k → b ≡ capped_sum (a + opened k) - closed k
        → b ≡ open_sizes schema (e ∷ t) f k
    aside_more k a b was now = omega (arith, was, now, is.opens k, is.closes k, open_small k, open_fits k)

    cut_small : (k : Kind) → cuts schema (e ∷ t) f k ≤ 2_000_000_000_000_000
    cut_small k =
        let b = within_bounds schema good (e ∷ t) sound f in
        let w = (all_narrow schema.fields good.each f).width in
        elim k as (λ j. cuts schema (e ∷ t) f j ≤ 2_000_000_000_000_000)
        [ Lower ↦ omega (arith, ints, b.0, b.1, w) | Raise ↦ omega (arith, ints, b.0, b.1, w) ]

    pub cut_more : (k : Kind) (a b : ℕ) → a ≡ cuts schema t f k → b ≡ capped_sum (a + given k) → b ≡ cuts schema (e ∷ t) f k
    cut_more k a b was now = omega (arith, was, now, is.cuts k, cut_small k)

-- the sums, each moved so
pub record Moved (schema : SchemaValue) (n m : FieldSums) (opened closed committed given : ℕ → Kind → ℕ) : Type 0 where
  pub room_places : (g : ℕ) → has_slot m.room g ≡ has_slot n.room g
  pub aside_places : (g : ℕ) → has_slot m.aside g ≡ has_slot n.aside g
  pub cut_places : (g : ℕ) → has_slot m.cut g ≡ has_slot n.cut g
  pub room : (f : ℕ) (k : Kind) → f < length schema.fields → amount m.room f k ≡ capped_sum (amount n.room f k + committed f (other k)) - committed f k
  pub aside : (f : ℕ) (k : Kind) → f < length schema.fields → amount m.aside f k ≡ capped_sum (amount n.aside f k + opened f k) - closed f k
  pub cut : (f : ℕ) (k : Kind) → f < length schema.fields → amount m.cut f k ≡ capped_sum (amount n.cut f k + given f k)

-- so they are those of the front with the entry
pub sums_moved : (schema : SchemaValue) → IsSchema schema → (e : Entry) (t : List Entry) → IsSound schema (e ∷ t)
    → (n m : FieldSums) (opened closed committed given : ℕ → Kind → ℕ)
    → ((f : ℕ) → f < length schema.fields → Shifts schema e t f (opened f) (closed f) (committed f) (given f))
    → Moved schema n m opened closed committed given → AreSums schema t n → AreSums schema (e ∷ t) m
sums_moved schema good e t sound n m opened closed committed given shifts took is = record {
  room_in = λ f l. took.room_places f ∙ is.room_in f l;
  aside_in = λ f l. took.aside_places f ∙ is.aside_in f l;
  cut_in = λ f l. took.cut_places f ∙ is.cut_in f l;
  low = λ f l. low_more schema good e t sound f (opened f) (closed f) (committed f) (given f) (shifts f l)
      (amount n.room f Lower) (amount m.room f Lower) (is.low f l) (took.room f Lower l);
  high = λ f l. high_more schema good e t sound f (opened f) (closed f) (committed f) (given f) (shifts f l)
      (amount n.room f Raise) (amount m.room f Raise) (is.high f l) (took.room f Raise l);
  aside = λ f k l. aside_more schema good e t sound f (opened f) (closed f) (committed f) (given f) (shifts f l) k
      (amount n.aside f k) (amount m.aside f k) (is.aside f k l) (took.aside f k l);
  cut = λ f k l. cut_more schema good e t sound f (opened f) (closed f) (committed f) (given f) (shifts f l) k
      (amount n.cut f k) (amount m.cut f k) (is.cut f k l) (took.cut f k l);
}
