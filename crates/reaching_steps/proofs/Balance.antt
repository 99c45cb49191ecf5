-- Where nothing is open at the other sites and nothing is in flight, what lies between the committed value and an end of
-- the named site's interval is what the other sites have free.
use Rattle.std.proofs.Common.{◌≡◌, ℕ, zero, suc, ◌+◌, ◌-◌, ◌<◌, ◌≤◌, ◌≢◌, Bool, false, cond, List, [], ◌∷◌, refl, sym, ◌∙◌, ap, inl, inr, arith, eqb}
use Rattle.std.proofs.lemmas.Bool.{cases_eq, eq-eqb, ne_eqb}
use Rattle.std.proofs.lemmas.Int.{ints}
use Rattle.std.specs.Prelude.{pos, ◌+ℤ◌, ◌-ℤ◌, ◌≤ℤ◌, neg_ℤ, slice_index_or}
use Rattle.std.specs.List.{AllByRecursion}
use Rattle.field_bounds.specs.declared.kind.Kind.{Kind}
use Rattle.field_bounds.specs.declared.kind.Kind.TheVariants.{Lower, Raise}
use Rattle.field_bounds.specs.declared.entry.Entry.{Entry}
use Rattle.field_bounds.specs.Schema.{FieldValue, SchemaValue}
use Rattle.field_bounds.specs.Limits.{IsField, IsSchema, max_quantity}
use Rattle.field_bounds.specs.Parts.{no_field, field_at, sum_below}
use Rattle.field_bounds.specs.declared.effect.Effect.{Effect}
use Rattle.field_bounds.specs.Effects.{Base, is_open, share, held_rights, own_rights, fresh}
use Rattle.field_bounds.specs.Owed.{max_change}
use Rattle.field_bounds.specs.Central.{at_site, committed_value, cuts, shares, in_flight, is_open_in, open_sizes, given_between, accepted_between, IsSound, IsConserved}
use Rattle.field_bounds.proofs.Sums.{sum_below-same, sum_below-zero, sum_below_bump, term_below}
use Rattle.field_bounds.proofs.Lawful.{IsLawful}
use Rattle.field_bounds.proofs.Steps.{granted-same}
use Rattle.field_bounds.proofs.Conserved.{is_conserved, traced, open_of, free_of, lawful_at}
use Rattle.reaching_steps.proofs.Sites.{NoneOpen, open_shut}
use Rattle.reaching_steps.proofs.Passing.{Arrived}
use Rattle.reaching_steps.proofs.Standings.{granted_none}

-- ---- sums

pub sum_nothing : (n : ℕ) (F : ℕ → ℕ) → ((j : ℕ) → j < n → F j ≡ 0) → sum_below n F ≡ 0
sum_nothing n F h = sum_below-same n F (λ j. 0) h ∙ sum_below-zero n

pub sum_alone : (n : ℕ) (F : ℕ → ℕ) (i : ℕ) → i < n → ((j : ℕ) → j < n → j ≢ i → F j ≡ 0) → sum_below n F ≡ F i
sum_alone zero F i below h = absurd (omega (arith, below))
sum_alone (suc n) F i below h =
    elim (cases_eq n i) [
      | inl same ↦
          let at : F n ≡ F i = ap F same in
          omega (arith, at, sum_nothing n F (λ j less. h j (omega (arith, less)) (λ e. omega (arith, e, same, less))))
      | inr apart ↦ omega (
        arith,
        h n (omega arith) apart,
        sum_alone n F i (omega (arith, below, apart)) (λ j less other. h j (omega (arith, less)) other),
      )
    ]

-- all but one
abbrev pub but : ℕ → (ℕ → ℕ) → ℕ → ℕ
but i F j = cond (eqb j i) 0 (F j)

pub but_there : (i : ℕ) (F : ℕ → ℕ) (j : ℕ) → j ≢ i → but i F j ≡ F j
but_there i F j apart = ap (λ (b : Bool). cond b 0 (F j)) (ne_eqb j i apart)

pub but_here : (i : ℕ) (F : ℕ → ℕ) → but i F i ≡ 0
but_here i F = ap (λ (b : Bool). cond b 0 (F i)) (eq-eqb i i refl)

pub sum_but : (n : ℕ) (F : ℕ → ℕ) (i : ℕ) → i < n → sum_below n F ≡ sum_below n (but i F) + F i
sum_but n F i below =
    sum_below_bump n (but i F) F i (F i) below (omega (arith, but_here i F)) (λ j apart. sym (but_there i F j apart))

-- ---- no right is held where nothing is open

pub none_held : (schema : SchemaValue) (base : Base) (es : List Effect) → IsLawful schema base es → NoneOpen es → (f : ℕ) (k : Kind)
    → held_rights f k es ≡ 0
none_held schema base es lawful none f k =
    granted-same schema base (λ id. is_open id es) (λ _. false) f k es lawful (open_shut es none) ∙ granted_none f k es

-- ---- the bounds of a field

pub record IsNear (f : FieldValue) : Type 0 where
  pub least : neg_ℤ (pos max_quantity) ≤ℤ f.floor
  pub most : f.ceiling ≤ℤ pos max_quantity

pub all_near : (fs : List FieldValue) → AllByRecursion IsField fs → (f : ℕ) → IsNear (slice_index_or fs f no_field)
all_near [] each f = record { least = omega (arith, ints); most = omega (arith, ints) }
all_near (x ∷ fs) each zero = record { least = each.0.least; most = each.0.most }
all_near (x ∷ fs) each (suc f) = all_near fs each.1 f

-- ---- the balance

module _ (schema : SchemaValue) (good : IsSchema schema) (t : List Entry) (sound : IsSound schema t) (f : ℕ) where
  law : IsConserved schema t
  law = is_conserved schema good t sound

  -- what the sites have free, hold and have given up of a kind is within the greatest change, and so is each share
  pub all_small : (k : Kind) → shares schema t f k + open_sizes schema t f k + cuts schema t f k ≤ max_change
  all_small Lower = let near = all_near schema.fields good.each f in
      omega (arith, ints, law.lowering f, law.raising f, near.least, near.most)
  all_small Raise = let near = all_near schema.fields good.each f in
      omega (arith, ints, law.lowering f, law.raising f, near.least, near.most)

  pub share_small : (s : ℕ) (k : Kind) → s < schema.sites → share (fresh schema s) f k (at_site schema t s) ≤ max_change
  share_small s k below = omega (arith, all_small k, term_below schema.sites (free_of schema good t sound f k) s below)

  module _ (named : ℕ) (named_in : named < schema.sites)
      (uncut : (k : Kind) → cuts schema t f k ≡ 0)
      (quiet : (s : ℕ) → s < schema.sites → s ≢ named → NoneOpen (at_site schema t s))
      (arrived : (from to : ℕ) (k : Kind) → from < schema.sites → to < schema.sites → Arrived schema named f t from to k) where
    nothing_flies : (k : Kind) → in_flight schema t f k ≡ 0
    nothing_flies k =
        sum_nothing schema.sites (λ from. sum_below schema.sites
        (λ to. given_between schema t f k from to - accepted_between schema t f k from to))
        (λ from below. sum_nothing schema.sites (λ to. given_between schema t f k from to - accepted_between schema t f k from to)
        (λ to small. omega (arith, arrived from to k below small)))

    only_mine : (k : Kind) → open_sizes schema t f k ≡ held_rights f k (at_site schema t named)
    only_mine k =
        traced schema good t sound (is_open_in schema t) f k
        ∙ sum_alone schema.sites (open_of schema good t sound f k) named named_in
        (λ s below apart. none_held schema (fresh schema s) (at_site schema t s) (lawful_at schema good t sound s below)
        (quiet s below apart) f k)

    abbrev pub others : Kind → ℕ → ℕ
    others k = but named (λ s. share (fresh schema s) f k (at_site schema t s))

    all_shares : (k : Kind) → shares schema t f k ≡ sum_below schema.sites (others k)
        + share (fresh schema named) f k (at_site schema t named)
    all_shares k = sum_but schema.sites (λ s. share (fresh schema s) f k (at_site schema t s)) named named_in

    pub below_is : committed_value schema t f ≡ ((field_at schema f).floor +ℤ pos
        (own_rights (fresh schema named) f Lower (at_site schema t named))) +ℤ pos (sum_below schema.sites (others Lower))
    below_is = omega (arith, ints, law.lowering f, uncut Lower, nothing_flies Lower, only_mine Lower, all_shares Lower)

    pub above_is : committed_value schema t f +ℤ pos (sum_below schema.sites (others Raise))
        ≡ ((field_at schema f).ceiling -ℤ pos (own_rights (fresh schema named) f Raise (at_site schema t named)))
    above_is = omega (arith, ints, law.raising f, uncut Raise, nothing_flies Raise, only_mine Raise, all_shares Raise)
