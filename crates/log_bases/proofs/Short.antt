-- The site that is found short of something.
use Rattle.std.proofs.Common.{◌≡◌, ℕ, zero, suc, ◌≤◌, ◌<◌, Bool, true, false, cond, refl, subst, arith}
use Rattle.std.specs.Prelude.{nat_lt, Some, None}
use Rattle.std.proofs.lemmas.Bool.{ltb-true, ltb-false}
use Rattle.field_bounds.specs.Parts.{sum_below}
use Rattle.log_bases.specs.Pasts.{short_at}

-- which is one, and short
pub short_found : (n : ℕ) (F G : ℕ → ℕ) (i : ℕ) → short_at n F G ≡ Some i → (i < n) × (F i < G i)
short_found zero F G i e = cc
short_found (suc n) F G i e = by (λ same. short_found n F G i same) (nat_lt (F n) (G n)) refl e
  where
    by : (short_at n F G ≡ Some i → (i < n) × (F i < G i)) → (b : Bool) → nat_lt (F n) (G n) ≡ b
        → cond b (Some n) (short_at n F G) ≡ Some i → (i < suc n) × (F i < G i)
    by before true less same =
        let here : n ≡ i = cc in
        (omega (arith, here), subst (λ (x : ℕ). F x < G x) here (ltb-true _ _ less))
    by before false not_less same =
        let rest = before same in
        (omega (arith, rest.0), rest.1)

-- and where none is found, the sum isn't short
pub short_none : (n : ℕ) (F G : ℕ → ℕ) → short_at n F G ≡ None → sum_below n G ≤ sum_below n F
short_none zero F G e = omega arith
short_none (suc n) F G e = by (λ same. short_none n F G same) (nat_lt (F n) (G n)) refl e
  where
    by : (short_at n F G ≡ None → sum_below n G ≤ sum_below n F) → (b : Bool) → nat_lt (F n) (G n) ≡ b
        → cond b (Some n) (short_at n F G) ≡ None → sum_below (suc n) G ≤ sum_below (suc n) F
    by before true less same = cc
    by before false not_less same = omega (arith, ltb-false _ _ not_less, before same)
