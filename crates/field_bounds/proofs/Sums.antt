-- Sums over the numbers below a bound.
use Rattle.std.proofs.Common.{◌≡◌, ℕ, zero, suc, ◌+◌, ◌<◌, ◌≤◌, ◌≢◌, refl, sym, subst, inl, inr, arith}
use Rattle.std.proofs.lemmas.Bool.{cases_eq}
use Rattle.field_bounds.specs.Parts.{sum_below}

-- terms that agree give one sum
pub sum_below-same : (n : ℕ) (F G : ℕ → ℕ) → ((j : ℕ) → j < n → F j ≡ G j) → sum_below n F ≡ sum_below n G
sum_below-same zero F G h = refl
sum_below-same (suc n) F G h = omega (arith, h n (omega arith), sum_below-same n F G (λ j below. h j (omega arith)))

-- no term is less
pub sum_below-mono : (n : ℕ) (F G : ℕ → ℕ) → ((j : ℕ) → F j ≤ G j) → sum_below n F ≤ sum_below n G
sum_below-mono zero F G h = omega arith
sum_below-mono (suc n) F G h = omega (arith, h n, sum_below-mono n F G h)

-- a sum of sums
pub sum_below-add : (n : ℕ) (F G : ℕ → ℕ) → sum_below n (λ j. F j + G j) ≡ sum_below n F + sum_below n G
sum_below-add zero F G = refl
sum_below-add (suc n) F G = omega (arith, sum_below-add n F G)

-- nothing adds up to nothing
pub sum_below-zero : (n : ℕ) → sum_below n (λ j. 0) ≡ 0
sum_below-zero zero = refl
sum_below-zero (suc n) = omega (arith, sum_below-zero n)

-- one term is greater by x, and no other differs
pub sum_below_bump : (n : ℕ) (F G : ℕ → ℕ) (i x : ℕ) → i < n → G i ≡ F i + x → ((j : ℕ) → j ≢ i → G j ≡ F j)
    → sum_below n G ≡ sum_below n F + x
sum_below_bump zero F G i x below at rest = absurd (omega arith)
sum_below_bump (suc n) F G i x below at rest =
    elim (cases_eq n i) [
      | inl same ↦
          let at_n : G n ≡ F n + x = subst (λ (j : ℕ). G j ≡ F j + x) (sym same) at in
          omega (arith, at_n, sum_below-same n G F (λ j less. rest j (λ e. omega (arith, e, same, less))))
      | inr apart ↦ omega (arith, rest n apart, sum_below_bump n F G i x (omega (arith, below)) at rest)
    ]

-- a term is no more than the sum
pub term_below : (n : ℕ) (F : ℕ → ℕ) (i : ℕ) → i < n → F i ≤ sum_below n F
term_below zero F i below = absurd (omega arith)
term_below (suc n) F i below =
    elim (cases_eq n i) [
      | inl same ↦ subst (λ (j : ℕ). F j ≤ sum_below n F + F n) same (omega arith)
      | inr apart ↦ omega (arith, term_below n F i (omega (arith, below)))
    ]

-- a sum of sums, taken the other way round
pub sum_below-swap : (m n : ℕ) (F : ℕ → ℕ → ℕ) → sum_below m (λ i. sum_below n (λ j. F i j)) ≡ sum_below n (λ j. sum_below m (λ i. F i j))
sum_below-swap zero n F = sym (sum_below-zero n)
sum_below-swap (suc m) n F =
    omega (arith, sum_below-swap m n F, sum_below-add n (λ j. sum_below m (λ i. F i j)) (λ j. F m j))
