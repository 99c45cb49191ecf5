-- A list with one element more.
use Rattle.std.proofs.Common.{◌≡◌, ℕ, zero, suc, ◌<◌, List, [], ◌∷◌, ◌++◌, length, Some, refl, subst, arith}
use Rattle.std.specs.List.{slice_get}

pub slice_get_before : {X : Type 0} (xs : List X) (x : X) (i : ℕ) → i < length xs → slice_get (xs ++ x ∷ []) i ≡ slice_get xs i
slice_get_before [] x i below = absurd (omega (arith, below))
slice_get_before (y ∷ xs) x zero below = refl
slice_get_before (y ∷ xs) x (suc i) below = slice_get_before xs x i (omega (arith, below))

pub slice_get_last : {X : Type 0} (xs : List X) (x : X) (n : ℕ) → length xs ≡ n → slice_get (xs ++ x ∷ []) n ≡ Some x
slice_get_last [] x n is = let none : 0 ≡ n = is in subst (λ (i : ℕ). slice_get (x ∷ []) i ≡ Some x) none refl
slice_get_last (y ∷ xs) x zero is = absurd (omega (arith, is))
slice_get_last (y ∷ xs) x (suc n) is = slice_get_last xs x n (omega (arith, is))
