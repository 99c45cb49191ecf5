-- What holds of each element of a list, with one element more.
use Rattle.std.proofs.Common.{◌≡◌, ℕ, ◌<◌, ◌≤◌, ◌+◌, List, [], ◌∷◌, ◌++◌, length, get_or, sym, ap, subst, ◌∙◌, inl, inr, arith}
use Rattle.std.proofs.lemmas.Bool.{cases_lt}
use Rattle.std.proofs.lemmas.List.{get_or_default, get_or_append_left}
use Rattle.std.proofs.Math.Seq.{get_or-append_seam}

last_is : {A : Type 0} (xs : List A) (n : ℕ) (x d : A) → length xs ≡ n → get_or (xs ++ x ∷ []) n d ≡ x
last_is xs n x d count = ap (λ (m : ℕ). get_or (xs ++ x ∷ []) m d) (sym count) ∙ get_or-append_seam xs x [] d

same_place : (k i : ℕ) → k < i + 1 → i ≤ k → k ≡ i
same_place k i less least = omega (arith, less, least)

-- the next element of a list that is gone through
pub below_more : {A : Type 0} (P : A → Type 0) (xs : List A) (i : ℕ) (x : A) → x ≡ get_or xs i x → i < length xs → P x
    → ((k : ℕ) (d : A) → k < i → P (get_or xs k d)) → (k : ℕ) (d : A) → k < i + 1 → P (get_or xs k d)
below_more P xs i x is within here below k d less =
    elim (cases_lt k i) [
      | inl before ↦ below k d before
      | inr least ↦ subst P
          (is ∙ get_or_default xs i x d within ∙ ap (λ (m : ℕ). get_or xs m d) (sym (same_place k i less least))) here
    ]

-- a new element behind the others
pub push_each : {A : Type 0} (P : ℕ → A → Type 0) (xs : List A) (n : ℕ) (x : A) → length xs ≡ n
    → ((k : ℕ) (d : A) → k < n → P k (get_or xs k d)) → P n x → (k : ℕ) (d : A) → k < n + 1 → P k (get_or (xs ++ x ∷ []) k d)
push_each P xs n x count below here k d less =
    elim (cases_lt k n) [
      | inl before ↦ subst (P k) (sym (get_or_append_left xs (x ∷ []) d k (omega (arith, before, count)))) (below k d before)
      | inr least ↦ subst (λ (m : ℕ). P m (get_or (xs ++ x ∷ []) m d)) (sym (same_place k n less least))
          (subst (P n) (sym (last_is xs n x d count)) here)
    ]
