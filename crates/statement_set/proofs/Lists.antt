-- What lies at a place of a list that was changed at one place, or made longer, and what a search finds in one that rises.
use Rattle.std.proofs.Common.{ℕ, ◌≡◌, ◌<◌, ◌≤◌, ◌+◌, ◌-◌, ◌*◌, ◌/◌, ◌%◌, suc, zero, List, [], ◌∷◌, ◌++◌, length, get_or, set, Some, ◌⊎◌, inl, inr, refl, sym, ap, ◌∙◌, subst, arith, IsTrue, ◌↔◌, Contains, nat_cmp}
use Rattle.std.specs.Prelude.{Result, Ok, Err, is_ok}
use Rattle.std.specs.Result.{MatchResult}
use Rattle.std.specs.List.{slice_get}
use Rattle.std.specs.List.Sorted.{IsBinarySearchResult}
use Rattle.std.proofs.lemmas.List.Sorted.{searched}
use Rattle.std.proofs.lemmas.Grind.{get_or_default_zero}
use Rattle.statement_set.specs.Rows.{Rises}
use Rattle.std.proofs.lemmas.Option.{same_Some, none-some, slice_get_within, slice_get-get_or, get_or_from_slice_get}
use Rattle.std.proofs.lemmas.List.{get_or-append-add, length-append}
use Rattle.std.proofs.lemmas.Bool.{cases_lt}
use Rattle.std.proofs.lemmas.Nat.{mod_below}
use Rattle.std.proofs.Math.Nat.{mod-add-div', add-mul-mod_self_right, mod-eq_of_lt, add-mod_left, mul-add, add-mul}

-- at a place of a list with one element put
pub set_cases : {X : Type 0} (xs : List X) (i j : ℕ) (a y : X) → slice_get (set xs i a) j ≡ Some y
    → ((i ≡ j) × (a ≡ y)) ⊎ (slice_get xs j ≡ Some y)
set_cases [] i j a y at = inr at
set_cases (x ∷ xs) zero zero a y at = inl (refl, same_Some a y at)
set_cases (x ∷ xs) zero (suc j) a y at = inr at
set_cases (x ∷ xs) (suc i) zero a y at = inr at
set_cases (x ∷ xs) (suc i) (suc j) a y at =
    elim (set_cases xs i j a y at) [ inl put ↦ inl (ap suc put.0, put.1) | inr was ↦ inr was ]

pub set_there : {X : Type 0} (xs : List X) (i : ℕ) (a : X) → i < length xs → slice_get (set xs i a) i ≡ Some a
set_there [] i a in' = absurd (omega (arith, in'))
set_there (x ∷ xs) zero a in' = refl
set_there (x ∷ xs) (suc i) a in' = set_there xs i a (omega (arith, in'))

pub set_elsewhere : {X : Type 0} (xs : List X) (i j : ℕ) (a : X) → (j ≡ i → ⊥) → slice_get (set xs i a) j ≡ slice_get xs j
set_elsewhere [] i j a apart = refl
set_elsewhere (x ∷ xs) zero zero a apart = absurd (apart refl)
set_elsewhere (x ∷ xs) zero (suc j) a apart = refl
set_elsewhere (x ∷ xs) (suc i) zero a apart = refl
set_elsewhere (x ∷ xs) (suc i) (suc j) a apart = set_elsewhere xs i j a (λ same. apart (ap suc same))

-- at a place of a list with one element more
pub push_cases : {X : Type 0} (xs : List X) (j : ℕ) (a y : X) → slice_get (xs ++ a ∷ []) j ≡ Some y
    → ((j ≡ length xs) × (a ≡ y)) ⊎ (slice_get xs j ≡ Some y)
push_cases [] zero a y at = inl (refl, same_Some a y at)
push_cases [] (suc j) a y at = absurd (none-some y at)
push_cases (x ∷ xs) zero a y at = inr at
push_cases (x ∷ xs) (suc j) a y at =
    elim (push_cases xs j a y at) [ inl put ↦ inl (ap suc put.0, put.1) | inr was ↦ inr was ]

pub push_there : {X : Type 0} (xs : List X) (a : X) → slice_get (xs ++ a ∷ []) (length xs) ≡ Some a
push_there [] a = refl
push_there (x ∷ xs) a = push_there xs a

-- a list twice, one behind the other
front_of : {X : Type 0} (xs ys : List X) (i : ℕ) (y : X) → slice_get xs i ≡ Some y → slice_get (xs ++ ys) i ≡ Some y
front_of [] ys i y at = absurd (none-some y at)
front_of (x ∷ xs) ys zero y at = at
front_of (x ∷ xs) ys (suc i) y at = front_of xs ys i y at

behind : {X : Type 0} (xs ys : List X) (i : ℕ) (y : X) → slice_get ys i ≡ Some y → slice_get (xs ++ ys) (length xs + i) ≡ Some y
behind xs ys i y at =
    let within = slice_get_within ys i y at in
    slice_get-get_or (xs ++ ys) (length xs + i) y (omega (arith, within, length-append xs ys))
    ∙ ap (λ (x : _). Some x) (get_or-append-add xs ys i y ∙ get_or_from_slice_get ys i y y at)

-- the remainder by a number is the one by its double, or that number less
halved : (x n : ℕ) → x % (n + n) % n ≡ x % n
halved x n =
    let d = x / (n + n) in
    let q = x % (n + n) in
    let whole : q + (d + d) * n ≡ x = ap (λ (m : ℕ). q + m) (add-mul d d n ∙ sym (mul-add d n n)) ∙ mod-add-div' x (n + n) in
    sym (add-mul-mod_self_right q (d + d) n) ∙ ap (λ (m : ℕ). m % n) whole

twice_at : {X : Type 0} (xs : List X) (q j : ℕ) (y : X) → q < length xs + length xs → q % length xs ≡ j → j < length xs
    → slice_get xs j ≡ Some y → slice_get (xs ++ xs) q ≡ Some y
twice_at xs q j y below is within at =
    elim (cases_lt q (length xs)) [
      | inl low ↦ front_of xs xs q y (subst (λ (i : ℕ). slice_get xs i ≡ Some y) (sym is ∙ mod-eq_of_lt low) at)
      | inr high ↦
          let k = q - length xs in
          let split : length xs + k ≡ q = omega (arith, high) in
          let same : k ≡ j =
          sym (mod-eq_of_lt (omega (arith, high, below))) ∙ sym (add-mod_left (length xs) k) ∙ ap (λ (m : ℕ). m % length xs) split ∙ is in
          subst (λ (i : ℕ). slice_get (xs ++ xs) i ≡ Some y) split
          (behind xs xs k y (subst (λ (i : ℕ). slice_get xs i ≡ Some y) (sym same) at))
    ]

pub twice_there : {X : Type 0} (xs : List X) (x : ℕ) (y : X) → slice_get xs (x % length xs) ≡ Some y
    → slice_get (xs ++ xs) (x % length (xs ++ xs)) ≡ Some y
twice_there xs x y at =
    let n = length xs in
    let within = slice_get_within xs (x % n) y at in
    subst (λ (m : ℕ). slice_get (xs ++ xs) (x % m) ≡ Some y) (sym (length-append xs xs))
    (twice_at xs (x % (n + n)) (x % n) y (mod_below x (n + n) (omega (arith, within))) (halved x n) within at)

-- what a search finds among totals that rise
found_is : (xs : List ℕ) (x : ℕ) (r : Result ℕ ℕ)
    → MatchResult r (λ i. (i < length xs) × (get_or xs i 0 ≡ x))
    (λ i. (i ≤ length xs) × ((k : ℕ) → k < i → get_or xs k 0 < x) × ((k : ℕ) → i ≤ k → k < length xs → x < get_or xs k 0))
    → IsTrue (is_ok r) ↔ Contains xs x
found_is xs x (Ok i) at = (λ _. (i, at.0, get_or_default_zero xs i x at.0 ∙ at.1), λ _. refl)
found_is xs x (Err i) at = (
  λ no. cc,
  λ has.
      let is = sym (get_or_default_zero xs has.0 x has.1) ∙ has.2 in
      elim (cases_lt has.0 i) [
        | inl low ↦ let less = at.1 has.0 low in absurd (omega (arith, less, is))
        | inr high ↦ let more = at.2 has.0 high has.1 in absurd (omega (arith, more, is))
      ],
)

pub found_by_search : (xs : List ℕ) (x : ℕ) (r : Result ℕ ℕ) → Rises xs → IsBinarySearchResult (λ y. nat_cmp y x) xs r
    → IsTrue (is_ok r) ↔ Contains xs x
found_by_search xs x r rises found = found_is xs x r (searched xs x r found rises)
