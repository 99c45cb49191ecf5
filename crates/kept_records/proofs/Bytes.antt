-- Bytes in which one byte doesn't stand, and the first place of a byte.
use Rattle.std.proofs.Common.{◌≡◌, ℕ, zero, suc, ◌+◌, ◌<◌, ◌≤◌, Bool, true, false, not, cond, eqb, ltb, List, [], ◌∷◌, ◌++◌, length, get_or, take, drop, Some, None, refl, sym, ap, ◌∙◌, arith}
use Rattle.std.specs.List.{position, position_or_len, list_any, join_with_byte, AllByRecursion}
use Rattle.std.proofs.lemmas.List.Quantifiers.{position-Some}
use Rattle.std.proofs.lemmas.List.Folds.{list_any_none}
use Rattle.std.proofs.lemmas.List.Elements.{All-from_get_or}
use Rattle.std.proofs.lemmas.List.Sums.{prefix_len_passes}
use Rattle.std.proofs.lemmas.List.{take-append-drop, drop_more}
use Rattle.std.proofs.lemmas.List.{get_or-take, length-take}
use Rattle.std.proofs.lemmas.Bool.{ltb-false, eqb-true, not-true, or_parts, or_from, or_right, eq-eqb}

-- no byte of the list is this one
abbrev pub Without : ℕ → List ℕ → Type 0
Without c xs = list_any (λ b. eqb b c) xs ≡ false

not_some : {A : Type 0} (b : Bool) (x : A) → cond b (Some x) None ≡ None → b ≡ false
not_some true x e = absurd cc
not_some false x e = refl

pub missing : (c : ℕ) (xs : List ℕ) → position (λ b. eqb b c) xs ≡ None → Without c xs
missing c xs e =
    let p : ℕ → Bool = λ b. eqb b c in
    let past : length xs ≤ position_or_len p xs = ltb-false _ _
    (not_some (ltb (position_or_len p xs) (length xs)) (position_or_len p xs) e) in
    list_any_none p xs (All-from_get_or (λ x. p x ≡ false) xs 0
    (λ i lt. not-true _ (prefix_len_passes (λ x. not (p x)) xs i 0 (omega arith))))

-- the list, cut at the first such byte
pub record Cut (c : ℕ) (xs : List ℕ) (i : ℕ) : Type 0 where
  pub within : i < length xs
  pub front : Without c (take i xs)
  pub parts : xs ≡ take i xs ++ c ∷ drop (i + 1) xs

pub found : (c : ℕ) (xs : List ℕ) (i : ℕ) → position (λ b. eqb b c) xs ≡ Some i → Cut c xs i
found c xs i e =
    let p : ℕ → Bool = λ b. eqb b c in
    let h = position-Some p xs i 0 e in
    let is : get_or xs i 0 ≡ c = eqb-true _ _ h.1 in
    record {
      within = h.0;
      front = list_any_none p (take i xs) (All-from_get_or (λ x. p x ≡ false) (take i xs) 0 (λ k lt.
          let below : k < i = omega (arith, length-take i xs) in rw (get_or-take i xs k 0 below) (h.2 k below)));
      parts = sym (take-append-drop i xs) ∙ ap (λ (l : List ℕ). take i xs ++ l)
          (drop_more xs i 0 h.0 ∙ ap (λ (x : ℕ). x ∷ drop (i + 1) xs) is);
    }

pub without_append : (c : ℕ) (xs ys : List ℕ) → Without c xs → Without c ys → Without c (xs ++ ys)
without_append c [] ys a b = b
without_append c (x ∷ xs) ys a b = let p = or_parts (eqb x c) (list_any (λ b. eqb b c) xs) a in
    or_from (eqb x c) _ p.0 (without_append c xs ys p.1 b)

pub without_take : (c k : ℕ) (xs : List ℕ) → Without c xs → Without c (take k xs)
without_take c zero xs h = refl
without_take c (suc k) [] h = refl
without_take c (suc k) (x ∷ xs) h = let p = or_parts (eqb x c) (list_any (λ b. eqb b c) xs) h in
    or_from (eqb x c) _ p.0 (without_take c k xs p.1)

-- a byte that isn't the one between the words, and stands in none of them, is not in the line
pub joined_without : (d c : ℕ) (ws : List (List ℕ)) → eqb d c ≡ false → AllByRecursion (Without c) ws → Without c (join_with_byte d ws)
joined_without d c [] apart h = refl
joined_without d c (w ∷ []) apart h = h.0
joined_without d c (w ∷ v ∷ ws) apart h = without_append c w (d ∷ join_with_byte d (v ∷ ws)) h.0
    (or_from (eqb d c) _ apart (joined_without d c (v ∷ ws) apart h.1))

pub has_it : (c : ℕ) (xs ys : List ℕ) → list_any (λ b. eqb b c) (xs ++ c ∷ ys) ≡ true
has_it c [] ys = let e : eqb c c ≡ true = eq-eqb c c refl in rw e refl
has_it c (x ∷ xs) ys = or_right (eqb x c) (list_any (λ b. eqb b c) (xs ++ c ∷ ys)) (has_it c xs ys)

-- two cuts of one list at its first such byte are one
pub record Same (a b x y : List ℕ) : Type 0 where
  pub front : a ≡ b
  pub rest : x ≡ y

pub one_cut : (c : ℕ) (a b x y : List ℕ) → Without c a → Without c b → a ++ c ∷ x ≡ b ++ c ∷ y → Same a b x y
one_cut c [] [] x y p q e = record { front = refl; rest = cc }
one_cut c [] (b ∷ bs) x y p q e = let h = or_parts (eqb b c) (list_any (λ b. eqb b c) bs) q in let is : b ≡ c = cc in
    let t : eqb b c ≡ true = eq-eqb b c is in absurd cc
one_cut c (a ∷ as1) [] x y p q e = let h = or_parts (eqb a c) (list_any (λ b. eqb b c) as1) p in let is : a ≡ c = cc in
    let t : eqb a c ≡ true = eq-eqb a c is in absurd cc
one_cut c (a ∷ as1) (b ∷ bs) x y p q e =
    let h = or_parts (eqb a c) (list_any (λ b. eqb b c) as1) p in
    let k = or_parts (eqb b c) (list_any (λ b. eqb b c) bs) q in
    let tails : as1 ++ c ∷ x ≡ bs ++ c ∷ y = cc in
    let r = one_cut c as1 bs x y h.1 k.1 tails in
    let heads : a ≡ b = cc in
    record { front = ap (λ (z : ℕ). z ∷ as1) heads ∙ ap (λ (l : List ℕ). b ∷ l) r.front; rest = r.rest }
