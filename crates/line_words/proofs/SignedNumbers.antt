-- What the reader of signed numbers reads.
use Rattle.std.proofs.Common.{◌≡◌, ℕ, suc, ◌-◌, ◌^◌, ◌<◌, ◌≤◌, Bool, true, false, cond, eqb, ltb, List, [], ◌∷◌, length, get_or, take, drop, Option, Some, None, refl, sym, ap, subst, ◌∙◌, arith, inl, inr}
use Rattle.std.specs.Prelude.{ℤ, pos, negsuc, ◌⊎◌, FitsSigned, if◌then◌else◌, ◌==◌, nat_lt}
use Rattle.std.specs.Int.{w64}
use Rattle.std.specs.Fmt.{decimal, signed_decimal}
use Rattle.std.proofs.lemmas.Bool.{eqb-true, eqb-false, eq-eqb, ltb-false, le-ltb, ne_eqb, cond-true, cond-false}
use Rattle.std.proofs.lemmas.Int.{ints}
use Rattle.std.proofs.lemmas.List.{take_all}
use Rattle.std.proofs.lemmas.Fmt.{decimal_is_IsNumeral, decimal_nonempty}
use Rattle.std.proofs.lemmas.Str.Parse.{digit_at}
use Rattle.line_words.specs.Reading.{◌>>=◌, number_of, negative_of, positive_of, signed_of}
use Rattle.line_words.proofs.Numbers.{number_takes, number_again, number_bad_start, bind_some}

-- a test that let the value through
pub guard_some : {A : Type 0} (b : Bool) (o : Option A) (y : A) → cond b None o ≡ Some y → (b ≡ false) × (o ≡ Some y)
guard_some true o y e = absurd cc
guard_some false o y e = (refl, e)

-- one of two
pub chosen : {A : Type 0} (b : Bool) (x y z : A) → cond b x y ≡ z → ((b ≡ true) × (x ≡ z)) ⊎ ((b ≡ false) × (y ≡ z))
chosen true x y z e = inl (refl, e)
chosen false x y z e = inr (refl, e)

-- the first byte is a digit
pub decimal_first : (n : ℕ) → n < 2 ^ 64 → (48 ≤ get_or (decimal n) 0 0) × (get_or (decimal n) 0 0 ≤ 57)
decimal_first n lt = digit_at (decimal n) 0 (decimal_is_IsNumeral n lt).0.1 (decimal_nonempty n lt)

abbrev pub some : {A : Type 0} → A → Option A
some x = Some x

some_is : {A : Type 0} (x y : A) → some x ≡ some y → x ≡ y
some_is x y e = cc

abbrev minus_of : ℕ → Option ℤ
minus_of n = if n == 0 then None else (if nat_lt (2 ^ 63) n then None else Some (negsuc (n - 1)))

abbrev plain_of : ℕ → Option ℤ
plain_of n = if nat_lt (2 ^ 63 - 1) n then None else Some (pos n)

pub signed_takes : (w : List ℕ) (z : ℤ) → signed_of w ≡ Some z → FitsSigned w64 z × (w ≡ signed_decimal z)
unfolding signed_of negative_of positive_of
signed_takes [] z e = absurd cc
signed_takes (c ∷ w) z e =
    elim (chosen (eqb c 45) (negative_of w) (positive_of (c ∷ w)) (Some z) e) [
      | inl h ↦
          let b = bind_some (number_of (2 ^ 64) w) minus_of z h.1 in
          let n = b.0 in
          let g = guard_some (eqb n 0) (cond (ltb (2 ^ 63) n) None (Some (negsuc (n - 1)))) z b.2 in
          let k = guard_some (ltb (2 ^ 63) n) (Some (negsuc (n - 1))) z g.1 in
          let z-is : negsuc (n - 1) ≡ z = some_is _ _ k.1 in
          let t = number_takes (2 ^ 64) w n b.1 in
          let positive : n ≡ 0 → ⊥ = eqb-false n 0 g.0 in
          let small : n ≤ 2 ^ 63 = ltb-false (2 ^ 63) n k.0 in
          let c-is : c ≡ 45 = eqb-true c 45 h.0 in
          let n-is : n ≡ suc (n - 1) = omega arith in
          let fits : FitsSigned w64 (negsuc (n - 1)) = omega (arith, ints) in (
            subst (λ (y : ℤ). FitsSigned w64 y) z-is fits,
            ap (λ (b : ℕ). b ∷ w) c-is ∙ ap (λ (l : List ℕ). 45 ∷ l) (t.1 ∙ ap decimal n-is) ∙ ap signed_decimal z-is,
          )
      | inr h ↦
          let b = bind_some (number_of (2 ^ 64) (c ∷ w)) plain_of z h.1 in
          let n = b.0 in
          let k = guard_some (ltb (2 ^ 63 - 1) n) (Some (pos n)) z b.2 in
          let z-is : pos n ≡ z = some_is _ _ k.1 in
          let t = number_takes (2 ^ 64) (c ∷ w) n b.1 in
          let small : n ≤ 2 ^ 63 - 1 = ltb-false (2 ^ 63 - 1) n k.0 in
          let fits : FitsSigned w64 (pos n) = omega (arith, ints) in
          (subst (λ (y : ℤ). FitsSigned w64 y) z-is fits, t.1 ∙ ap signed_decimal z-is)
    ]

-- a word with a minus in front, and one without
pub minus_word : (w : List ℕ) → 1 ≤ length w → get_or w 0 0 ≡ 45 → signed_of w ≡ negative_of (take (length w - 1) (drop 1 w))
unfolding signed_of
minus_word [] some e = absurd (omega arith)
minus_word (c ∷ w) some e = cond-true (eqb c 45) _ _ (eq-eqb c 45 e) ∙ ap negative_of (sym (take_all _ w (omega arith)))

pub plain_word : (w : List ℕ) → (get_or w 0 0 ≡ 45 → ⊥) → signed_of w ≡ positive_of w
unfolding signed_of positive_of
plain_word [] ne = sym (ap (λ (o : Option ℕ). o >>= plain_of) (number_bad_start (2 ^ 64) [] (omega arith) (inl refl)))
plain_word (c ∷ w) ne = cond-false (eqb c 45) _ _ (ne_eqb c 45 ne)

-- what a number spells without a sign
pub positive_is : (w : List ℕ) (n : ℕ) → number_of (2 ^ 64) w ≡ Some n → n ≤ 2 ^ 63 - 1 → positive_of w ≡ Some (pos n)
unfolding positive_of
positive_is w n e small = ap (λ (o : Option ℕ). o >>= plain_of) e ∙ cond-false (ltb (2 ^ 63 - 1) n) _ _ (le-ltb (2 ^ 63 - 1) n small)

pub signed_again : (z : ℤ) → FitsSigned w64 z → signed_of (signed_decimal z) ≡ Some z
unfolding signed_of negative_of positive_of
signed_again (pos n) fits =
    let lt : n < 2 ^ 63 = omega (arith, ints, fits) in
    let d = decimal_first n (omega arith) in
    plain_word (decimal n) (λ e. omega arith) ∙ positive_is (decimal n) n (number_again (2 ^ 64) n (omega arith) (omega arith))
    (omega arith)
signed_again (negsuc n) fits =
    let lt : n < 2 ^ 63 = omega (arith, ints, fits) in
    let n-is : suc n - 1 ≡ n = omega arith in
    ap (λ (o : Option ℕ). o >>= minus_of) (number_again (2 ^ 64) (suc n) (omega arith) (omega arith))
    ∙ cond-false (eqb (suc n) 0) _ _ (ne_eqb (suc n) 0 (λ h. omega arith))
    ∙ cond-false (ltb (2 ^ 63) (suc n)) _ _ (le-ltb (2 ^ 63) (suc n) (omega arith))
    ∙ ap (λ (k : ℕ). some (negsuc k)) n-is
