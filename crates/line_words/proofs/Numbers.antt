-- What the readers of numbers read.
use Rattle.std.proofs.Common.{◌≡◌, ℕ, ◌+◌, ◌*◌, ◌-◌, ◌^◌, ◌<◌, ◌≤◌, true, false, ltb, List, length, get_or, take, Option, Some, None, refl, sym, ap, subst, ◌∙◌, arith, inl, inr}
use Rattle.std.specs.Prelude.{◌&&◌, ◌⊎◌, IfSome}
use Rattle.std.specs.Prelude.{bytes_eq}
use Rattle.std.specs.Str.Parse.{digits_value, AllDigits}
use Rattle.std.specs.Char.{is_ascii_digit, digit_value}
use Rattle.std.specs.Int.{IsInRange}
use Rattle.std.proofs.lemmas.Bool.Decides.{nat_tests}
use Rattle.std.proofs.lemmas.Int.Digits.{digits_value_more}
use Rattle.std.specs.Fmt.{decimal}
use Rattle.std.proofs.lemmas.Bool.{cases_eq, and_parts, and_from, lt-ltb, ltb-true, cond-true}
use Rattle.std.proofs.lemmas.Fmt.{decimal_is_IsNumeral, first_decimal, decimal_nonempty, decimal-digits_value, decimal_digit}
use Rattle.std.proofs.lemmas.Str.Parse.{numerals_by_value, tells_digits, digits_value-take-le, digit_at}
use Rattle.std.proofs.lemmas.Slice.Eq.{bytes_eq-Decides}
use Rattle.std.proofs.lemmas.Option.{cond_some}
use Rattle.line_words.specs.Reading.{◌>>=◌, number_of}

pub none_by : {A : Type 0} (o : Option A) → ((x : A) → o ≡ Some x → ⊥) → o ≡ None
none_by None h = refl
none_by (Some x) h = absurd (h x refl)

-- the value of a step that found one
pub bind_some : {A B : Type 0} (o : Option A) (f : A → Option B) (y : B) → (o >>= f) ≡ Some y → (x : A) × (o ≡ Some x) × (f x ≡ Some y)
bind_some (Some x) f y e = (x, refl, e)
bind_some None f y e = absurd cc

pub number_takes : (limit : ℕ) (w : List ℕ) (n : ℕ) → number_of limit w ≡ Some n → (n < limit) × (w ≡ decimal n)
unfolding number_of
number_takes limit w n e =
    let v = digits_value 10 w in
    let p = cond_some (ltb v limit && bytes_eq (decimal v) w) v n e in
    let t = and_parts (ltb v limit) (bytes_eq (decimal v) w) p.0 in
    let lt : v < limit = ltb-true v limit t.0 in
    let same : decimal v ≡ w = (bytes_eq-Decides (decimal v) w).0 t.1 in
    let v-is : v ≡ n = p.1 in
    (omega arith, sym same ∙ ap decimal v-is)

pub number_again : (limit n : ℕ) → limit ≤ 2 ^ 64 → n < limit → number_of limit (decimal n) ≡ Some n
unfolding number_of
number_again limit n small lt =
    let is : digits_value 10 (decimal n) ≡ n = (decimal_is_IsNumeral n (omega arith)).1 in
    rw is (cond-true _ _ _ (and_from (ltb n limit) (bytes_eq (decimal n) (decimal n)) (lt-ltb n limit lt)
    ((bytes_eq-Decides (decimal n) (decimal n)).1 refl)))

-- where no number below the limit has this spelling
pub number_none : (limit : ℕ) (w : List ℕ) → ((n : ℕ) → n < limit → w ≡ decimal n → ⊥) → number_of limit w ≡ None
number_none limit w never = none_by (number_of limit w) (λ n e. let t = number_takes limit w n e in never n t.0 t.1)

-- no digits, or a leading zero
pub number_bad_start : (limit : ℕ) (w : List ℕ) → limit ≤ 2 ^ 64 → (length w ≡ 0) ⊎ ((get_or w 0 0 ≡ 48) × (1 < length w))
    → number_of limit w ≡ None
number_bad_start limit w small bad = number_none limit w (λ n lt e.
    elim bad [
      | inl empty ↦ omega (arith, ap length e, decimal_nonempty n (omega arith))
      | inr zero_first ↦ elim (cases_eq n 0) [
        | inl n-is ↦ omega (arith, zero_first.1, ap length (e ∙ ap decimal n-is ∙ decimal_digit 0 (omega arith)))
        | inr ne ↦ let first : 48 < get_or (decimal n) 0 0 = first_decimal n (omega arith) (omega arith) in
            let same : get_or w 0 0 ≡ get_or (decimal n) 0 0 = ap (λ (l : List ℕ). get_or l 0 0) e in
            omega (arith, zero_first.0)
      ]
    ])

-- digits with no leading zero
pub number_good : (limit : ℕ) (w : List ℕ) (v : ℕ) → limit ≤ 2 ^ 64 → AllDigits 10 w → 0 < length w → (get_or w 0 0 ≡ 48 → length w ≡ 1)
    → v ≡ digits_value 10 w → v < limit → number_of limit w ≡ Some v
number_good limit w v small all long start v-is lt =
    let lt' : digits_value 10 w < 2 ^ 64 = omega arith in
    let spelled : decimal v ≡ w = ap decimal v-is ∙ decimal-digits_value (numerals_by_value _ tells_digits) w all long start lt' in
    ap (number_of limit) (sym spelled) ∙ number_again limit v small lt

-- a byte that is a digit
pub digit_is : (c : ℕ) → is_ascii_digit c ≡ true → (digit_value c < 10) × (48 ≤ c) × (digit_value c ≡ c - 48)
digit_is c e = grind (arith, nat_tests)

pub digit_is_not : (c : ℕ) → is_ascii_digit c ≡ false → ¬ (IsInRange 48 57 c)
digit_is_not c e h = grind (arith, nat_tests)

-- a byte that is no digit
pub number_no_digit : (limit : ℕ) (w : List ℕ) (i : ℕ) → limit ≤ 2 ^ 64 → i < length w → is_ascii_digit (get_or w i 0) ≡ false
    → number_of limit w ≡ None
number_no_digit limit w i small lt e = number_none limit w (λ n below e'.
    let all : AllDigits 10 w = subst (λ (l : List ℕ). AllDigits 10 l) (sym e') (decimal_is_IsNumeral n (omega arith)).0.1 in
    digit_is_not (get_or w i 0) e (digit_at w i all lt))

-- the digits so far are too much
pub number_too_large : (limit : ℕ) (w : List ℕ) (i : ℕ) → limit ≤ 2 ^ 64 → i < length w
    → limit ≤ digits_value 10 (take i w) * 10 + digit_value (get_or w i 0) → number_of limit w ≡ None
number_too_large limit w i small lt over = number_none limit w (λ n below e.
    let is : digits_value 10 w ≡ n = ap (digits_value 10) e ∙ (decimal_is_IsNumeral n (omega arith)).1 in
    omega (arith, digits_value_more 10 w i lt, digits_value-take-le 10 w (i + 1) (omega arith)))

-- what holds of the value, if there is one
pub some_from : {A : Type 0} (o : Option A) (P : A → Type 0) → ((x : A) → o ≡ Some x → P x) → IfSome o P
some_from None P h = tt
some_from (Some x) P h = h x refl
