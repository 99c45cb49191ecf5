use Rattle.std.proofs.Common.{rules, ◌≡◌, ℕ, ◌<◌, ◌^◌, ◌≤◌, ◌+◌, ◌*◌, length, get_or, take, List, sym, ap, ◌∙◌, subst, inl, inr, arith}
use Rattle.std.specs.Prelude.{◌⊎◌}
use Rattle.std.specs.Char.{digit_value}
use Rattle.std.specs.Str.Parse.{digits_value, AllDigits}
use Rattle.std.proofs.lemmas.Bool.Decides.{nat_tests}
use Rattle.std.proofs.lemmas.Int.Digits.{digits_value_more, digits_more}
use Rattle.std.proofs.lemmas.List.{take_all}
use Rattle.line_words.proofs.Numbers.{number_bad_start, number_no_digit, number_too_large, number_good, digit_is}
use Rattle.line_words.proofs.number.read_tested.Goals as goal
use Rattle.line_words.proofs.number.read_tested.Goals.{then-is_empty-via-then-is_empty, then-is_empty-via-else-is_empty+then-has_leading_zero}

pub returns-then-is_empty : goal.returns-then-is_empty
returns-then-is_empty c =
    let w = c.args.word.now in
    let bad : (length w ≡ 0) ⊎ ((get_or w 0 0 ≡ 48) × (1 < length w)) =
    elim c.then-is_empty.branch [
      | then-is_empty-via-then-is_empty f ↦ inl (grind (arith, nat_tests))
      | then-is_empty-via-else-is_empty+then-has_leading_zero f ↦ inr f.if-has_leading_zero.ensures
    ] in
    (sym (number_bad_start (2 ^ 64) w (omega arith) bad))

pub loop-digit-init : goal.loop-digit-init
loop-digit-init c = search rules

pub returns-then-not-is_ascii_digit : goal.returns-then-not-is_ascii_digit
returns-then-not-is_ascii_digit c =
    let w = c.args.word.now in
    (sym (number_no_digit (2 ^ 64) w c.loop-digit.digit-index (omega arith) c.loop-digit-test.true
    (sym c.if-not-is_ascii_digit.ensures.value)))

pub returns-in_err-checked_mul : goal.returns-in_err-checked_mul
returns-in_err-checked_mul c =
    let i = c.loop-digit.digit-index in
    let w = c.args.word.now in
    let v = c.loop-digit.invariant.value_is in
    let large : c.loop-digit.value * 10 < 2 ^ 64 → ⊥ = c.in_err-checked_mul.ensures in
    let over : 2 ^ 64 ≤ digits_value 10 (take i w) * 10 = omega arith in
    (c.from_residual.ensures
    ∙ sym (number_too_large (2 ^ 64) w i (omega arith) c.loop-digit-test.true (omega arith)))

pub returns-in_err-value : goal.returns-in_err-value
returns-in_err-value c =
    let i = c.loop-digit.digit-index in
    let w = c.args.word.now in
    let v = c.loop-digit.invariant.value_is in
    let d = digit_is (get_or w i 0) (sym c.if-not-is_ascii_digit.ensures.value) in
    let over : 2 ^ 64 ≤ digits_value 10 (take i w) * 10 + digit_value (get_or w i 0) =
    omega (arith, c.in_err-value.ensures, c.from.ensures, c.in_ok-checked_mul.ensures) in
    (c.from_residual-in_err-value.ensures
    ∙ sym (number_too_large (2 ^ 64) w i (omega arith) c.loop-digit-test.true over))

pub loop-digit-preserved : goal.loop-digit-preserved
loop-digit-preserved c =
    let i = c.loop-digit.digit-index in
    let w = c.args.word.now in
    let d = digit_is (get_or w i 0) (sym c.if-not-is_ascii_digit.ensures.value) in
    record {
      digits = digits_more 10 w i c.loop-digit-test.true c.loop-digit.invariant.digits d.0;
      value_is = omega (
        arith,
        digits_value_more 10 w i c.loop-digit-test.true,
        c.loop-digit.invariant.value_is,
        c.in_ok-value.ensures,
        c.from.ensures,
        c.in_ok-checked_mul.ensures,
      );
      below = omega (arith, c.in_ok-value.ensures, c.from.ensures);
    }

pub returns : goal.returns
returns c =
    let w = c.args.word.now in
    let at_end : take c.loop-digit.digit-index w ≡ w = take_all c.loop-digit.digit-index w (omega arith) in
    let all : AllDigits 10 w = subst (λ (l : List ℕ). AllDigits 10 l) at_end c.loop-digit.invariant.digits in
    let is : c.loop-digit.value ≡ digits_value 10 w = c.loop-digit.invariant.value_is ∙ ap (digits_value 10) at_end in
    let long : 0 < length w = grind (arith, nat_tests) in
    let start : get_or w 0 0 ≡ 48 → length w ≡ 1 = λ zero_first. omega (arith, c.if-has_leading_zero.ensures zero_first) in
    (sym (number_good (2 ^ 64) w c.loop-digit.value (omega arith) all long start is c.loop-digit.invariant.below))
