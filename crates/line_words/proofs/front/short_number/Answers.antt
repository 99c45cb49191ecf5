use Rattle.std.proofs.Common.{◌≡◌, ◌<◌, ◌≤◌, ◌^◌, ℕ, Some, take, get_or, length, sym, ap, subst, ◌∙◌, arith}
use Rattle.std.specs.Str.Parse.{digits_value, AllDigits}
use Rattle.std.proofs.lemmas.Int.Digits.{digits_value_more, digits_more}
use Rattle.line_words.proofs.Numbers.{digit_is}
use Rattle.line_words.proofs.FrontLemmas.{front_more_small, front_small, front_number, front_zero, digits_space_free, one_digit}
use Rattle.line_words.proofs.front.short_number.Goals as goal

pub returns-then-value-eq0-clause-value : goal.returns-then-value-eq0-clause-value
returns-then-value-eq0-clause-value c =
    let w = c.args.bytes.now in
    let d = digit_is (get_or w 0 0) (sym c.if-not-is_ascii_digit.ensures.value) in
    let zero : get_or w 0 0 ≡ 48 = omega (arith, d, c.from-value.ensures, c.if-value-eq0.true) in
    front_zero w (omega (arith, c.requires.room)) zero ∙ ap (λ (n : ℕ). Some n) (sym c.if-value-eq0.true)

pub loop-at-init : goal.loop-at-init
loop-at-init c =
    let w = c.args.bytes.now in
    let some : 0 < length w = omega (arith, c.requires.room) in
    let one = one_digit w some (sym c.if-not-is_ascii_digit.ensures.value) in
    record { digits = one.0; value_is = omega (arith, c.from-value.ensures, one.1) }

pub overflow_mul-value : goal.overflow_mul-value
overflow_mul-value c =
    let w = c.args.bytes.now in
    let i = c.loop-at.at in
    omega (
      arith,
      front_more_small w i (omega (arith, c.requires.room, c.loop-at-test.true)) (omega (arith, c.loop-at-test.true)) c.loop-at.invariant.digits,
      c.loop-at.invariant.value_is,
    )

pub overflow_add-value : goal.overflow_add-value
overflow_add-value c =
    let w = c.args.bytes.now in
    let i = c.loop-at.at in
    let d = digit_is (get_or w i 0) (sym c.if-not-is_ascii_digit-2.ensures.value) in
    omega (
      arith,
      front_more_small w i (omega (arith, c.requires.room, c.loop-at-test.true)) (omega (arith, c.loop-at-test.true)) c.loop-at.invariant.digits,
      c.loop-at.invariant.value_is,
      c.from.ensures,
    )

pub loop-at-preserved : goal.loop-at-preserved
loop-at-preserved c =
    let w = c.args.bytes.now in
    let i = c.loop-at.at in
    let d = digit_is (get_or w i 0) (sym c.if-not-is_ascii_digit-2.ensures.value) in
    let lt : i < length w = omega (arith, c.requires.room, c.loop-at-test.true) in
    record {
      digits = digits_more 10 w i lt c.loop-at.invariant.digits d.0;
      value_is = omega (arith, digits_value_more 10 w i lt, c.loop-at.invariant.value_is, c.from.ensures);
    }

pub returns-then-not-is_ascii_digit-2-clause-value : goal.returns-then-not-is_ascii_digit-2-clause-value
returns-then-not-is_ascii_digit-2-clause-value c =
    let w = c.args.bytes.now in
    let i = c.loop-at.at in
    let digits = c.loop-at.invariant.digits in
    let within : i ≤ length w = omega (arith, c.requires.room, c.loop-at-test.true) in
    let few : i ≤ 19 = omega (arith, c.loop-at-test.true) in
    let small : c.loop-at.value < 2 ^ 64 = omega (arith, front_small w i within few digits, c.loop-at.invariant.value_is) in
    front_number w i c.loop-at.value within (omega (arith, c.loop-at.auto.at)) digits c.loop-at.invariant.value_is small
    (λ e. absurd (c.if-value-eq0.false (omega (arith, c.from-value.ensures, e))))

pub returns-then-not-is_ascii_digit-2-clause-no_space : goal.returns-then-not-is_ascii_digit-2-clause-no_space
returns-then-not-is_ascii_digit-2-clause-no_space c = digits_space_free (take c.loop-at.at c.args.bytes.now) c.loop-at.invariant.digits

pub more_digits-requires : goal.more_digits-requires
more_digits-requires c =
    let w = c.args.bytes.now in
    let was = c.loop-at.invariant in
    let all : c.loop-at.at ≡ 8 = omega (arith, c.loop-at.auto.at, c.loop-at.auto.at-end, c.loop-at-test.false) in
    record {
      some = omega arith;
      few = omega arith;
      within = c.requires.room;
      first = λ zero. c.if-value-eq0.false (omega (arith, c.from-value.ensures, zero));
      digits = subst (λ (n : ℕ). AllDigits 10 (take n w)) all was.digits;
      value = was.value_is ∙ ap (λ (n : ℕ). digits_value 10 (take n w)) all;
    }
