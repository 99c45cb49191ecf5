use Rattle.std.proofs.Common.{◌≡◌, ◌<◌, ◌≤◌, ◌^◌, ℕ, Some, take, get_or, length, arith, sym, subst}
use Rattle.std.proofs.lemmas.Int.Digits.{digits_value_more, digits_more}
use Rattle.line_words.specs.Reading.{number_of}
use Rattle.line_words.specs.Fronts.{IsSpaceFree}
use Rattle.line_words.proofs.Numbers.{digit_is}
use Rattle.line_words.proofs.FrontLemmas.{front_more_small, front_small, front_number, digits_space_free}
use Rattle.line_words.proofs.front.more_digits.Goals as goal

pub returns-then-not-is_ascii_digit-clause-value : goal.returns-then-not-is_ascii_digit-clause-value
returns-then-not-is_ascii_digit-clause-value c =
    let w = c.args.bytes.now in
    let i = c.loop-at.at in
    let digits = c.loop-at.invariant.digits in
    let within : i ≤ length w = omega (arith, c.min-end.ensures) in
    let few : i ≤ 19 = omega (arith, c.min-end.ensures) in
    let small : c.loop-at.value < 2 ^ 64 = omega (arith, front_small w i within few digits, c.loop-at.invariant.value_is) in
    front_number w i c.loop-at.value within (omega (arith, c.requires.some, c.loop-at.auto.at)) digits c.loop-at.invariant.value_is small
    (λ e. absurd (c.requires.first e))

pub returns-then-not-is_ascii_digit-clause-no_space : goal.returns-then-not-is_ascii_digit-clause-no_space
returns-then-not-is_ascii_digit-clause-no_space c = digits_space_free (take c.loop-at.at c.args.bytes.now) c.loop-at.invariant.digits

pub overflow_mul-value : goal.overflow_mul-value
overflow_mul-value c =
    let w = c.args.bytes.now in
    let i = c.loop-at.at in
    let few : i < 19 = omega (arith, c.min-end.ensures) in
    omega (arith, front_more_small w i (omega (arith, c.min-end.ensures)) few c.loop-at.invariant.digits, c.loop-at.invariant.value_is)

pub overflow_add-value : goal.overflow_add-value
overflow_add-value c =
    let w = c.args.bytes.now in
    let i = c.loop-at.at in
    let few : i < 19 = omega (arith, c.min-end.ensures) in
    let d = digit_is (get_or w i 0) (sym c.if-not-is_ascii_digit.ensures.value) in
    omega (
      arith,
      front_more_small w i (omega (arith, c.min-end.ensures)) few c.loop-at.invariant.digits,
      c.loop-at.invariant.value_is,
      c.from.ensures,
    )

pub loop-at-preserved : goal.loop-at-preserved
loop-at-preserved c =
    let w = c.args.bytes.now in
    let i = c.loop-at.at in
    let d = digit_is (get_or w i 0) (sym c.if-not-is_ascii_digit.ensures.value) in
    let lt : i < length w = omega (arith, c.min-end.ensures) in
    record {
      digits = digits_more 10 w i lt c.loop-at.invariant.digits d.0;
      value_is = omega (arith, digits_value_more 10 w i lt, c.loop-at.invariant.value_is, c.from.ensures);
    }

pub returns-clause-value : goal.returns-clause-value
returns-clause-value c =
    let w = c.args.bytes.now in
    let i = c.loop-at.at in
    let digits = c.loop-at.invariant.digits in
    let same : i ≡ c.min-end.result =
    omega (arith, c.min-end.ensures, c.requires.few, c.requires.within, c.loop-at.auto.at, c.loop-at.auto.at-end, c.loop-at-test.false) in
    let within : i ≤ length w = omega (arith, c.min-end.ensures) in
    let few : i ≤ 19 = omega (arith, c.min-end.ensures) in
    let small : c.loop-at.value < 2 ^ 64 = omega (arith, front_small w i within few digits, c.loop-at.invariant.value_is) in
    subst (λ (k : ℕ). number_of (2 ^ 64) (take k w) ≡ Some c.loop-at.value) same
    (front_number w i c.loop-at.value within (omega (arith, c.requires.some, c.loop-at.auto.at)) digits c.loop-at.invariant.value_is small
    (λ e. absurd (c.requires.first e)))

pub returns-clause-no_space : goal.returns-clause-no_space
returns-clause-no_space c =
    let w = c.args.bytes.now in
    let same : c.loop-at.at ≡ c.min-end.result =
    omega (arith, c.min-end.ensures, c.requires.few, c.requires.within, c.loop-at.auto.at, c.loop-at.auto.at-end, c.loop-at-test.false) in
    subst (λ (k : ℕ). IsSpaceFree (take k w)) same (digits_space_free (take c.loop-at.at w) c.loop-at.invariant.digits)
