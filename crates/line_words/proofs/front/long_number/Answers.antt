use Rattle.std.proofs.Common.{◌<◌, length, get_or, sym, arith}
use Rattle.std.proofs.lemmas.Bool.Decides.{nat_tests}
use Rattle.line_words.proofs.FrontLemmas.{front_zero, one_digit}
use Rattle.line_words.proofs.front.long_number.Goals as goal

pub returns-then-bytes-eq48-clause-value : goal.returns-then-bytes-eq48-clause-value
returns-then-bytes-eq48-clause-value c = front_zero c.args.bytes.now (grind (arith, nat_tests)) c.if-bytes-eq48.true

pub more_digits-requires : goal.more_digits-requires
more_digits-requires c =
    let w = c.args.bytes.now in
    let some : 0 < length w = grind (arith, nat_tests) in
    let one = one_digit w some (sym c.if-not-is_ascii_digit.ensures.value) in
    record {
      some = omega arith;
      few = omega arith;
      within = omega (arith, some);
      first = λ zero. c.if-bytes-eq48.false zero;
      digits = one.0;
      value = omega (arith, c.from.ensures, one.1);
    }
