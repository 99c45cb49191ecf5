use Rattle.std.proofs.Common.{sym, get_or, arith}
use Rattle.line_words.proofs.Numbers.{digit_is}
use Rattle.line_words.proofs.FrontLemmas.{digit_cut}
use Rattle.line_words.proofs.first.digit_and.Goals as goal

pub returns-in-len2-up : goal.returns-in-len2-up
returns-in-len2-up c =
    let w = c.args.bytes.now in
    let d = digit_is (get_or w 0 0) (sym c.if-is_ascii_digit.ensures.value) in
    digit_cut w c.args.mark c.from.result c.in-len2-up.len_at_least c.if-after-mark.true (omega (arith, d, c.from.ensures))
    (omega (arith, d, c.from.ensures))
