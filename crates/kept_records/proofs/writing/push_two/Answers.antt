use Rattle.std.proofs.Common.{arith}
use Rattle.std.proofs.lemmas.Fmt.{decimal_digit}
use Rattle.itoa.proofs.Decimal.{decimal_two}
use Rattle.kept_records.proofs.writing.push_two.Goals as goal

pub returns-then-number-lt10 : goal.returns-then-number-lt10
returns-then-number-lt10 c = rw (decimal_digit c.args.number c.if-number-lt10.true) c.push_digit.ensures

pub returns : goal.returns
returns c = rw (decimal_two c.args.number (omega (arith, c.if-number-lt10.false)) (omega arith)) c.push_pair.ensures
