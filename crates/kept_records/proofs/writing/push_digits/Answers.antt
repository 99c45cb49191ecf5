use Rattle.std.proofs.Common.{◌/◌, ◌%◌, sym, append_assoc, arith}
use Rattle.std.specs.Fmt.{decimal}
use Rattle.itoa.proofs.Decimal.{decimal_pair, pair}
use Rattle.kept_records.proofs.writing.push_digits.Goals as goal

pub returns-then-number-lt10000 : goal.returns-then-number-lt10000
returns-then-number-lt10000 c =
    let n = c.args.number in
    rw (
      decimal_pair n (omega (arith, c.if-number-lt100.false)) (omega arith),
      sym (append_assoc c.args.line.now.items (decimal (n / 100)) (pair (n % 100))),
      sym c.in_ok-push_two.ensures,
    ) c.push_pair.ensures
