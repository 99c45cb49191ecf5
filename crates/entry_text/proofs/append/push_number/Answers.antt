use Rattle.std.proofs.lemmas.Fmt.{decimal_digit}
use Rattle.entry_text.proofs.append.push_number.Goals as goal

pub returns-then-number-lt10-clause-ok : goal.returns-then-number-lt10-clause-ok
returns-then-number-lt10-clause-ok g c = rw (decimal_digit c.args.number c.if-number-lt10.true) c.add_digit.ensures.ok
