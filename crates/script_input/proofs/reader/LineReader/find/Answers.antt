use Rattle.std.proofs.Common.{arith}
use Rattle.script_input.proofs.ReaderLemmas.{finds_broken}
use Rattle.script_input.proofs.reader.LineReader.find.Goals as goal

pub returns-then-is_plain-clause-next : goal.returns-then-is_plain-clause-next
returns-then-is_plain-clause-next c = λ from to last given reads.
    let part = c.first_part-count.ensures in
    let plain = c.is_plain.ensures.0 c.if-is_plain.true in
    finds_broken from to last c.args.self.now c.give.new.self given reads c.first_part-count.result.0 (omega (arith, part.fits))
    part.unbroken c.args.most c.give.result c.give.ensures.line c.give.ensures.passed plain.lines (λ none. plain.short)
    c.give.ensures.given (part.broken c.if-ending-eq1.true) plain.bytes
