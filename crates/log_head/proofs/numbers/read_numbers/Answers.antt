use Rattle.std.proofs.Common.{ℕ, List, length, ap, arith}
use Rattle.line_words.specs.Words.{words}
use Rattle.log_head.proofs.NumberLines.{took_number, number_fits, numbers_next, not_numbers, text_read, fit_more}
use Rattle.log_head.proofs.numbers.read_numbers.Goals as goal

pub returns-in_default-clause-none : goal.returns-in_default-clause-none
returns-in_default-clause-none c = λ n ns fit e.
    not_numbers c.args.line.now c.loop-words.numbers.items c.loop-words.words c.loop-words.invariant.read c.loop-words-test.ensures.none
    c.in_default.ensures.word n ns fit e

pub loop-words-preserved : goal.loop-words-preserved
loop-words-preserved c =
    let read = c.loop-words.numbers.items in
    let took = c.in-Some.ensures.word in
    record {
      read = rw c.in_ok-push.ensures.items (numbers_next (words c.args.line.now) read c.in-Some.number c.loop-words.words c.next_number.new.self
          c.loop-words.invariant.read (took_number c.in-Some.number c.loop-words.words c.next_number.new.self took));
      fit = rw c.in_ok-push.ensures.items (fit_more read c.in-Some.number c.loop-words.invariant.fit
          (number_fits c.in-Some.number c.loop-words.words c.next_number.new.self took));
    }

pub returns-clause-some : goal.returns-clause-some
returns-clause-some c =
    text_read c.args.line.now c.loop-words.numbers.items c.loop-words.words c.loop-words.invariant.read c.loop-words-test.ensures.none

pub loop-words-smaller : goal.loop-words-smaller
loop-words-smaller c =
    let took = took_number c.in-Some.number c.loop-words.words c.next_number.new.self c.in-Some.ensures.word in
    omega (arith, ap (length {A = List ℕ}) took)
