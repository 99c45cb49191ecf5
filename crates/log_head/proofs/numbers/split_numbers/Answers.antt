use Rattle.log_head.proofs.LinesRead.{no_lines, no_word, no_numbers}
use Rattle.log_head.proofs.numbers.split_numbers.Goals as goal

pub returns-in_default-clause-none : goal.returns-in_default-clause-none
returns-in_default-clause-none c = no_lines c.args.bytes.now c.args.word.now c.in_default.ensures.parts

pub returns-in_default-behind-clause-none : goal.returns-in_default-behind-clause-none
returns-in_default-behind-clause-none c =
    no_word c.args.bytes.now c.args.word.now c.in-Some.line.now c.in-Some.rest.now c.requires.line c.in-Some.ensures.parts.0
    c.in-Some.ensures.parts.1 c.in_default-behind.ensures.rest

pub returns-in-None-clause-none : goal.returns-in-None-clause-none
returns-in-None-clause-none c =
    no_numbers c.args.bytes.now c.args.word.now c.in-Some.line.now c.in-Some.rest.now c.in-Some-behind.line.now c.requires.line
    c.in-Some.ensures.parts.0 c.in-Some.ensures.parts.1 c.in-Some-behind.ensures.rest (rw c.in-None.is at c.in_ok-numbers.ensures.none)
