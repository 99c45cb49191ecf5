use Rattle.request_lines.proofs.Since.{told_not, told_none, if_none}
use Rattle.request_lines.proofs.asking.told_since.Goals as goal

pub returns-in_err-before-clause-none : goal.returns-in_err-before-clause-none
returns-in_err-before-clause-none c =
    if_none c.from_residual-in_err-before.result _
    (told_not c.args.line.now c.in_ok-front.front.now c.in_ok-front.word.now c.in_ok-front.ensures.parts c.in_ok-front.ensures.last
    c.in_err-before.ensures.before)

pub returns-in-None-clause-none : goal.returns-in-None-clause-none
returns-in-None-clause-none c =
    told_none c.args.line.now c.in_ok-front.front.now c.in_ok-front.word.now c.read_txn.result c.in_ok-front.ensures.parts
    c.in_ok-front.ensures.last c.in-None.is c.read_txn.ensures.only
