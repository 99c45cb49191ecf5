use Rattle.request_lines.proofs.LastWords.{cut_none}
use Rattle.request_lines.proofs.asking.split_key.Goals as goal

pub returns-in-None-clause-none : goal.returns-in-None-clause-none
returns-in-None-clause-none c =
    cut_none c.args.line.now c.in_ok-front.front.now c.in_ok-front.word.now c.in_ok-front.ensures.parts c.in_ok-front.ensures.last
    c.in-None.ensures.before
