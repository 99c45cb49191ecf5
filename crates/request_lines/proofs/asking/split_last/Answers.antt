use Rattle.std.proofs.Common.{◌+◌, sym, subst}
use Rattle.std.proofs.lemmas.List.{take_rest}
use Rattle.request_lines.specs.Asking.{HasNoSpace}
use Rattle.request_lines.proofs.LastWords.{last_space, no_space}
use Rattle.request_lines.proofs.asking.split_last.Goals as goal

pub returns-in-Some-clause-last : goal.returns-in-Some-clause-last
returns-in-Some-clause-last c =
    subst HasNoSpace (sym (take_rest c.args.line.now (c.in-Some.at + 1))) (last_space c.args.line.now c.in-Some.at c.in-Some.ensures).1

pub returns-in-None-clause-none : goal.returns-in-None-clause-none
returns-in-None-clause-none c = no_space c.args.line.now c.in-None.ensures
