use Rattle.std.proofs.Common.{◌≡◌, take, reverse}
use Rattle.reaching_steps.specs.Reach.{number_of}
use Rattle.reaching_steps.proofs.numbering.number_of.Given as goal

abbrev pub invariant-loop-i : goal.invariant-loop-i
invariant-loop-i l = number_of l.statement (reverse (take l.i l.told)) ≡ 0
