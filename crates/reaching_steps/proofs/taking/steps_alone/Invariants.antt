use Rattle.std.proofs.Common.{◌≡◌, take}
use Rattle.reaching_steps.specs.Taken.{steps_of}
use Rattle.reaching_steps.proofs.taking.steps_alone.Given as goal

abbrev pub invariant-loop-one : goal.invariant-loop-one
invariant-loop-one l = l.steps.items ≡ steps_of (take l.one-index l.taken)
