use Rattle.std.proofs.Common.{◌≡◌, take}
use Rattle.reaching_steps.proofs.taking.copy_of.Given as goal

abbrev pub invariant-loop-step : goal.invariant-loop-step
invariant-loop-step l = l.copied ≡ record { schema = l.world.schema; steps = take l.step-index l.step-items }
