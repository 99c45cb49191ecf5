use Rattle.std.proofs.Common.{◌≡◌, take}
use Rattle.world_steps.proofs.run.run_world.Given as goal

abbrev pub invariant-loop-step : goal.invariant-loop-step
invariant-loop-step l = l.world ≡ record { schema = l.fn.schema; steps = take l.step-index l.steps }
