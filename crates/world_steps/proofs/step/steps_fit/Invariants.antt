use Rattle.std.proofs.Common.{All, take}
use Rattle.world_steps.specs.World.{StepFits}
use Rattle.world_steps.proofs.step.steps_fit.Given as goal

abbrev pub invariant-loop-step : goal.invariant-loop-step
invariant-loop-step l = All (StepFits l.schema) (take l.step-index l.steps)
