use Rattle.std.proofs.Common.{take}
use Rattle.escrow_run.specs.Run.{HasTaken}
use Rattle.escrow_run.proofs.machine.Machine.take_all.Given as goal

abbrev pub invariant-loop-step : goal.invariant-loop-step
invariant-loop-step l = HasTaken (take l.step-index l.steps) l.initial.self.world l.self.world l.initial.out.items l.out.items
