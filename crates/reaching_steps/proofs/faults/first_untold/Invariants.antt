use Rattle.std.proofs.Common.{◌≡◌, None}
use Rattle.world_steps.specs.View.{trace_of}
use Rattle.reaching_steps.specs.Reach.{least}
use Rattle.reaching_steps.specs.Body.{is_untold_to}
use Rattle.reaching_steps.proofs.faults.first_untold.Given as goal

abbrev pub invariant-loop-to : goal.invariant-loop-to
invariant-loop-to l = least l.to (is_untold_to l.trial.schema (trace_of l.trial) l.site l.field) ≡ None
