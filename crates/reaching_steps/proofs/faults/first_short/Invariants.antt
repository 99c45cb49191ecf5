use Rattle.std.proofs.Common.{◌≡◌, None}
use Rattle.world_steps.specs.View.{trace_of}
use Rattle.reaching_steps.specs.Reach.{least}
use Rattle.reaching_steps.specs.Body.{is_short_from}
use Rattle.reaching_steps.proofs.faults.first_short.Given as goal

abbrev pub invariant-loop-from : goal.invariant-loop-from
invariant-loop-from l = least l.from (is_short_from l.trial.schema (trace_of l.trial) l.site l.field) ≡ None
