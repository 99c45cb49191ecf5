use Rattle.std.proofs.Common.{◌≡◌, None}
use Rattle.world_steps.specs.View.{trace_of}
use Rattle.reaching_steps.specs.Reach.{least, is_down}
use Rattle.reaching_steps.proofs.faults.first_down.Given as goal

abbrev pub invariant-loop-site : goal.invariant-loop-site
invariant-loop-site l = least l.site (is_down l.trial.schema (trace_of l.trial)) ≡ None
