use Rattle.std.proofs.Common.{◌≡◌, None}
use Rattle.world_steps.specs.View.{trace_of}
use Rattle.reaching_steps.specs.Reach.{least, has_no_number}
use Rattle.reaching_steps.proofs.faults.first_full_there.Given as goal

abbrev pub invariant-loop-site : goal.invariant-loop-site
invariant-loop-site l = least l.site (has_no_number l.trial.schema (trace_of l.trial) l.named.0) ≡ None
