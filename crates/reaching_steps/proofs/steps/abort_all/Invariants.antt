use Rattle.std.proofs.Common.{[], ◌∷◌}
use Rattle.reaching_steps.specs.Reach.{steps_of_tasks, over_sites, aborts}
use Rattle.reaching_steps.specs.Body.{Grew}
use Rattle.reaching_steps.proofs.steps.abort_all.Given as goal

abbrev pub invariant-loop-s : goal.invariant-loop-s
invariant-loop-s l =
    Grew l.fn.trial l.fn.taken.items (steps_of_tasks l.fn.trial.schema l.fn.trial.steps
    (over_sites l.s (λ s. aborts l.fn.trial.schema l.named.0 s ∷ []))) l.trial l.taken.items
