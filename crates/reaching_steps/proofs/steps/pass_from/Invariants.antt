use Rattle.reaching_steps.specs.Reach.{steps_of_tasks, over_sites, passes_on}
use Rattle.reaching_steps.specs.Body.{Grew}
use Rattle.reaching_steps.proofs.steps.pass_from.Given as goal

abbrev pub invariant-loop-to : goal.invariant-loop-to
invariant-loop-to l =
    Grew l.fn.trial l.fn.taken.items (steps_of_tasks l.fn.trial.schema l.fn.trial.steps
    (over_sites l.to (λ to. passes_on l.fn.trial.schema l.named.0 l.field.0 l.from.0 to))) l.trial l.taken.items
