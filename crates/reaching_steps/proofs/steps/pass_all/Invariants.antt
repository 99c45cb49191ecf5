use Rattle.reaching_steps.specs.Reach.{steps_of_tasks, over_sites, passes_on}
use Rattle.reaching_steps.specs.Body.{Grew}
use Rattle.reaching_steps.proofs.steps.pass_all.Given as goal

abbrev pub invariant-loop-from : goal.invariant-loop-from
invariant-loop-from l =
    Grew l.fn.trial l.fn.taken.items (steps_of_tasks l.fn.trial.schema l.fn.trial.steps
    (over_sites l.from (λ from. over_sites l.sites (λ to. passes_on l.fn.trial.schema l.named.0 l.field.0 from to)))) l.trial
    l.taken.items
