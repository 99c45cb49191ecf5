use Rattle.reaching_steps.specs.Reach.{steps_of_tasks, move_tasks}
use Rattle.reaching_steps.specs.Body.{Grew}
use Rattle.reaching_steps.proofs.steps.move_all.Given as goal

abbrev pub invariant-loop-s : goal.invariant-loop-s
invariant-loop-s l =
    Grew l.fn.trial l.fn.taken.items (steps_of_tasks l.fn.trial.schema l.fn.trial.steps
    (move_tasks l.fn.trial.schema l.named.0 l.field.0 l.target l.s)) l.trial l.taken.items
