use Rattle.std.proofs.Common.{[], ◌∷◌, rules}
use Rattle.reaching_steps.proofs.Fronts.{took_all}
use Rattle.reaching_steps.proofs.steps.take.Goals as goal

pub returns-in_err-push : goal.returns-in_err-push
returns-in_err-push c =
    let t = took_all c.args.trial.now c.step.new.self (c.args.step ∷ []) c.in_ok-reply.ensures.steps in
    search (rules, t)
