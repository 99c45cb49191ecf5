use Rattle.std.proofs.Common.{[], ◌∷◌, rules}
use Rattle.reaching_steps.specs.Reach.{aborts}
use Rattle.reaching_steps.proofs.Growing.{grew_over, grew_task}
use Rattle.reaching_steps.proofs.Fronts.{took_over, took_task}
use Rattle.reaching_steps.proofs.steps.abort_all.Goals as goal

pub loop-s-preserved : goal.loop-s-preserved
loop-s-preserved c =
    grew_over (λ schema s. aborts schema c.args.named.0 s ∷ []) c.loop-s.s c.loop-s.invariant
    (grew_task (aborts c.loop-s.trial.schema c.args.named.0 c.loop-s.s) c.in_ok-abort_open.ensures.grew)

pub returns-in_err-abort_open : goal.returns-in_err-abort_open
returns-in_err-abort_open c =
    let t = took_over (λ schema s. aborts schema c.args.named.0 s ∷ []) c.loop-s.s c.args.sites c.loop-s-test.true c.loop-s.invariant
    (took_task (aborts c.loop-s.trial.schema c.args.named.0 c.loop-s.s) c.in_err-abort_open.ensures.grew) in
    search (rules, t)
