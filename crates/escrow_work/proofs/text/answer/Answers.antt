use Rattle.std.proofs.lemmas.Result.{IfErr-weaker}
use Rattle.escrow_work.proofs.Told.{fit_through, faults_through}
use Rattle.escrow_work.proofs.text.answer.Goals as goal

pub made-requires-clause-fit : goal.made-requires-clause-fit
made-requires-clause-fit g c κs within = fit_through _ _ _ c.in_ok-scripts.scripts c.in_ok-scripts.ensures.ok

pub returns-clause-fault : goal.returns-clause-fault
returns-clause-fault g c =
    IfErr-weaker c.made.result _ _ (λ fault none. faults_through _ _ _ c.in_ok-scripts.scripts fault c.in_ok-scripts.ensures.ok
    c.in_ok-scripts.ensures.no_further none)
    c.made.ensures.fault
