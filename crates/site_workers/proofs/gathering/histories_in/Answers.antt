use Rattle.site_workers.proofs.Answered.{no_fault_left}
use Rattle.site_workers.proofs.gathering.histories_in.Goals as goal

pub returns-in-Err-clause-memory : goal.returns-in-Err-clause-memory
returns-in-Err-clause-memory c =
    absurd (no_fault_left _ _ _ _ _ _ c.in-Some-pop.ensures.items c.in-Err.is c.loop-answer.invariant.split
    c.loop-answer.invariant.none)
