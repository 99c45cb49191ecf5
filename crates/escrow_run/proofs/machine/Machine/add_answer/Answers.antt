use Rattle.escrow_run.proofs.machine.Machine.add_answer.Goals as goal

pub take_asked-requires : goal.take_asked-requires
take_asked-requires c = record { asks = rw c.in-Some-Step.field-0-is at c.in-Some-Step.ensures.found }
