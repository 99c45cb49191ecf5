use Rattle.site_workers.specs.Scripts.{scripts_of}
use Rattle.escrow_work.proofs.Sound.{sticks}
use Rattle.escrow_work.proofs.woven.work_woven.Goals as goal

pub returns-clause-fault : goal.returns-clause-fault
returns-clause-fault g c =
    let told = rw c.in-Err-Stuck.field-0-is at c.in-Err-Stuck.ensures.stuck in
    sticks c.args.schema.now (scripts_of c.args.scripts.items) c.in-Ok.histories.items c.as_slice.result.now c.in-Ok.ensures.ok
    c.as_slice.ensures.value told.0
