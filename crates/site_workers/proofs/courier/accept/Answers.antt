use Rattle.site_workers.proofs.Faults.{courier_call}
use Rattle.site_workers.proofs.courier.accept.Goals as goal

pub returns-in-Err-clause-fault : goal.returns-in-Err-clause-fault
returns-in-Err-clause-fault g c = courier_call _ _ _ _ _ c.fault_of_call.ensures c.site.ensures.value c.in-Err.ensures.fault
