use Rattle.std.proofs.Common.{refl, inr}
use Rattle.folder_faults.proofs.fault.failed.Goals as goal

pub returns-in-Ok-clause-failed : goal.returns-in-Ok-clause-failed
returns-in-Ok-clause-failed c = inr (c.in-Ok.path, c.in-Ok.ensures.ok, refl)
