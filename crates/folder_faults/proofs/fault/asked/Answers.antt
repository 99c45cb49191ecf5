use Rattle.std.proofs.Common.{refl, inr}
use Rattle.folder_faults.proofs.fault.asked.Goals as goal

pub returns-in-Ok : goal.returns-in-Ok
returns-in-Ok c = inr (c.in-Ok.path, c.in-Ok.ensures.ok, refl)
