use Rattle.std.proofs.Common.{refl, inr}
use Rattle.folder_faults.proofs.fault.unread.Goals as goal

pub returns-in-Ok-clause-unread : goal.returns-in-Ok-clause-unread
returns-in-Ok-clause-unread c = inr (c.in-Ok.path, c.in-Ok.ensures.ok, refl)
