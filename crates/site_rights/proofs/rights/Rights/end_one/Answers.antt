use Rattle.std.proofs.Common.{rules}
use Rattle.site_rights.proofs.rights.Rights.end_one.Goals as goal

pub returns-in-Committed : goal.returns-in-Committed
returns-in-Committed c = search rules
