use Rattle.std.proofs.Common.{rules}
use Rattle.site_rights.proofs.rights.Rights.held.Goals as goal

pub returns-clause-value : goal.returns-clause-value
returns-clause-value c = search rules
