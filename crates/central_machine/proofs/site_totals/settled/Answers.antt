use Rattle.std.proofs.Common.{rules}
use Rattle.central_machine.proofs.site_totals.settled.Goals as goal

pub returns-in-Kept : goal.returns-in-Kept
returns-in-Kept c = search rules
