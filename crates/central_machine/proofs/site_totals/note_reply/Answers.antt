use Rattle.std.proofs.Common.{rules}
use Rattle.central_machine.proofs.site_totals.note_reply.Goals as goal

pub returns-in_default : goal.returns-in_default
returns-in_default c = search rules
