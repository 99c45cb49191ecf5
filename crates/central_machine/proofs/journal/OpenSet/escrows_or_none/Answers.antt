use Rattle.std.proofs.Common.{sym}
use Rattle.central_machine.proofs.Rows.{none_at}
use Rattle.central_machine.proofs.journal.OpenSet.escrows_or_none.Goals as goal

pub returns-in-None : goal.returns-in-None
returns-in-None c = sym (none_at c.args.txn c.args.self.now.rows.items (sym c.in-None.ensures.there))
