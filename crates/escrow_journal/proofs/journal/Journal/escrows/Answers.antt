use Rattle.std.proofs.Common.{rules}
use Rattle.escrow_journal.proofs.Views.{item_escrows, item_short}
use Rattle.escrow_journal.proofs.journal.Journal.escrows.Goals as goal

pub returns-clause-value : goal.returns-clause-value
returns-clause-value c = search (rules, item_escrows)

pub returns-clause-most : goal.returns-clause-most
returns-clause-most c = search (rules, item_short)
