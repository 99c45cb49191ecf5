use Rattle.std.proofs.Common.{rules}
use Rattle.escrow_journal.proofs.Views.{item_escrows, taken_view, left_is}
use Rattle.escrow_journal.proofs.journal.Journal.take_out.Goals as goal

pub invariant_of-self : goal.invariant_of-self
invariant_of-self c = search (rules, left_is)

pub returns-clause-escrows : goal.returns-clause-escrows
returns-clause-escrows c = search (rules, item_escrows)

pub returns-clause-rest : goal.returns-clause-rest
returns-clause-rest c = search (rules, taken_view)
