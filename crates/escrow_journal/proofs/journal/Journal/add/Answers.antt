use Rattle.std.proofs.Common.{rules}
use Rattle.escrow_journal.proofs.Views.{on_err, added_view, more_is, same_view, same_is}
use Rattle.escrow_journal.proofs.journal.Journal.add.Goals as goal

pub invariant_of-self : goal.invariant_of-self
invariant_of-self c = search (rules, same_is)

pub invariant_of-self-2 : goal.invariant_of-self-2
invariant_of-self-2 c = search (rules, more_is)

pub returns-in_err-push-clause-err : goal.returns-in_err-push-clause-err
returns-in_err-push-clause-err c = search (rules, on_err, same_view)

pub returns-clause-ok : goal.returns-clause-ok
returns-clause-ok c = search (rules, added_view)
