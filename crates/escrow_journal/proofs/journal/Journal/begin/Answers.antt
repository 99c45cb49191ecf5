use Rattle.std.proofs.Common.{rules}
use Rattle.escrow_journal.proofs.Views.{pushed_is}
use Rattle.escrow_journal.proofs.journal.Journal.begin.Goals as goal

pub invariant_of-self-2 : goal.invariant_of-self-2
invariant_of-self-2 c = search (rules, pushed_is)
