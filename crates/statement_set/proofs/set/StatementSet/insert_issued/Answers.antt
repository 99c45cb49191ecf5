use Rattle.std.proofs.Common.{◌∙◌, sym}
use Rattle.statement_set.proofs.Sets.{issued_put}
use Rattle.statement_set.proofs.set.StatementSet.insert_issued.Goals as goal

pub returns-in_ok-insert-clause-ok : goal.returns-in_ok-insert-clause-ok
returns-in_ok-insert-clause-ok c = issued_put _ _ (sym c.statement_of.ensures.value ∙ c.in-Some.is) c.in_ok-insert.ensures.ok
