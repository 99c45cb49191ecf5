use Rattle.site_workers.proofs.Sets.{accepted_put}
use Rattle.site_workers.proofs.statement_sets.insert_accepted.Goals as goal

pub returns-in_ok-insert : goal.returns-in_ok-insert
returns-in_ok-insert c = record { ok = accepted_put _ _ c.in-Accept.is c.in_ok-insert.ensures.ok }
