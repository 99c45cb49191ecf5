use Rattle.site_workers.proofs.Standings.{begins}
use Rattle.site_workers.proofs.inbox.open_inbox.Goals as goal

pub bounded_with-requires-clause-rule : goal.bounded_with-requires-clause-rule
bounded_with-requires-clause-rule c = begins
