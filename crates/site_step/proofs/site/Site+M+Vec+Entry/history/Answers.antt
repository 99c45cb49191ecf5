use Rattle.site_step.proofs.Calls.{holds_log}
use Rattle.site_step.proofs.site.Site+M+Vec+Entry.history.Goals as goal

pub returns-clause-holds : goal.returns-clause-holds
returns-clause-holds g c = holds_log c.self.invariant c.self.view_is
