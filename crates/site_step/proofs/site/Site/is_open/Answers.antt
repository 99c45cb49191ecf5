use Rattle.std.proofs.Common.{◌∙◌}
use Rattle.site_step.proofs.Calls.{tells_open}
use Rattle.site_step.proofs.site.Site.is_open.Goals as goal

pub returns : goal.returns
returns g c = c.is_open.ensures.value ∙ tells_open c.self.invariant c.self.view_is c.requires.up c.args.txn
