use Rattle.std.proofs.Common.{◌∙◌}
use Rattle.site_step.proofs.Calls.{tells_free}
use Rattle.site_step.proofs.site.Site.free.Goals as goal

pub returns-clause-value : goal.returns-clause-value
returns-clause-value g c = c.free.ensures.value ∙ tells_free c.self.invariant c.self.view_is c.requires.up c.args.field c.args.kind
    c.requires.field_in
