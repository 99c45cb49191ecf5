use Rattle.std.proofs.Common.{◌∙◌}
use Rattle.site_step.proofs.Calls.{tells_cut}
use Rattle.site_step.proofs.site.Site.cut_so_far.Goals as goal

pub returns-clause-value : goal.returns-clause-value
returns-clause-value g c = c.tightened.ensures.value
    ∙ tells_cut c.self.invariant c.self.view_is c.requires.up c.args.field c.args.kind c.requires.field_in
