use Rattle.std.proofs.Common.{◌∙◌}
use Rattle.site_step.proofs.Calls.{tells_room}
use Rattle.site_step.proofs.site.Site.room.Goals as goal

pub returns-clause-value : goal.returns-clause-value
returns-clause-value g c = c.room.ensures.value ∙ tells_room c.self.invariant c.self.view_is c.requires.up c.args.field c.requires.field_in
