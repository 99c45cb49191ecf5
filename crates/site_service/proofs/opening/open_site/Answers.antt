use Rattle.std.proofs.Common.{ℕ, List, subst}
use Rattle.site_step.specs.Site.{Opens}
use Rattle.site_service.proofs.Whole.{whole_opened}
use Rattle.site_service.proofs.opening.open_site.Goals as goal

pub returns-in-Ok-clause-whole : goal.returns-in-Ok-clause-whole
returns-in-Ok-clause-whole c =
    let opens : Opens c.args.schema c.args.number c.args.held.items 0 c.in-Ok.site =
    subst (λ (bytes : List ℕ). Opens c.args.schema c.args.number bytes 0 c.in-Ok.site) c.new.ensures.bytes c.in-Ok.ensures.ok in
    whole_opened c.args.schema c.args.number c.args.held.items 0 c.in-Ok.site opens c.requires.whole c.in-Ok.ensures.mishap c.in-Ok.ensures.whole
