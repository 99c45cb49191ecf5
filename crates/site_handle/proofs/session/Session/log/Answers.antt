use Rattle.std.proofs.Common.{ap, ◌∙◌}
use Rattle.site_step.specs.Site.{SiteValue}
use Rattle.site_step.proofs.Prefixes.{held_whole}
use Rattle.site_handle.proofs.session.Session.log.Goals as goal

pub returns : goal.returns
returns c = record {
  value = c.bytes.ensures.bytes ∙ held_whole c.self.inside.site c.self.invariant.whole.held c.medium.ensures.bytes
      ∙ ap (λ (v : SiteValue). v.bytes) c.self.view_is;
}
