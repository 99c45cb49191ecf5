use Rattle.std.proofs.Common.{◌≡◌, refl, ap, subst}
use Rattle.std.specs.Prelude.{length}
use Rattle.kept_records.specs.Stands.{plain}
use Rattle.site_step.specs.Site.{SiteValue, doubt_behind}
use Rattle.site_step.specs.Resuming.{all_bytes}
use Rattle.site_step.proofs.Ends.{finds_same}
use Rattle.site_step.proofs.site.Site+TornMedium+H.arm.Goals as goal

pub returns-clause-finds : goal.returns-clause-finds
returns-clause-finds g c = λ epoch found finds.
    let gone = c.self.inside.gone.items in
    finds_same c.args.self.now _ epoch found
    (subst (λ (x : SiteValue). c.self.inside.schema ≡ x.schema) c.self.view_is refl)
    (subst (λ (x : SiteValue). c.self.inside.number ≡ x.site) c.self.view_is refl)
    (subst (λ (x : SiteValue). all_bytes gone c.arm.new.self.bytes ≡ x.bytes) c.self.view_is (ap (all_bytes gone) c.arm.ensures.bytes))
    (subst (λ (x : SiteValue). doubt_behind (length (plain c.self.inside.past.items)) c.self.inside.doubt ≡ x.doubt) c.self.view_is refl) finds
