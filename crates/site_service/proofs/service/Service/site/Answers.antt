use Rattle.std.proofs.Common.{ap, ◌∙◌}
use Rattle.site_step.specs.Site.{SiteValue}
use Rattle.site_service.specs.Answers.{site_of}
use Rattle.site_service.specs.Service.{ServiceValue}
use Rattle.site_service.proofs.service.Service.site.Goals as goal

abbrev site_of_view : ServiceValue → SiteValue
site_of_view v = site_of v.served

pub returns-clause-value : goal.returns-clause-value
returns-clause-value g c = ap site_of_view c.self.view_is

pub returns-clause-whole : goal.returns-clause-whole
returns-clause-whole g c = λ none. c.self.invariant.linked.let_go.none (ap (λ (v : ServiceValue). v.served.let_go.told) c.self.view_is ∙ none)
