use Rattle.std.proofs.lemmas.Bool.{ltb-true, lt-ltb}
use Rattle.field_bounds.specs.Effects.{fresh}
use Rattle.field_bounds.specs.Owed.{place}
use Rattle.field_bounds.specs.Central.{own}
use Rattle.central_rules.proofs.Decided.{fits_is, grant_is, shortage_is, interval_is, statement_is}
use Rattle.central_rules.proofs.laws.tests_are_rules.Goals as goal

pub returns-clause-site : goal.returns-clause-site
returns-clause-site c = λ schema t e. (ltb-true e.site.0 schema.sites, lt-ltb e.site.0 schema.sites)

pub returns-clause-grant : goal.returns-clause-grant
returns-clause-grant c = λ schema t e. grant_is schema t e.command e.reply

pub returns-clause-shortage : goal.returns-clause-shortage
returns-clause-shortage c = λ schema t e. shortage_is schema t e.site.0 e.command e.reply

pub returns-clause-interval : goal.returns-clause-interval
returns-clause-interval c = λ schema t e. interval_is schema t e.command e.reply

pub returns-clause-statement : goal.returns-clause-statement
returns-clause-statement c = λ schema t e. statement_is t e.command e.reply

pub returns-clause-reply : goal.returns-clause-reply
returns-clause-reply c = λ schema t e. fits_is (place schema e.site.0 (fresh schema e.site.0) (own e.site.0 t)) e.command e.reply
