-- The records that are gone are those that the base may stand behind by its numbers.
use Rattle.log_bases.specs.Pasts.{past_of}
use Rattle.site_service.proofs.behind.open_base.Given as goal

abbrev pub ghost-open_from : goal.ghost-open_from
ghost-open_from a = past_of a.schema a.site.0 a.base.now
