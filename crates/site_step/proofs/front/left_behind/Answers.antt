use Rattle.std.proofs.Common.{sym, ◌∙◌}
use Rattle.site_step.proofs.FrontEnds.{behind_found, behind_missing}
use Rattle.site_step.proofs.front.left_behind.Goals as goal

pub returns-in-Some : goal.returns-in-Some
returns-in-Some c = record { value = behind_found c.args.bytes.now c.in-Some.end (sym c.line_feed.ensures.value ∙ c.in-Some.is) }

pub returns-in-None : goal.returns-in-None
returns-in-None c = record { value = behind_missing c.args.bytes.now (sym c.line_feed.ensures.value ∙ c.in-None.is) }
