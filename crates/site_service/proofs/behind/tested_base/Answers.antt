use Rattle.std.proofs.Common.{refl}
use Rattle.site_service.proofs.BehindBases.{past_one}
use Rattle.site_service.proofs.behind.tested_base.Goals as goal

pub returns-in_default-clause-line : goal.returns-in_default-clause-line
returns-in_default-clause-line c = (refl, λ base starts past is. (rw c.in_default.is at c.in_ok-base.ensures.none) base starts)

pub returns-in-None-clause-line : goal.returns-in-None-clause-line
returns-in-None-clause-line c = (
  refl,
  λ base starts past is.
      (rw c.in-None.is at c.in_ok-stand_on.ensures.none) past
      (past_one c.args.schema.now c.args.number.0 c.args.records.now base c.in-Some.base starts (rw c.in-Some.is at c.in_ok-base.ensures.some)
      past is),
)
