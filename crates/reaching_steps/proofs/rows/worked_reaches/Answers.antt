use Rattle.std.proofs.Common.{refl}
use Rattle.std.specs.Fmt.{digits}
use Rattle.reaching_steps.proofs.rows.worked_reaches.Goals as goal

pub returns : goal.returns
unfolding digits
returns c = record {
  down = (refl, refl);
  up = (refl, refl);
  there = (refl, refl);
  outside = refl;
  flight = refl;
  too_low = refl;
  just = (refl, refl);
  unstated = refl;
  stated = (refl, refl);
  down_site = refl;
  tightened = refl;
  «open» = (refl, refl);
}
