use Rattle.std.proofs.Common.{refl}
use Rattle.std.specs.Fmt.{digits}
use Rattle.world_steps.proofs.rows.worked_worlds.Goals as goal

pub returns : goal.returns
unfolding digits
returns c = record {
  passed_on = refl;
  out_of_order = refl;
  aborted = refl;
  lost = refl;
  kept = refl;
  kept_late = refl;
  epoch_used = refl;
  gift_kept = refl;
  taken_in = refl;
  taken_in_late = refl;
  read_elsewhere = refl;
  tightened = refl;
  none_left = refl;
  cut_kept = refl;
  cut_lost = refl;
  refused = refl;
}
