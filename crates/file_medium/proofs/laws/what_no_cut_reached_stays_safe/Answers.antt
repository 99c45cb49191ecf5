use Rattle.file_medium.proofs.Moments.{stays-safe}
use Rattle.file_medium.proofs.laws.what_no_cut_reached_stays_safe.Goals as goal

pub returns : goal.returns
returns c = stays-safe
