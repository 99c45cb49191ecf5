use Rattle.log_archives.proofs.Reaches.{told_on}
use Rattle.log_archives.proofs.laws.joints_go_on.Goals as goal

pub returns : goal.returns
returns c = record { told = λ old new before more gone tells. told_on old new before more gone tells }
