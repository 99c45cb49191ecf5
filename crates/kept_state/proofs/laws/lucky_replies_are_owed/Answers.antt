use Rattle.kept_state.proofs.laws.lucky_replies_are_owed.Goals as goal
use Rattle.kept_state.proofs.Lucky.{lucky_fits}

pub returns : goal.returns
returns c = record { owed = λ schema s base xs command luck. lucky_fits schema s base xs command luck }
