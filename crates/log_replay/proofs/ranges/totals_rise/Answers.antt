use Rattle.log_replay.proofs.Rising.{all_rise}
use Rattle.log_replay.proofs.ranges.totals_rise.Goals as goal

pub returns : goal.returns
returns c = record { rise = λ F most small s m n. all_rise F most small s m n }
