use Rattle.log_replay.proofs.Rising.{summary_fits}
use Rattle.log_replay.proofs.ranges.summary_may_be_written.Goals as goal

pub returns : goal.returns
returns c = record { ranges = λ schema s rs good below lawful fits. summary_fits schema s rs good below lawful fits }
