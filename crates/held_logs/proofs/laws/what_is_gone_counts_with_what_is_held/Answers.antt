use Rattle.held_logs.proofs.Whole.{stand_epoch, stand_length, count_plain}
use Rattle.held_logs.proofs.laws.what_is_gone_counts_with_what_is_held.Goals as goal

pub returns : goal.returns
returns c = record {
  epoch = λ schema s base past rs rest held gone stand is log behind. stand_epoch schema s base past rs rest held gone stand is log behind;
  size = λ past rs rest held gone stand log behind told. stand_length past rs rest held gone log stand behind told;
  others = λ past rs rest held gone count log behind told. count_plain past rs rest held gone log count behind told;
}
