use Rattle.reaching_steps.proofs.Reaching.{all_reached}
use Rattle.reaching_steps.proofs.laws.reach_meets.Goals as goal

pub returns : goal.returns
returns c = record {
  fit = λ schema steps site field target good fit clear. (all_reached schema good steps fit site field target clear).fit;
  fine = λ schema steps site field target good fit clear. (all_reached schema good steps fit site field target clear).fine;
  elsewhere = λ schema steps site field target good fit clear. (all_reached schema good steps fit site field target clear).then.0;
  reached = λ schema steps site field target good fit clear. (all_reached schema good steps fit site field target clear).then.1;
}
