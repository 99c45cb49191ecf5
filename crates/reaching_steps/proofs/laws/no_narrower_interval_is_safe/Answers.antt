use Rattle.reaching_steps.proofs.Tightest.{value_is_reached}
use Rattle.reaching_steps.proofs.laws.no_narrower_interval_is_safe.Goals as goal

pub returns : goal.returns
returns c = record {
  reached = λ schema steps site field target good fit free within.
      value_is_reached schema good steps fit site field target free within;
}
