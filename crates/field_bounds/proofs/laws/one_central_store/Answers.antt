use Rattle.field_bounds.proofs.Conserved.{conserved_throughout}
use Rattle.field_bounds.proofs.Headline.{sound_is_central, within_bounds, outcomes_are_bounded}
use Rattle.field_bounds.proofs.laws.one_central_store.Goals as goal

pub returns-clause-central : goal.returns-clause-central
returns-clause-central c = λ schema trace good sound. sound_is_central schema good trace sound

pub returns-clause-conserved : goal.returns-clause-conserved
returns-clause-conserved c = λ schema trace good sound. conserved_throughout schema good trace sound

pub returns-clause-bounded : goal.returns-clause-bounded
returns-clause-bounded c = λ schema trace good sound f. within_bounds schema good trace sound f

pub returns-clause-outcomes : goal.returns-clause-outcomes
returns-clause-outcomes c = λ schema trace good sound. outcomes_are_bounded schema good trace sound
