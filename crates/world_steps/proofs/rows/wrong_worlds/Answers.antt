use Rattle.std.specs.Fmt.{digits}
use Rattle.world_steps.proofs.rows.wrong_worlds.Goals as goal

pub returns-clause-torn_kept : goal.returns-clause-torn_kept
unfolding digits
returns-clause-torn_kept c = λ e. cc

pub returns-clause-whole_lost : goal.returns-clause-whole_lost
unfolding digits
returns-clause-whole_lost c = λ e. cc

pub returns-clause-epoch_again : goal.returns-clause-epoch_again
unfolding digits
returns-clause-epoch_again c = λ e. cc

pub returns-clause-torn_cut_kept : goal.returns-clause-torn_cut_kept
unfolding digits
returns-clause-torn_cut_kept c = λ e. cc
