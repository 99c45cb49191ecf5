use Rattle.std.proofs.Common.{rules}
use Rattle.central_machine.proofs.judging.judge.Goals as goal

pub judge_counted-requires : goal.judge_counted-requires
judge_counted-requires c = search rules

pub branch-verdict-requires : goal.branch-verdict-requires
branch-verdict-requires c κs = search rules

pub returns-in_err-verdict-clause-verdict : goal.returns-in_err-verdict-clause-verdict
returns-in_err-verdict-clause-verdict c = search rules

pub returns-in_err-verdict-clause-legal : goal.returns-in_err-verdict-clause-legal
returns-in_err-verdict-clause-legal c = search rules

pub returns-in_err-verdict-clause-illegal : goal.returns-in_err-verdict-clause-illegal
returns-in_err-verdict-clause-illegal c = search rules

pub returns-in_err-verdict-clause-sound : goal.returns-in_err-verdict-clause-sound
returns-in_err-verdict-clause-sound c = search rules

pub returns-clause-verdict : goal.returns-clause-verdict
returns-clause-verdict c = search rules

pub returns-clause-legal : goal.returns-clause-legal
returns-clause-legal c = search rules

pub returns-clause-illegal : goal.returns-clause-illegal
returns-clause-illegal c = search rules

pub returns-clause-sound : goal.returns-clause-sound
returns-clause-sound c = search rules
