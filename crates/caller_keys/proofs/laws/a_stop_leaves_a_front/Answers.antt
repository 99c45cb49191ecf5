use Rattle.caller_keys.proofs.Fronts.{stops, cuts}
use Rattle.caller_keys.proofs.laws.a_stop_leaves_a_front.Goals as goal

pub returns-clause-stop : goal.returns-clause-stop
returns-clause-stop c = stops

pub returns-clause-cut : goal.returns-clause-cut
returns-clause-cut c = cuts
