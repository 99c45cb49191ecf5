use Rattle.std.proofs.Common.{refl}
use Rattle.central_rules.specs.Verdict.{verdict_back}
use Rattle.central_machine.proofs.front_judge.FrontJudge.new.Goals as goal

pub returns : goal.returns
unfolding verdict_back
returns c = record { none = record { legal = refl; count = refl; totals = c.in_ok-new.ensures } }
