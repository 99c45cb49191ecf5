use Rattle.std.proofs.lemmas.Result.{IfOk-weaker}
use Rattle.world_logs.proofs.NoneBroken.{are_for_logs}
use Rattle.folder_tests.proofs.of_world_logs.standings_of.Goals as goal

pub returns : goal.returns
returns g c =
    IfOk-weaker c.standings_or_fault.result _ _
    (λ standings same. are_for_logs c.args.schema.now c.in_ok-outcomes.outcomes.items standings.items c.in_ok-outcomes.ensures same)
    c.standings_or_fault.ensures.standings
