use Rattle.std.proofs.Common.{subst}
use Rattle.std.proofs.lemmas.Result.{on_ok_weaker}
use Rattle.kept_state.specs.declared.luck.Luck.TheVariants.{Fine}
use Rattle.world_steps.specs.declared.step.WorldStep.{WorldStep}
use Rattle.world_steps.specs.declared.step.WorldStep.TheVariants.{Do}
use Rattle.escrow_run.specs.Text.{Asks}
use Rattle.escrow_run.proofs.AnswerLemmas.{answered_step}
use Rattle.escrow_run.proofs.machine.Machine.take_asked.Goals as goal

pub returns-in-Some-clause-ok : goal.returns-in-Some-clause-ok
returns-in-Some-clause-ok c =
    let asks = subst (λ (s : WorldStep). Asks c.args.self.now.world.schema c.args.line.now s) c.in-Some.ensures c.requires.asks in
    on_ok_weaker c.take_spelled.result
    (λ took. answered_step c.args.line.now (Do c.in-Some.site c.in-Some.command Fine) _ _ _ _ asks took) c.take_spelled.ensures.ok

pub returns-in-None-clause-ok : goal.returns-in-None-clause-ok
returns-in-None-clause-ok c =
    on_ok_weaker c.take.result (λ took. answered_step c.args.line.now c.args.step _ _ _ _ c.requires.asks took) c.take.ensures.ok
