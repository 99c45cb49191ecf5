use Rattle.std.proofs.Common.{All, subst, List, refl}
use Rattle.std.proofs.lemmas.List.{take_all}
use Rattle.std.proofs.lemmas.List.Elements.{All-more}
use Rattle.world_steps.specs.declared.step.WorldStep.{WorldStep}
use Rattle.world_steps.specs.World.{StepFits}
use Rattle.world_steps.proofs.step.steps_fit.Goals as goal

pub loop-step-preserved : goal.loop-step-preserved
loop-step-preserved c = All-more (StepFits c.args.schema.now) c.args.steps.now c.loop-step.step-index _ c.loop-step-test.true
    c.loop-step.invariant (c.step_fits.ensures.fits.0 c.if-not-step_fits.false)

pub returns : goal.returns
returns c = record {
  fit = (
    λ is. subst (λ (l : List WorldStep). All (StepFits c.args.schema.now) l)
        (take_all c.loop-step.step-index c.args.steps.now c.loop-step-test.false) c.loop-step.invariant,
    λ all. refl,
  );
}
