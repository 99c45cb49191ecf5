use Rattle.std.proofs.Math.Facts.{to_z-of_z}
use Rattle.world_steps.specs.View.{WorldValue}
use Rattle.reaching_steps.specs.Taken.{steps_of}
use Rattle.reaching_steps.proofs.Firsts.{if_ok}
use Rattle.reaching_steps.proofs.Growing.{does}
use Rattle.reaching_steps.proofs.steps.plan_clear.Goals as goal

pub returns : goal.returns
returns c =
    let w : WorldValue = c.args.trial.now in
    let same = to_z-of_z c.ranges.target in
    let good = rw (c.schema.ensures.value, c.world.ensures.value) at c.sites-sites.ensures.limits in
    let reached = rw same at c.plan.ensures.reached in
    record {
      reached = reached;
      does = if_ok c.plan.result _ _
          (λ taken is fit. does w c.args.named c.args.field c.args.target (steps_of taken.items) good fit c.requires.clear is.steps)
          reached;
      front = rw same at c.plan.ensures.front;
    }
