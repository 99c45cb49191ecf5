use Rattle.std.proofs.Math.Facts.{to_z-of_z}
use Rattle.reaching_steps.proofs.taking.reach_by.Goals as goal

pub returns-clause-fault : goal.returns-clause-fault
returns-clause-fault c =
    rw (to_z-of_z c.ranges.target, c.of-trial.ensures.same, c.replace.ensures.value) at c.reach_on-result.ensures.fault

pub returns-clause-reached : goal.returns-clause-reached
returns-clause-reached c =
    rw (to_z-of_z c.ranges.target, c.of-trial.ensures.same, c.replace.ensures.value, ← c.into_world.ensures.same)
    at c.reach_on-result.ensures.reached

pub returns-clause-does : goal.returns-clause-does
returns-clause-does c =
    rw (to_z-of_z c.ranges.target, c.of-trial.ensures.same, c.replace.ensures.value) at c.reach_on-result.ensures.does

pub returns-clause-same : goal.returns-clause-same
returns-clause-same c =
    rw (c.of-trial.ensures.same, c.replace.ensures.value, ← c.into_world.ensures.same) at c.reach_on-result.ensures.same

pub returns-clause-front : goal.returns-clause-front
returns-clause-front c =
    rw (to_z-of_z c.ranges.target, c.of-trial.ensures.same, c.replace.ensures.value, ← c.into_world.ensures.same)
    at c.reach_on-result.ensures.front
