use Rattle.std.proofs.Common.{rules}
use Rattle.std.proofs.Math.Facts.{to_z-of_z}
use Rattle.world_steps.specs.View.{trace_of}
use Rattle.reaching_steps.proofs.Tightest.{only_memory}
use Rattle.reaching_steps.proofs.taking.reach.Goals as goal

pub returns-in_err-taken-clause-tight : goal.returns-in_err-taken-clause-tight
returns-in_err-taken-clause-tight c =
    let w = c.args.world.now in
    only_memory c.from_residual.result w.schema (trace_of w) c.args.site c.args.field c.args.target (search rules)

pub returns-clause-does : goal.returns-clause-does
returns-clause-does c =
    let all = rw (to_z-of_z c.ranges.target, c.in-Ok.ensures.same) at c.in_ok-taken.ensures.does in
    rw (c.in-Ok-steps_alone.ensures.steps, c.deref.ensures.value) (all c.copy_of.ensures.fit)
