use Rattle.std.proofs.Math.Facts.{to_z-of_z}
use Rattle.world_steps.specs.View.{trace_of}
use Rattle.reaching_steps.proofs.Tightest.{only_memory}
use Rattle.reaching_steps.proofs.taking.reach_in.Goals as goal

pub returns-clause-tight : goal.returns-clause-tight
returns-clause-tight c =
    let w = c.args.world.now in
    only_memory c.reach_by.result w.schema (trace_of w) c.args.site c.args.field c.args.target
    (rw (to_z-of_z c.ranges.target) at c.reach_by.ensures.fault)
