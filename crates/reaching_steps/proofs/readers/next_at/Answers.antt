use Rattle.std.proofs.Common.{arith}
use Rattle.world_steps.specs.View.{trace_of}
use Rattle.reaching_steps.proofs.Few.{next_small}
use Rattle.reaching_steps.proofs.readers.next_at.Goals as goal

pub overflow_add-result : goal.overflow_add-result
overflow_add-result c =
    let w = c.args.trial.now in
    let sound = rw c.world.ensures.value at c.trace.ensures.sound in
    let count = rw (c.trace.ensures.world, c.world.ensures.value) at c.numbers_at-epoch.ensures.count in
    omega (arith, next_small w.schema (trace_of w) c.args.site.0 c.numbers_at-epoch.result.1 sound c.requires.in_schema count)

pub overflow_cast-result : goal.overflow_cast-result
overflow_cast-result c =
    let w = c.args.trial.now in
    let sound = rw c.world.ensures.value at c.trace.ensures.sound in
    let count = rw (c.trace.ensures.world, c.world.ensures.value) at c.numbers_at-epoch.ensures.count in
    omega (arith, next_small w.schema (trace_of w) c.args.site.0 c.numbers_at-epoch.result.1 sound c.requires.in_schema count)
