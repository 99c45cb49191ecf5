use Rattle.std.proofs.Common.{◌<◌, List, length, ap, arith}
use Rattle.std.proofs.lemmas.List.{length-reverse}
use Rattle.field_bounds.specs.declared.entry.Entry.{Entry}
use Rattle.field_bounds.specs.Owed.{max_number}
use Rattle.world_steps.specs.View.{trace_of}
use Rattle.reaching_steps.proofs.Quick.{none_full}
use Rattle.reaching_steps.proofs.faults.first_full.Goals as goal

pub returns-then-trace-from : goal.returns-then-trace-from
returns-then-trace-from c =
    let w = c.args.trial.now in
    let world = rw c.world.ensures.value at c.trace.ensures.world in
    let short : length (trace_of w) < max_number =
    omega (arith, ap (λ (l : List Entry). length l) world, length-reverse c.trace.result.now, c.if-trace-from.true, c.from.ensures) in
    record { value = none_full w.schema (trace_of w) c.args.named.0 c.args.sites short }
