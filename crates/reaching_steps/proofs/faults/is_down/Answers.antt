use Rattle.world_steps.specs.View.{trace_of}
use Rattle.reaching_steps.proofs.Quick.{up_told, down_told}
use Rattle.reaching_steps.proofs.faults.is_down.Goals as goal

pub returns-in-Some : goal.returns-in-Some
returns-in-Some c =
    let w = c.args.trial.now in
    let told = rw c.world.ensures.value at c.in-Some.ensures.value in
    record { value = up_told w.schema (trace_of w) c.args.site.0 c.args.field c.in-Some.field-0 told }

pub returns-in-None : goal.returns-in-None
returns-in-None c =
    let w = c.args.trial.now in
    let told = rw c.world.ensures.value at c.in-None.ensures.value in
    record { value = down_told w.schema (trace_of w) c.args.site.0 c.args.field c.requires.known told }
