use Rattle.std.proofs.Common.{arith}
use Rattle.field_bounds.specs.declared.kind.Kind.TheVariants.{Lower, Raise}
use Rattle.world_steps.specs.View.{trace_of}
use Rattle.reaching_steps.proofs.Quick.{shares_told}
use Rattle.reaching_steps.proofs.Balance.{share_small}
use Rattle.reaching_steps.proofs.shares.shares_at.Goals as goal

pub returns-in-Some : goal.returns-in-Some
returns-in-Some c =
    let w = c.args.trial.now in
    let good = rw c.world-world.ensures.value at c.schema-schema.ensures.limits in
    let sound = rw c.world-world.ensures.value at c.trace-trace.ensures.sound in
    let told = rw c.world-world.ensures.value at c.in-Some.ensures.value in
    let is = shares_told w.schema (trace_of w) c.args.site.0 c.args.field c.in-Some.shares told in
    let small = share_small w.schema good (trace_of w) sound c.args.field.0 c.args.site.0 in
    record {
      lower = is.0;
      raise = is.1;
      small = (omega (arith, is.0, small Lower c.requires.in_schema), omega (arith, is.1, small Raise c.requires.in_schema));
    }
