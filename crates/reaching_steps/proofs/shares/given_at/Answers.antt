use Rattle.std.proofs.Common.{arith}
use Rattle.field_bounds.specs.Effects.{is_to}
use Rattle.world_steps.specs.View.{trace_of}
use Rattle.reaching_steps.proofs.Owning.{given_small}
use Rattle.reaching_steps.proofs.shares.given_at.Goals as goal

pub overflow_cast-result : goal.overflow_cast-result
overflow_cast-result c =
    let w = c.args.trial.now in
    let is = rw c.deref.ensures.value at c.gifts_in-total.ensures.value in
    let small = given_small w.schema (trace_of w) c.standing_at.ensures.sound c.args.from.0 c.args.to.0 c.args.field.0 c.args.kind
    c.requires.in_schema in
    omega (arith, is, c.in_ok-standing.ensures.value.given (is_to c.args.to.0) c.args.kind, small)

pub returns : goal.returns
returns c =
    let is = rw c.deref.ensures.value at c.gifts_in-total.ensures.value in
    record { value = omega (arith, is, c.in_ok-standing.ensures.value.given (is_to c.args.to.0) c.args.kind) }
