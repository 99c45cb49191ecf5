use Rattle.std.proofs.Common.{◌∙◌, arith}
use Rattle.field_bounds.specs.Effects.{is_for_good}
use Rattle.world_steps.specs.View.{trace_of}
use Rattle.reaching_steps.proofs.Owning.{guarded_small}
use Rattle.reaching_steps.proofs.shares.guarded_at.Goals as goal

pub overflow_cast-result : goal.overflow_cast-result
overflow_cast-result c =
    let gone = (rw c.deref.ensures.value at c.gifts_in-gone.ensures.value) ∙ c.in_ok-standing.ensures.value.given is_for_good c.args.kind in
    let small = guarded_small c.args.trial.now.schema c.standing_at.ensures.limits
    (trace_of c.args.trial.now) c.standing_at.ensures.sound c.args.site.0 c.args.field.0 c.args.kind c.requires.in_schema in
    omega (arith, gone, small, c.in_ok-own.ensures.own, c.from.ensures)

pub overflow_add-result : goal.overflow_add-result
overflow_add-result c =
    let gone = (rw c.deref.ensures.value at c.gifts_in-gone.ensures.value) ∙ c.in_ok-standing.ensures.value.given is_for_good c.args.kind in
    let small = guarded_small c.args.trial.now.schema c.standing_at.ensures.limits
    (trace_of c.args.trial.now) c.standing_at.ensures.sound c.args.site.0 c.args.field.0 c.args.kind c.requires.in_schema in
    omega (arith, gone, small, c.in_ok-own.ensures.own, c.from.ensures)

pub returns : goal.returns
returns c =
    let gone = (rw c.deref.ensures.value at c.gifts_in-gone.ensures.value) ∙ c.in_ok-standing.ensures.value.given is_for_good c.args.kind in
    let small = guarded_small c.args.trial.now.schema c.standing_at.ensures.limits
    (trace_of c.args.trial.now) c.standing_at.ensures.sound c.args.site.0 c.args.field.0 c.args.kind c.requires.in_schema in
    record {
      value = omega (arith, gone, c.in_ok-own.ensures.own, c.from.ensures);
      small = omega (arith, gone, small, c.in_ok-own.ensures.own, c.from.ensures);
    }
