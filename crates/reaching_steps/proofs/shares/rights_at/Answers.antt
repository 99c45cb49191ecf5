use Rattle.std.proofs.Common.{arith}
use Rattle.field_bounds.specs.Central.{at_site}
use Rattle.field_bounds.proofs.Conserved.{lawful_at}
use Rattle.world_steps.specs.View.{trace_of}
use Rattle.reaching_steps.proofs.Owning.{own_small}
use Rattle.reaching_steps.proofs.shares.rights_at.Goals as goal

pub overflow_cast-result : goal.overflow_cast-result
overflow_cast-result c =
    let w = c.args.trial.now in
    let law = lawful_at w.schema c.standing_at.ensures.limits (trace_of w) c.standing_at.ensures.sound c.args.site.0 c.requires.in_schema in
    let is = rw (c.schema.ensures.value, c.world.ensures.value) at c.rights_of-own.ensures.own in
    let own = is (at_site w.schema (trace_of w) c.args.site.0) law c.in_ok-standing.ensures.value in
    let small = own_small w.schema c.standing_at.ensures.limits (trace_of w) c.standing_at.ensures.sound c.args.site.0 c.args.field.0
    c.args.kind c.requires.in_schema in
    omega (arith, own, small)

pub overflow_cast-result-2 : goal.overflow_cast-result-2
overflow_cast-result-2 c =
    let w = c.args.trial.now in
    let law = lawful_at w.schema c.standing_at.ensures.limits (trace_of w) c.standing_at.ensures.sound c.args.site.0 c.requires.in_schema in
    let is = rw (c.schema.ensures.value, c.world.ensures.value) at c.rights_of-own.ensures.free in
    let free = is (at_site w.schema (trace_of w) c.args.site.0) law c.in_ok-standing.ensures.value in
    let small = own_small w.schema c.standing_at.ensures.limits (trace_of w) c.standing_at.ensures.sound c.args.site.0 c.args.field.0
    c.args.kind c.requires.in_schema in
    omega (arith, free, small)

pub returns : goal.returns
returns c =
    let w = c.args.trial.now in
    let es = at_site w.schema (trace_of w) c.args.site.0 in
    let law = lawful_at w.schema c.standing_at.ensures.limits (trace_of w) c.standing_at.ensures.sound c.args.site.0 c.requires.in_schema in
    let own_is = rw (c.schema.ensures.value, c.world.ensures.value) at c.rights_of-own.ensures.own in
    let free_is = rw (c.schema.ensures.value, c.world.ensures.value) at c.rights_of-own.ensures.free in
    let own = own_is es law c.in_ok-standing.ensures.value in
    let free = free_is es law c.in_ok-standing.ensures.value in
    let small = own_small w.schema c.standing_at.ensures.limits (trace_of w) c.standing_at.ensures.sound c.args.site.0 c.args.field.0
    c.args.kind c.requires.in_schema in
    record { own = own; free = free; small = (omega (arith, own, small), omega (arith, free, small)) }
