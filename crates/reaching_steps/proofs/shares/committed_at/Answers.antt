use Rattle.std.proofs.Common.{arith, rules}
use Rattle.std.proofs.Math.Facts.{to_z-of_z}
use mir.Syntax.{w64}
use mir.Val.{SFits}
use Rattle.field_bounds.specs.declared.kind.Kind.TheVariants.{Lower, Raise}
use Rattle.world_steps.specs.View.{trace_of}
use Rattle.reaching_steps.proofs.Changing.{settled_at}
use Rattle.reaching_steps.proofs.Owning.{committed_near, committed_from, both_more}
use Rattle.reaching_steps.proofs.shares.committed_at.Goals as goal

pub loop-site-preserved : goal.loop-site-preserved
loop-site-preserved c =
    let l = c.loop-site in
    let good = rw (c.schema.ensures.value, c.world-world.ensures.value) at c.sites-sites.ensures.limits in
    let settled = settled_at c.args.trial.now.schema good c.args.field.0 in
    let t = trace_of c.args.trial.now in (
      both_more (settled Lower t) (settled Raise t) l.site l.up l.down c.in_ok-raised.raised c.in_ok-raised.lowered l.invariant.0
          c.in_ok-raised.ensures.value,
      omega (arith, l.invariant.1, c.in_ok-raised.ensures.near),
      omega (arith, l.invariant.2, c.in_ok-raised.ensures.near),
    )

pub moved_by-requires-clause-near : goal.moved_by-requires-clause-near
moved_by-requires-clause-near c =
    let l = c.loop-site in
    let schema = c.args.trial.now.schema in
    let t = trace_of c.args.trial.now in
    let good = rw (c.schema.ensures.value, c.world-world.ensures.value) at c.sites-sites.ensures.limits in
    let sound = rw c.world-world.ensures.value at c.trace-trace.ensures.sound in
    let all = rw (c.schema.ensures.value, c.world-world.ensures.value) at c.sites-sites.ensures.value in
    let value = rw (c.schema-2.ensures.value, c.world-world.ensures.value) at c.value_at.ensures.value in
    let is = committed_from schema good t sound c.args.field.0 l.site c.sites-sites.result l.up l.down c.value_at.result l.auto.site-end
    c.loop-site-test.false all l.invariant.0 value in
    let fits : SFits w64 c.value_at.result = search rules in
    rw (to_z-of_z fits, is) (committed_near schema good t sound c.args.field.0)

pub returns : goal.returns
returns c =
    let l = c.loop-site in
    let schema = c.args.trial.now.schema in
    let t = trace_of c.args.trial.now in
    let good = rw (c.schema.ensures.value, c.world-world.ensures.value) at c.sites-sites.ensures.limits in
    let sound = rw c.world-world.ensures.value at c.trace-trace.ensures.sound in
    let all = rw (c.schema.ensures.value, c.world-world.ensures.value) at c.sites-sites.ensures.value in
    let value = rw (c.schema-2.ensures.value, c.world-world.ensures.value) at c.value_at.ensures.value in
    let is = committed_from schema good t sound c.args.field.0 l.site c.sites-sites.result l.up l.down c.value_at.result l.auto.site-end
    c.loop-site-test.false all l.invariant.0 value in
    let fits : SFits w64 c.value_at.result = search rules in
    let moved = rw (to_z-of_z fits, is) at c.moved_by.ensures.value in
    let out : SFits w64 c.moved_by.result = search rules in
    record { value = rw (to_z-of_z out) moved; near = rw (to_z-of_z out, moved) (committed_near schema good t sound c.args.field.0) }
