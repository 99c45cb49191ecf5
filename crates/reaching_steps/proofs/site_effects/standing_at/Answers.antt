use Rattle.std.proofs.Common.{arith}
use Rattle.world_steps.specs.View.{trace_of}
use Rattle.reaching_steps.proofs.Reading.{reads_on}
use Rattle.reaching_steps.proofs.OnePass.{front_whole}
use Rattle.reaching_steps.proofs.site_effects.standing_at.Goals as goal

pub loop-i-init : goal.loop-i-init
loop-i-init c = c.standing_at_first-standing.ensures.fresh c.args.field.0

pub loop-i-preserved : goal.loop-i-preserved
loop-i-preserved c =
    reads_on c.args.world.now.schema c.schema-schema.result.now c.schema-schema.ensures.value c.args.site.0 c.args.field.0 c.loop-i.i
    c.trace-trace.result.now (trace_of c.args.world.now) _ c.loop-i.standing c.read_entry.new.standing
    c.loop-i-test.true c.requires.in_schema c.trace-trace.ensures.world c.trace-trace.ensures.sound c.in_ok-read_entry.ensures.read
    c.loop-i.invariant

pub returns : goal.returns
returns c = record {
  value = front_whole c.args.world.now.schema c.args.site.0 c.args.field.0 c.trace-trace.result.now (trace_of c.args.world.now) c.loop-i.i
      c.loop-i.standing (omega (arith, c.loop-i-test.false)) c.trace-trace.ensures.world c.loop-i.invariant;
}
