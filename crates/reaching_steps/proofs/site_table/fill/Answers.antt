use Rattle.std.proofs.Common.{◌∙◌, sym, ap, arith}
use Rattle.field_bounds.specs.Schema.{SchemaValue}
use Rattle.world_steps.specs.View.{trace_of}
use Rattle.reaching_steps.proofs.OnePass.{read_start, read_next, read_whole}
use Rattle.reaching_steps.proofs.site_table.fill.Goals as goal

pub loop-i-init : goal.loop-i-init
loop-i-init c = (
  c.requires.count,
  read_start c.args.world.now.schema c.args.field.0 c.trace-trace.result.now c.args.table.now c.requires.empty,
)

pub read_there-requires : goal.read_there-requires
read_there-requires c = record { count = c.loop-i.invariant.0 ∙ ap (λ (x : SchemaValue). x.sites) (sym c.schema-schema.ensures.value) }

pub loop-i-preserved : goal.loop-i-preserved
loop-i-preserved c = (
  c.read_there.auto.table ∙ c.loop-i.invariant.0,
  read_next c.args.world.now.schema c.schema-schema.result.now c.schema-schema.ensures.value c.args.field.0 c.trace-trace.result.now
      (trace_of c.args.world.now) c.loop-i.i _ c.loop-i.table c.read_there.new.table c.loop-i-test.true c.loop-i.invariant.0
      c.read_there.auto.table c.trace-trace.ensures.world c.trace-trace.ensures.sound c.in_ok-read_there.ensures.read
      c.loop-i.invariant.1,
)

pub returns : goal.returns
returns c = record {
  told = read_whole c.args.world.now.schema c.args.field.0 c.trace-trace.result.now (trace_of c.args.world.now) c.loop-i.i c.loop-i.table
      (omega (arith, c.loop-i-test.false)) c.trace-trace.ensures.world c.loop-i.invariant.1;
}
