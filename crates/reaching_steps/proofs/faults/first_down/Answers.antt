use Rattle.std.proofs.Common.{◌∙◌, sym}
use Rattle.world_steps.specs.View.{trace_of}
use Rattle.reaching_steps.specs.Reach.{is_down}
use Rattle.reaching_steps.proofs.Firsts.{found_is}
use Rattle.reaching_steps.proofs.faults.first_down.Goals as goal

pub returns-then-is_down : goal.returns-then-is_down
returns-then-is_down c = record {
  value = found_is
      (is_down c.args.trial.now.schema (trace_of c.args.trial.now)) c.loop-site.site c.args.sites c.loop-site-test.true
      c.loop-site.invariant
      (sym c.is_down.ensures.value ∙ c.if-is_down.true);
}
