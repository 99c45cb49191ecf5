use Rattle.std.proofs.Common.{◌∙◌, sym}
use Rattle.world_steps.specs.View.{trace_of}
use Rattle.reaching_steps.specs.Body.{is_untold_to}
use Rattle.reaching_steps.proofs.Firsts.{found_is}
use Rattle.reaching_steps.proofs.faults.first_untold.Goals as goal

pub returns-then-untold : goal.returns-then-untold
returns-then-untold c =
    record {
      value = found_is (is_untold_to c.args.trial.now.schema (trace_of c.args.trial.now) c.args.site c.args.field) c.loop-to.to
          c.args.sites c.loop-to-test.true c.loop-to.invariant (sym c.in_ok-untold.ensures.value ∙ c.if-untold.true);
    }
