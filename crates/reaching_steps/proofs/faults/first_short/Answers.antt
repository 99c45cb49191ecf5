use Rattle.std.proofs.Common.{◌∙◌, sym}
use Rattle.world_steps.specs.View.{trace_of}
use Rattle.reaching_steps.specs.Body.{is_short_from}
use Rattle.reaching_steps.proofs.Firsts.{found_is}
use Rattle.reaching_steps.proofs.faults.first_short.Goals as goal

pub returns-then-short : goal.returns-then-short
returns-then-short c =
    record {
      value = found_is (is_short_from c.args.trial.now.schema (trace_of c.args.trial.now) c.args.site c.args.field) c.loop-from.from
          c.args.sites c.loop-from-test.true c.loop-from.invariant (sym c.in_ok-short.ensures.value ∙ c.if-short.true);
    }
