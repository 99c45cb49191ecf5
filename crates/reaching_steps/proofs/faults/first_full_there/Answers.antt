use Rattle.std.proofs.Common.{◌∙◌, sym}
use Rattle.world_steps.specs.View.{trace_of}
use Rattle.reaching_steps.specs.Reach.{has_no_number}
use Rattle.reaching_steps.proofs.Firsts.{found_is}
use Rattle.reaching_steps.proofs.faults.first_full_there.Goals as goal

pub returns-then-has_no_number : goal.returns-then-has_no_number
returns-then-has_no_number c = record {
  value = found_is
      (has_no_number c.args.trial.now.schema (trace_of c.args.trial.now) c.args.named.0) c.loop-site.site c.args.sites c.loop-site-test.true
      c.loop-site.invariant (sym c.has_no_number.ensures.value ∙ c.if-has_no_number.true);
}
