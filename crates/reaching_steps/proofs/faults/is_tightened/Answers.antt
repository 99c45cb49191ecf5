use Rattle.std.proofs.Common.{sym, ◌∙◌}
use Rattle.world_steps.specs.View.{trace_of}
use Rattle.reaching_steps.proofs.Firsts.{cut_found, none_cut_more, never_cut}
use Rattle.reaching_steps.proofs.faults.is_tightened.Goals as goal

pub returns-then-cuts : goal.returns-then-cuts
returns-then-cuts c =
    let w = c.args.trial.now in
    record {
      value = cut_found w.schema (trace_of w) c.args.field.0 c.args.sites c.loop-site.site c.requires.all c.loop-site-test.true
          (sym c.in_ok-cuts.ensures.value ∙ c.if-cuts.true);
    }

pub loop-site-preserved : goal.loop-site-preserved
loop-site-preserved c =
    let w = c.args.trial.now in
    none_cut_more w.schema (trace_of w) c.args.field.0 c.loop-site.site
    (sym c.in_ok-cuts.ensures.value ∙ c.if-cuts.false) c.loop-site.invariant

pub returns : goal.returns
returns c =
    let w = c.args.trial.now in
    record {
      value = never_cut w.schema (trace_of w) c.args.field.0 c.loop-site.site c.args.sites c.requires.all c.loop-site.auto.site-end
          c.loop-site-test.false c.loop-site.invariant;
    }
