use Rattle.std.proofs.Common.{Bool, List, sym, subst, rules}
use Rattle.std.specs.Bool.{IsTrue}
use Rattle.field_bounds.specs.declared.entry.Command.{Command}
use Rattle.site_workers.specs.Scripts.{HasNoAccept}
use Rattle.site_workers.proofs.Fits.{script_at, scripts_more}
use Rattle.site_workers.proofs.fitting.scripts_fit.Goals as goal

pub returns-then-not-has_no_accept : goal.returns-then-not-has_no_accept
returns-then-not-has_no_accept c = record {
  fit = (
    λ no. search rules,
    λ fit. subst (λ (b : Bool). IsTrue b) c.if-not-has_no_accept.true
        (c.has_no_accept.ensures.1 (subst (λ (l : List Command). HasNoAccept l) (sym c.as_slice.ensures.value)
        (script_at c.args.scripts.now c.loop-script.script-index c.script-item.result c.loop-script-test.true c.script-item.is fit.1))),
  );
}

pub loop-script-preserved : goal.loop-script-preserved
loop-script-preserved c =
    let now : HasNoAccept c.as_slice.result.now = search rules in
    scripts_more c.args.scripts.now c.loop-script.script-index c.script-item.result c.loop-script-test.true c.script-item.is
    c.loop-script.invariant (subst (λ (l : List Command). HasNoAccept l) c.as_slice.ensures.value now)
