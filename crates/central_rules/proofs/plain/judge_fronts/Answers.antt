use Rattle.std.proofs.Common.{sym, ◌∙◌, refl, arith}
use Rattle.central_rules.specs.Verdict.{verdict_back}
use Rattle.central_rules.proofs.Verdicts.{stop_here, go_on}
use Rattle.central_rules.proofs.plain.judge_fronts.Goals as goal

pub loop-i-init : goal.loop-i-init
unfolding verdict_back
loop-i-init c = refl

pub returns-in-Some : goal.returns-in-Some
returns-in-Some c = record {
  verdict = stop_here c.args.schema.now c.args.entries.now c.loop-i.i _ (omega arith) c.loop-i.invariant c.in-Some.rule
      (sym c.in_ok-rule.ensures ∙ c.in-Some.is);
}

pub loop-i-preserved : goal.loop-i-preserved
loop-i-preserved c = go_on c.args.schema.now c.args.entries.now c.loop-i.i _ (omega arith) c.loop-i.invariant
    (sym c.in_ok-rule.ensures ∙ c.in_default.is)
