use Rattle.std.proofs.Common.{◌≡◌, reverse, take}
use Rattle.central_rules.specs.declared.verdict.Verdict.TheVariants.{Legal}
use Rattle.central_rules.specs.Verdict.{verdict_back}
use Rattle.central_rules.proofs.plain.judge_fronts.Given as goal

abbrev pub invariant-loop-i : goal.invariant-loop-i
invariant-loop-i l = verdict_back l.schema (reverse (take l.i l.entries)) ≡ Legal
