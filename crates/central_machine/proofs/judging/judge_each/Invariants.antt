use Rattle.std.proofs.Common.{◌≡◌, ◌≤◌, ◌-◌, reverse, take, length}
use Rattle.central_rules.specs.declared.verdict.Verdict.TheVariants.{Legal}
use Rattle.central_rules.specs.Verdict.{verdict_back}
use Rattle.central_machine.specs.FrontTotals.{AreRunning}
use Rattle.central_machine.proofs.judging.judge_each.Given as goal

abbrev pub invariant-loop-entry : goal.invariant-loop-entry
invariant-loop-entry l = record {
  same : l.reader.entries.now ≡ l.entries;
  within : l.reader.read ≤ length l.entries;
  legal : verdict_back l.schema (reverse (take l.reader.read l.entries)) ≡ Legal;
  totals : AreRunning l.schema (reverse (take l.reader.read l.entries)) l.totals;
}

abbrev pub decreases-loop-entry : goal.decreases-loop-entry
decreases-loop-entry l = length l.entries - l.reader.read
