use Rattle.std.proofs.Common.{◌≡◌, false, reverse, take}
use Rattle.central_rules.specs.Verdict.{is_issued}
use Rattle.central_rules.proofs.plain.is_issued.Given as goal

abbrev pub invariant-loop-entry : goal.invariant-loop-entry
invariant-loop-entry l = is_issued l.statement (reverse (take l.entry-index l.front)) ≡ false
