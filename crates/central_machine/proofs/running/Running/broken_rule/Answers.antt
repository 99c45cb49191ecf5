use Rattle.std.proofs.Common.{rules}
use Rattle.central_machine.proofs.running.Running.broken_rule.Goals as goal

pub returns-in-Some : goal.returns-in-Some
returns-in-Some c = search rules

pub returns-then-not-statement_holds : goal.returns-then-not-statement_holds
returns-then-not-statement_holds c = search rules

pub returns : goal.returns
returns c = search rules
