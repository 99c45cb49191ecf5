use Rattle.std.proofs.lemmas.Grind.{common_steps}
use Rattle.std.proofs.Common.{rules, arith}
use Rattle.named_log.proofs.named_log.NamedLogLogFile.sync.Goals as goal

pub invariant_of-self : goal.invariant_of-self
invariant_of-self g c = search rules

pub returns-then-self-clause-kept : goal.returns-then-self-clause-kept
returns-then-self-clause-kept g c = grind (arith, common_steps)

pub returns-then-self-clause-name : goal.returns-then-self-clause-name
returns-then-self-clause-name g c = search rules

pub returns-then-self-clause-err : goal.returns-then-self-clause-err
returns-then-self-clause-err g c = search rules

pub returns-then-self-clause-lost : goal.returns-then-self-clause-lost
returns-then-self-clause-lost g c = search rules

pub returns-clause-ok : goal.returns-clause-ok
returns-clause-ok g c = search rules

pub returns-clause-sound : goal.returns-clause-sound
returns-clause-sound g c = search rules

pub returns-clause-name : goal.returns-clause-name
returns-clause-name g c = grind (arith, common_steps)

pub returns-clause-lost : goal.returns-clause-lost
returns-clause-lost g c = search rules
