use Rattle.std.proofs.Common.{arith, rules}
use Rattle.std.proofs.lemmas.Grind.{common_steps}
use Rattle.file_medium.proofs.medium.FileMedium.sync.Goals as goal

pub returns-then-self-clause-ok : goal.returns-then-self-clause-ok
returns-then-self-clause-ok g c = search rules

pub returns-then-self-clause-all : goal.returns-then-self-clause-all
returns-then-self-clause-all g c = search rules

pub returns-then-self-clause-sound : goal.returns-then-self-clause-sound
returns-then-self-clause-sound g c = search rules

pub returns-in-Ok-clause-ok : goal.returns-in-Ok-clause-ok
returns-in-Ok-clause-ok g c = grind (arith, common_steps)

pub returns-in-Ok-clause-all : goal.returns-in-Ok-clause-all
returns-in-Ok-clause-all g c = grind (arith, common_steps)

pub returns-in-Err-clause-err : goal.returns-in-Err-clause-err
returns-in-Err-clause-err g c = grind (arith, common_steps)

pub returns-in-Err-clause-kept : goal.returns-in-Err-clause-kept
returns-in-Err-clause-kept g c = search rules
