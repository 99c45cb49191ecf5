use Rattle.std.proofs.Common.{arith}
use Rattle.std.proofs.lemmas.Grind.{common_steps}
use Rattle.file_medium.proofs.medium.make_safe.Goals as goal

pub returns-in-EachAppend-clause-safe : goal.returns-in-EachAppend-clause-safe
returns-in-EachAppend-clause-safe g c = grind (arith, common_steps)
