use Rattle.std.proofs.Common.{arith}
use Rattle.std.proofs.lemmas.Grind.{common_steps}
use Rattle.file_medium.proofs.memory_file.MemoryFileLogFile.cut.Goals as goal

pub returns-clause-safe : goal.returns-clause-safe
returns-clause-safe c = grind (arith, common_steps)

pub returns-clause-least : goal.returns-clause-least
returns-clause-least c = grind (arith, common_steps)
