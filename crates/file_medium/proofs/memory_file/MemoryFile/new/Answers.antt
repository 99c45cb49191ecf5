use Rattle.std.proofs.Common.{rules}
use Rattle.file_medium.proofs.memory_file.MemoryFile.new.Goals as goal

pub returns-clause-least : goal.returns-clause-least
returns-clause-least c = search rules
