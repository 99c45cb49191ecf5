use Rattle.std.proofs.Common.{rules}
use Rattle.file_medium.proofs.memory_file.MemoryFile.arm.Goals as goal

pub returns : goal.returns
returns c = search rules
