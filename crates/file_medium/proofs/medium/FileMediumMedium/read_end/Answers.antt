use Rattle.std.proofs.Common.{rules}
use Rattle.file_medium.proofs.medium.FileMediumMedium.read_end.Goals as goal

pub returns-clause-length : goal.returns-clause-length
returns-clause-length g c = search rules
