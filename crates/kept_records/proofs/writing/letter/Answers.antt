use Rattle.std.proofs.Common.{rules}
use Rattle.kept_records.proofs.writing.letter.Goals as goal

pub returns-in-Gift : goal.returns-in-Gift
returns-in-Gift c = search rules
