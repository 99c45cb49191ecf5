use Rattle.std.proofs.Common.{rules}
use Rattle.kept_records.proofs.torn.TornMedium.strike.Goals as goal

pub returns-clause-mishap : goal.returns-clause-mishap
returns-clause-mishap c = search rules
