use Rattle.std.proofs.Common.{rules}
use Rattle.kept_records.proofs.keeping.append_commit.Goals as goal

pub returns-clause-added : goal.returns-clause-added
returns-clause-added g c = search rules

pub returns-clause-fate : goal.returns-clause-fate
returns-clause-fate g c = search rules
