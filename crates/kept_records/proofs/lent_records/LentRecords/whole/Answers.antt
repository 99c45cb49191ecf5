use Rattle.std.proofs.Common.{rules}
use Rattle.kept_records.proofs.lent_records.LentRecords.whole.Goals as goal

pub returns-in-Commit-clause-whole : goal.returns-in-Commit-clause-whole
returns-in-Commit-clause-whole c = search rules

pub returns-in-Commit-clause-same : goal.returns-in-Commit-clause-same
returns-in-Commit-clause-same c = search rules
