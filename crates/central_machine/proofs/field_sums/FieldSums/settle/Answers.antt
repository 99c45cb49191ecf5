use Rattle.std.proofs.Common.{rules}
use Rattle.central_machine.proofs.field_sums.FieldSums.settle.Goals as goal

pub escrows_or_none-requires : goal.escrows_or_none-requires
escrows_or_none-requires c = search rules

pub commit-requires : goal.commit-requires
commit-requires c = search rules

pub returns-in-Some-Commits : goal.returns-in-Some-Commits
returns-in-Some-Commits c = search rules
