use Rattle.std.proofs.Common.{rules}
use Rattle.central_machine.proofs.field_sums.FieldSums.take.Goals as goal

pub commit_and_close-requires : goal.commit_and_close-requires
commit_and_close-requires c = search rules

pub escrows_or_none-requires-in-Some-Aborts : goal.escrows_or_none-requires-in-Some-Aborts
escrows_or_none-requires-in-Some-Aborts c = search rules

pub close-requires : goal.close-requires
close-requires c = search rules

pub returns-in-Some-Commits : goal.returns-in-Some-Commits
returns-in-Some-Commits c = search rules

pub returns-in-Some-Aborts : goal.returns-in-Some-Aborts
returns-in-Some-Aborts c = search rules
