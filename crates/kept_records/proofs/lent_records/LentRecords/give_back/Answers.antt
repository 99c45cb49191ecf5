use Rattle.std.proofs.Common.{rules}
use Rattle.kept_records.proofs.lent_records.LentRecords.give_back.Goals as goal

pub returns-in-Commit : goal.returns-in-Commit
returns-in-Commit c = search rules

pub drop-kept-requires-in_default : goal.drop-kept-requires-in_default
drop-kept-requires-in_default c κs = search rules

pub drop-kept-requires-in_default-2 : goal.drop-kept-requires-in_default-2
drop-kept-requires-in_default-2 c κs = search rules

pub drop-kept-requires-in_default-3 : goal.drop-kept-requires-in_default-3
drop-kept-requires-in_default-3 c κs = search rules

pub returns : goal.returns
returns c = search rules
