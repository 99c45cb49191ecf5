use Rattle.std.proofs.Common.{rules}
use Rattle.kept_records.proofs.writing.put_piece.Goals as goal

pub drop-requires-in-Some : goal.drop-requires-in-Some
drop-requires-in-Some c κs = search rules

pub drop-requires-in-Some-2 : goal.drop-requires-in-Some-2
drop-requires-in-Some-2 c κs = search rules

pub drop-requires-in-Some-3 : goal.drop-requires-in-Some-3
drop-requires-in-Some-3 c κs = search rules

pub returns-in-Some : goal.returns-in-Some
returns-in-Some c = search rules
