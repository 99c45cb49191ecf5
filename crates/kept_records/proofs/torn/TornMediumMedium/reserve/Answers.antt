use Rattle.std.proofs.Common.{rules}
use Rattle.kept_records.proofs.torn.TornMediumMedium.reserve.Goals as goal

pub returns-clause-ok : goal.returns-clause-ok
returns-clause-ok c = search rules

pub returns-clause-bytes : goal.returns-clause-bytes
returns-clause-bytes c = search rules

pub returns-clause-room : goal.returns-clause-room
returns-clause-room c = search rules

pub returns-clause-failed : goal.returns-clause-failed
returns-clause-failed c = search rules

pub returns-clause-foretold : goal.returns-clause-foretold
returns-clause-foretold c = search rules
