use Rattle.std.proofs.Common.{rules}
use Rattle.central_machine.proofs.joined.rank.Goals as goal

pub returns-in-Interval : goal.returns-in-Interval
returns-in-Interval c = search rules

pub returns-in-Statement : goal.returns-in-Statement
returns-in-Statement c = search rules
