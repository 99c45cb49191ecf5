use Rattle.std.proofs.Common.{rules}
use Rattle.named_log.proofs.named_log.NamedLog.open.Goals as goal

pub returns-in-Ok-clause-ok : goal.returns-in-Ok-clause-ok
returns-in-Ok-clause-ok g c = search rules

pub returns-in-Ok-clause-least : goal.returns-in-Ok-clause-least
returns-in-Ok-clause-least g c = search rules

pub returns-in-Err-clause-untouched : goal.returns-in-Err-clause-untouched
returns-in-Err-clause-untouched g c = search rules

pub returns-in-Err-clause-handed_back : goal.returns-in-Err-clause-handed_back
returns-in-Err-clause-handed_back g c = search rules

pub returns-in-Err-clause-not_cut : goal.returns-in-Err-clause-not_cut
returns-in-Err-clause-not_cut g c = search rules
