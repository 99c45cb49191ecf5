use Rattle.std.proofs.Common.{rules}
use Rattle.named_log.proofs.named_log.NamedLogReplaceableLog.replace.Goals as goal

pub returns-clause-bytes : goal.returns-clause-bytes
returns-clause-bytes g c = search rules

pub returns-clause-head : goal.returns-clause-head
returns-clause-head g c = search rules

pub returns-clause-least : goal.returns-clause-least
returns-clause-least g c = search rules

pub returns-clause-failed : goal.returns-clause-failed
returns-clause-failed g c = search rules
