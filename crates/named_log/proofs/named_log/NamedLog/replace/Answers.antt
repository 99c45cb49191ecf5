use Rattle.std.proofs.Common.{rules}
use Rattle.named_log.proofs.named_log.NamedLog.replace.Goals as goal

pub put-requires : goal.put-requires
put-requires g c = search rules

pub returns-then-not-self-clause-lost : goal.returns-then-not-self-clause-lost
returns-then-not-self-clause-lost g c = search rules
