use Rattle.std.proofs.Common.{rules}
use Rattle.gift_ledger.proofs.ledger.Ledger.accept.Goals as goal

pub max-accepted-requires : goal.max-accepted-requires
max-accepted-requires c = search rules

pub returns-clause-gain : goal.returns-clause-gain
returns-clause-gain c = search rules

pub returns-clause-accepted : goal.returns-clause-accepted
returns-clause-accepted c = search rules
