use Rattle.std.proofs.Common.{rules}
use Rattle.gift_ledger.proofs.ledger.Ledger.give.Goals as goal

pub returns-then-amount-account-clause-full : goal.returns-then-amount-account-clause-full
returns-then-amount-account-clause-full c = search rules

pub returns-clause-ok : goal.returns-clause-ok
returns-clause-ok c = search rules
