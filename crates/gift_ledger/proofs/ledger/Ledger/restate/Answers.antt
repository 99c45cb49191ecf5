use Rattle.std.proofs.Common.{rules}
use Rattle.gift_ledger.proofs.ledger.Ledger.restate.Goals as goal

pub returns-else-total-eq0 : goal.returns-else-total-eq0
returns-else-total-eq0 c = search rules
