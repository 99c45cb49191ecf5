use Rattle.std.proofs.Common.{rules}
use Rattle.gift_ledger.proofs.ledger.Ledger.accounts.Goals as goal

pub as_slice-requires : goal.as_slice-requires
as_slice-requires c = search rules

pub returns-in-Some : goal.returns-in-Some
returns-in-Some c = search rules
