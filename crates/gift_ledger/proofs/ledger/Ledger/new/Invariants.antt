use Rattle.std.proofs.Common.{◌≡◌, length}
use Rattle.std.specs.Prelude.{replicate}
use Rattle.gift_ledger.specs.Ledger.{no_accounts}
use Rattle.gift_ledger.proofs.ledger.Ledger.new.Given as goal

-- the sites so far have nothing on any field
abbrev pub invariant-loop-number : goal.invariant-loop-number
invariant-loop-number l = l.sites.items ≡ replicate l.number (replicate (length l.schema.fields) no_accounts)
