use Rattle.std.proofs.Common.{◌≡◌, ◌≤◌, ◌-◌, ◌++◌, length, replicate, vec_capacity}
use Rattle.gift_ledger.specs.Ledger.{no_accounts}
use Rattle.gift_ledger.proofs.accounts.write_out.Given as goal

-- so many were added, and none was moved
abbrev pub invariant-loop : goal.invariant-loop
invariant-loop l = (l.written.items ≡ l.fn.written.items ++ replicate (l.counter - length l.fn.written.items) no_accounts)
    × (length l.fn.written.items ≤ l.counter) × (l.counter - length l.fn.written.items ≤ l.fields - length l.fn.written.items)
    × (vec_capacity l.written ≡ vec_capacity l.fn.written)
