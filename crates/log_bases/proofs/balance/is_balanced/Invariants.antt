use Rattle.std.proofs.Common.{◌<◌, ℕ}
use Rattle.log_bases.specs.Bases.{BalancesOn}
use Rattle.log_bases.proofs.balance.is_balanced.Given as goal

-- the base balances on the fields so far
abbrev pub invariant-loop-number : goal.invariant-loop-number
invariant-loop-number l = (f : ℕ) → f < l.number → BalancesOn l.fn.schema l.fn.site.0 l.fn.base f
