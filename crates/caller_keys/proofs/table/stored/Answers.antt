use Rattle.std.proofs.Common.{◌≡◌, ℕ, ◌+◌, ◌-◌, ◌∷◌, ◌++◌, length, drop, replicate, ap, arith}
use Rattle.caller_keys.specs.Tables.{stored_of}
use Rattle.caller_keys.proofs.table.stored.Goals as goal

pub returns : goal.returns
unfolding stored_of
returns c =
    let key = c.args.key.bytes.now in
    let behind : length key + 1 - 1 ≡ length key = omega arith in
    rw (c.copy_from_slice.ensures.after) (ap (λ (k : ℕ). length key ∷ (key ++ drop k (replicate 64 0))) behind)
