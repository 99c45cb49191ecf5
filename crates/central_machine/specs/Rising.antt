-- Open transactions that stand apart from one another, since each was ranked above those before it (this project).
use Rattle.std.specs.Prelude.{ℕ, ◌+◌, ◌*◌, nat_le, Bool, true, not, ◌&&◌, List, [], ◌∷◌}
use Rattle.std.specs.List.{list_any}
use Rattle.field_bounds.specs.declared.id.TxnId.{TxnId}
use Rattle.field_bounds.specs.Effects.{same_txn}

-- The number by which a transaction is ranked: by its epoch, and then by its number.
abbrev pub rank : TxnId → ℕ
rank t = t.epoch * 4294967296 + t.number

-- A transaction stands among others.
abbrev pub is_among : TxnId → List TxnId → Bool
is_among t txns = list_any (λ u. same_txn u t) txns

-- No transaction stands twice, and none ranks above the top.
abbrev pub are_apart : ℕ → List TxnId → Bool
are_apart top [] = true
are_apart top (t ∷ ts) = nat_le (rank t) top && (not (is_among t ts) && are_apart top ts)
