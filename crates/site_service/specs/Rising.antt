-- The order of transactions (this project). No public clause cites this module.
use Rattle.std.specs.Prelude.{◌≡◌, ◌⊎◌, ◌<◌, List, AllPairs}
use Rattle.field_bounds.specs.declared.id.TxnId.{TxnId}

-- The first was begun in an earlier epoch, or in the same one with a lower number.
abbrev pub IsBefore : TxnId → TxnId → Type 0
IsBefore a b = (a.epoch < b.epoch) ⊎ ((a.epoch ≡ b.epoch) × (a.number < b.number))

-- Each is before all that stand behind it.
abbrev pub IsRising : List TxnId → Type 0
IsRising txns = AllPairs IsBefore txns
