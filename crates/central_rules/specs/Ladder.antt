-- What the ladder of refusals looks at.
use Rattle.std.specs.Prelude.{Bool, ◌&&◌}
use Rattle.field_bounds.specs.declared.id.TxnId.{TxnId}
use Rattle.field_bounds.specs.Effects.{is_begun, is_open}
use Rattle.field_bounds.specs.Owed.{Place}

-- Whether a transaction was begun and is open, where the site stands.
abbrev pub is_open_at : Place → TxnId → Bool
is_open_at at txn = is_begun txn at.effects && is_open txn at.effects
