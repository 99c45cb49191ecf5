-- What a journal keeps, as its callers see it (this project).
use Rattle.std.specs.Prelude.{ℕ, List, map}
use Rattle.std.specs.List.{position_or_len}
use Rattle.field_bounds.specs.declared.id.TxnId.{TxnId}
use Rattle.field_bounds.specs.Effects.{same_txn}
use Rattle.escrow_journal.specs.declared.journal.OpenTransaction.{OpenTransaction}
use Rattle.escrow_journal.specs.Journal.{Row}

-- The rows as a list of an id and its escrows.
abbrev pub rows_of : List OpenTransaction → List Row
rows_of items = map (λ r. (r.txn, r.escrows.items)) items

-- The place of a transaction, or the length where it isn't there.
abbrev pub index_of : TxnId → List OpenTransaction → ℕ
index_of t items = position_or_len (λ r. same_txn r.txn t) items
