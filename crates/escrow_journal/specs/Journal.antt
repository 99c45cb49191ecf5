-- The open transactions of a site, in order of begin, each with its escrows in order of grant (O'Neil 1986).
use Rattle.std.specs.Prelude.{◌≡◌, ◌≤◌, List, [], ◌∷◌, ◌++◌, Bool, false, not, if◌then◌else◌, map, filter, length, All}
use Rattle.std.specs.List.{list_any}
use Rattle.field_bounds.specs.declared.id.TxnId.{TxnId}
use Rattle.field_bounds.specs.declared.entry.Escrow.{Escrow}
use Rattle.field_bounds.specs.Effects.{same_txn}
use Rattle.field_bounds.specs.Owed.{max_open, max_escrows}

-- A transaction with its escrows.
abbrev pub Row : Type 0
Row = TxnId × List Escrow

-- A transaction stands among the rows.
abbrev pub is_listed : TxnId → List Row → Bool
is_listed t rows = list_any (λ r. same_txn r.0 t) rows

-- The escrows of a transaction, none where it doesn't stand there.
abbrev pub escrows_at : TxnId → List Row → List Escrow
escrows_at t [] = []
escrows_at t (r ∷ rs) = if same_txn r.0 t then r.1 else escrows_at t rs

-- A row with one more escrow at its end, where it is the transaction's.
abbrev pub with_escrow : TxnId → Escrow → Row → Row
with_escrow t e r = if same_txn r.0 t then (r.0, r.1 ++ e ∷ []) else r

-- The rows with one more escrow at the transaction.
abbrev pub rows_with : TxnId → Escrow → List Row → List Row
rows_with t e rows = map (with_escrow t e) rows

-- The rows without the transaction.
abbrev pub without : TxnId → List Row → List Row
without t rows = filter (λ r. not (same_txn r.0 t)) rows

-- No transaction stands twice.
abbrev pub AreDistinct : List Row → Type 0
AreDistinct [] = Unit {0}
AreDistinct (r ∷ rs) = (is_listed r.0 rs ≡ false) × AreDistinct rs

-- A transaction has no more escrows than one may have.
abbrev pub IsShort : Row → Type 0
IsShort r = length r.1 ≤ max_escrows

-- No transaction stands twice, there are no more than may be open, and none has too many escrows.
pub record IsJournal (rows : List Row) : Type 0 where
  pub distinct : AreDistinct rows
  pub few : length rows ≤ max_open
  pub short : All IsShort rows
