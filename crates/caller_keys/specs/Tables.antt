-- Tables of the last transaction of each key (this project).
use Rattle.std.specs.Prelude.{◌≡◌, ℕ, List, ◌∷◌, ◌++◌, length, drop, replicate, Option, bytes_eq}
use Rattle.std.specs.Map.{lookup}
use Rattle.field_bounds.specs.declared.id.TxnId.{TxnId}
use Rattle.caller_keys.specs.Keys.{KeyNote, last_txn, IsKeyed}

-- A key as a table stores it: its length, and its bytes with zeros behind them, 64 together where it is no longer.
unfoldable pub stored_of : List ℕ → List ℕ
stored_of key = length key ∷ key ++ drop (length key) (replicate 64 0)

-- A table: keys as they are stored, each with the transaction that was noted last with it, and how many keys more can be noted
-- without memory.
pub record KeyTableValue : Type 0 where
  pub rows : List (List ℕ × TxnId)
  pub room : ℕ

-- The transaction that the table tells of a key.
abbrev pub last_in : KeyTableValue → List ℕ → Option TxnId
last_in table key = lookup (bytes_eq (stored_of key)) table.rows

-- The table tells of each key the transaction of the last of these notes with this key.
abbrev pub Tells : KeyTableValue → List KeyNote → Type 0
Tells table notes = (key : List ℕ) → last_in table key ≡ last_txn key notes

-- The table and the records are those of the text: the table tells what the notes of the text tell.
pub record Splits (text : List ℕ) (table : KeyTableValue) (records : List ℕ) : Type 0 where
  pub notes : List KeyNote
  pub keyed : IsKeyed text notes records
  pub tells : Tells table notes
