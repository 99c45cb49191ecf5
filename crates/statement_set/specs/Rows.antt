-- Rows of statements, each of one channel (Briggs and Torczon 1993 for sets that need not be cleared, this project for the rows).
use Rattle.std.specs.Prelude.{◌≡◌, ◌↔◌, ◌⊎◌, ℕ, ◌+◌, ◌*◌, ◌%◌, ◌<◌, ◌≤◌, List, [], ◌∷◌, ◌++◌, map, length, slice_get, slice_index_or, Some, Contains}
use Rattle.field_bounds.specs.declared.entry.Statement.{Statement}
use Rattle.field_bounds.specs.declared.kind.Kind.{Kind}
use Rattle.field_bounds.specs.declared.kind.Kind.TheVariants.{Lower, Raise}
use Rattle.statement_set.specs.declared.row.Channel.{Channel}
use Rattle.statement_set.specs.declared.row.Row.{Row}
use Rattle.statement_set.specs.declared.rows.Rows.{Rows}

-- The channel of a statement: all of it but the total.
abbrev pub channel_of : Statement → Channel
channel_of told = record { from = told.from; to = told.to; field = told.field; kind = told.kind }

-- The statement of a channel with a total.
abbrev pub statement_at : Channel → ℕ → Statement
statement_at channel total = record { from = channel.from; to = channel.to; field = channel.field; kind = channel.kind; total = total }

-- What a kind adds to the sum of a channel.
abbrev pub kind_weight : Kind → ℕ
kind_weight Lower = 0
kind_weight Raise = 42275

-- Which of so many slots is a channel's, by the factors of `Channel::slot`.
abbrev pub slot_of : Channel → ℕ → ℕ
slot_of channel slots = (channel.from.0 * 3935 + channel.to.0 * 16875 + channel.field.0 * 15599 + kind_weight channel.kind) % slots

-- No total is less than one before it.
abbrev pub Rises : List ℕ → Type 0
Rises totals = (i j : ℕ) → i ≤ j → j < length totals → slice_index_or totals i 0 ≤ slice_index_or totals j 0

-- A total is put in among others.
abbrev pub IsPutIn : List ℕ → List ℕ → ℕ → Type 0
IsPutIn before after total = (other : ℕ) → Contains after other ↔ ((total ≡ other) ⊎ Contains before other)

-- A statement is put in among others.
abbrev pub IsPutAmong : List Statement → List Statement → Statement → Type 0
IsPutAmong before after told = (other : Statement) → Contains after other ↔ ((told ≡ other) ⊎ Contains before other)

-- The statements of some rows.
abbrev pub rows_told : List Row → List Statement
rows_told [] = []
rows_told (row ∷ rows) = map (statement_at row.channel) row.totals.items ++ rows_told rows

-- Which row is a channel's.
abbrev pub IsRowOf : List Row → Channel → ℕ → Type 0
IsRowOf rows channel r = (row : Row) × (slice_get rows r ≡ Some row) × (row.channel ≡ channel)

-- No row is a channel's.
abbrev pub IsOfNone : List Row → Channel → Type 0
IsOfNone rows channel = (r : ℕ) (row : Row) → slice_get rows r ≡ Some row → row.channel ≡ channel → ⊥

-- One of so many slots is that of a row's channel.
abbrev pub IsTaken : List Row → ℕ → ℕ → Type 0
IsTaken rows slots slot = (r : ℕ) × (row : Row) × (slice_get rows r ≡ Some row) × (slot_of row.channel slots ≡ slot)

-- Beside so many statements in no row there are few slots and rows: at most twice as many slots, or the first 16, and a row for four.
pub record TakesLittle (rows : Rows) (others : ℕ) : Type 0 where
  pub few_slots : 16 < length rows.slots.items → length rows.slots.items ≤ 2 * others
  pub few_rows : 4 * length rows.rows.items ≤ others

-- Each row is told by the slot of its channel, and its totals rise.
pub record IsFiled (rows : Rows) : Type 0 where
  pub told : (r : ℕ) (row : Row) → slice_get rows.rows.items r ≡ Some row
      → slice_get rows.slots.items (slot_of row.channel (length rows.slots.items)) ≡ Some r
  pub rising : (r : ℕ) (row : Row) → slice_get rows.rows.items r ≡ Some row → Rises row.totals.items
