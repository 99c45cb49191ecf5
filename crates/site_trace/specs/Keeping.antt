-- What the reading of a trace's entries alone does, and where entries are cut (this project). Entries stand in order, the
-- oldest first. No public clause cites this module.
use Rattle.std.specs.Prelude.{◌≡◌, ◌⊎◌, ◌<◌, ◌≤◌, ℕ, List, [], ◌∷◌, ◌++◌, length, take, reverse}
use Rattle.field_bounds.specs.Schema.{SchemaValue}
use Rattle.field_bounds.specs.declared.entry.Entry.{Entry}
use Rattle.script_input.specs.Lines.{whole_lines}
use Rattle.site_trace.specs.declared.reading.TracedEntry.{TracedEntry}
use Rattle.site_trace.specs.Lines.{IsEntry, IsNoEntry, IsRemark}
use Rattle.site_trace.specs.Traces.{entries_of, AreTraced}
use Rattle.site_trace.specs.Records.{records_left}

-- A line was read: its entry stands behind the others, or it is a remark.
abbrev pub AddsEntry : SchemaValue → List ℕ → List Entry → List Entry → Type 0
AddsEntry schema line old new =
    (IsNoEntry schema line × (IsRemark line × (new ≡ old)))
    ⊎ ((entry : Entry) × (IsEntry schema line entry × (new ≡ old ++ entry ∷ [])))

-- The bytes are those of a trace, and these are its entries.
pub record HoldEntries (schema : SchemaValue) (bytes : List ℕ) (entries : List Entry) : Type 0 where
  pub traced : List TracedEntry
  pub read : AreTraced schema 0 (whole_lines bytes) traced
  pub same : entries_of traced ≡ entries

-- How many records the first n entries leave.
abbrev pub left_in : List Entry → ℕ → ℕ
left_in entries n = records_left (reverse (take n entries))

-- Over entries alone: they are cut back to so many records behind the first n, which leave as many, and with the next one more.
pub record IsCutBehind (entries : List Entry) (kept n : ℕ) : Type 0 where
  pub within : n ≤ length entries
  pub leaves : left_in entries n ≡ kept
  pub longest : (m : ℕ) → n < m → m ≤ length entries → kept < left_in entries m
