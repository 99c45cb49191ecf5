-- The entries of a trace that stay where it is cut back to a log (this project). Entries stand in order, the oldest first.
use Rattle.std.specs.Prelude.{◌≡◌, ◌<◌, ◌≤◌, ℕ, List, length, take, reverse}
use Rattle.field_bounds.specs.Schema.{SchemaValue}
use Rattle.field_bounds.specs.declared.entry.Entry.{Entry}
use Rattle.script_input.specs.Lines.{whole_lines}
use Rattle.site_trace.specs.declared.reading.TracedEntry.{TracedEntry}
use Rattle.site_trace.specs.Traces.{entries_of, AreTraced}
use Rattle.site_trace.specs.Records.{records_left}
use Rattle.site_trace.specs.Ends.{left_by}

-- The entries are cut back to so many records behind the first n: these leave as many, and with the next one they leave more.
pub record IsCutAt (traced : List TracedEntry) (kept n : ℕ) : Type 0 where
  pub within : n ≤ length traced
  pub leaves : left_by traced n ≡ kept
  pub longest : (m : ℕ) → n < m → m ≤ length traced → kept < left_by traced m

-- The bytes are those of a trace, and these are its entries where it is cut back to so many records.
pub record AreKept (schema : SchemaValue) (bytes : List ℕ) (kept : ℕ) (entries : List Entry) : Type 0 where
  pub traced : List TracedEntry
  pub read : AreTraced schema 0 (whole_lines bytes) traced
  pub count : ℕ
  pub cut : IsCutAt traced kept count
  pub same : entries ≡ entries_of (take count traced)

-- The bytes are those of a trace, and its entries leave fewer records than so many.
pub record LeaveFewer (schema : SchemaValue) (bytes : List ℕ) (kept : ℕ) : Type 0 where
  pub traced : List TracedEntry
  pub read : AreTraced schema 0 (whole_lines bytes) traced
  pub fewer : records_left (reverse (entries_of traced)) < kept
