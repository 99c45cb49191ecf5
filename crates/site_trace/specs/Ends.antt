-- Where a trace is cut back to a log (this project). Entries stand in order, the oldest first.
use Rattle.std.specs.Prelude.{◌≡◌, ◌<◌, ◌≤◌, ℕ, zero, suc, List, [], ◌∷◌, length, take, reverse}
use Rattle.site_trace.specs.declared.reading.TracedEntry.{TracedEntry}
use Rattle.site_trace.specs.declared.reading.Trace.{Trace}
use Rattle.site_trace.specs.declared.cutting.TraceEnd.{TraceEnd}
use Rattle.site_trace.specs.Traces.{entries_of}
use Rattle.site_trace.specs.Records.{records_left}

-- How many bytes the longest front with the first n entries has: those in front of the next entry's line, or all.
abbrev pub front_length : List TracedEntry → ℕ → ℕ → ℕ
front_length [] all n = all
front_length (t ∷ traced) all zero = t.start
front_length (t ∷ traced) all (suc n) = front_length traced all n

-- How many records the first n entries leave.
abbrev pub left_by : List TracedEntry → ℕ → ℕ
left_by traced n = records_left (reverse (entries_of (take n traced)))

-- A trace is cut here back to a log of so many records: the first entries leave as many, with the next one they leave more,
-- and all bytes in front of that one's line stay.
pub record IsEnd (trace : Trace) (kept : ℕ) (end : TraceEnd) : Type 0 where
  pub within : end.entries ≤ length trace.entries.items
  pub leaves : left_by trace.entries.items end.entries ≡ kept
  pub longest : (n : ℕ) → end.entries < n → n ≤ length trace.entries.items → kept < left_by trace.entries.items n
  pub bytes : end.length ≡ front_length trace.entries.items trace.length end.entries
