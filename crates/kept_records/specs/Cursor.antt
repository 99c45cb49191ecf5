-- What a cursor over a log hands out (this project).
use Rattle.std.specs.Prelude.{◌≡◌, ℕ, List, ◌++◌, Option, Some, None}
use Rattle.kept_records.specs.declared.record.Record.{Record}
use Rattle.kept_records.specs.Text.{text, IsRecord}
use Rattle.kept_records.specs.Logs.{HasNoLf}
use Rattle.kept_records.specs.Summary.{SummaryValue, summary_record}

-- The old bytes are the record's text and the new ones; or no line ends in them, and they stayed.
abbrev pub HandsOut : List ℕ → Option Record → List ℕ → Type 0
HandsOut old None new = HasNoLf old × (new ≡ old)
HandsOut old (Some r) new = (old ≡ text r ++ new) × IsRecord r

-- The same of a summary; else no log of these bytes starts with one, and they stayed.
abbrev pub HandsSummary : List ℕ → Option SummaryValue → List ℕ → Type 0
HandsSummary old None new = ((v : SummaryValue) (more : List ℕ) → old ≡ text (summary_record v) ++ more → ⊥) × (new ≡ old)
HandsSummary old (Some v) new = (old ≡ text (summary_record v) ++ new) × IsRecord (summary_record v)
