-- What is read of a log from its end (this project).
use Rattle.std.specs.Prelude.{◌≡◌, ℕ, ◌-◌, ◌^◌, ◌<◌, ◌≤◌, ◌==◌, min, true, false, List, [], ◌∷◌, ◌++◌, length, drop, slice_index_or, Option, Some, None}
use Rattle.std.specs.List.{flat_map, list_any, AllByRecursion}
use Rattle.kept_records.specs.declared.medium.End.{End}
use Rattle.kept_records.specs.declared.record.Record.{Record}
use Rattle.kept_records.specs.declared.reading_back.ReadBack.{ReadBack}
use Rattle.kept_records.specs.Summary.{SummaryValue, summary_record}
use Rattle.kept_records.specs.Text.{text}
use Rattle.kept_records.specs.Logs.{IsLog}
use Rattle.kept_records.specs.Medium.{last_bytes}
use Rattle.kept_records.specs.Stands.{is_summary}

-- A length in bytes, as far as a usize tells it: what is read of a medium is never longer.
abbrev pub told_length : ℕ → ℕ
told_length n = min n (2 ^ 64 - 1)

-- The bytes are a log, and the place is where the texts of its first records end.
pub record PartsAt (bytes : List ℕ) (place : ℕ) : Type 0 where
  pub before : List Record
  pub behind : List Record
  pub rest : List ℕ
  pub log : IsLog bytes (before ++ behind) rest
  pub place_is : place ≡ told_length (length (flat_map text before))

-- These are all the records of a log that stand behind the place.
abbrev pub AreBehind : List ℕ → ℕ → List Record → Type 0
AreBehind bytes place found =
    (before behind : List Record) (rest : List ℕ) → IsLog bytes (before ++ behind) rest
    → place ≡ told_length (length (flat_map text before)) → found ≡ behind

-- These records, behind the summary where there is one.
abbrev pub with_summary : Option SummaryValue → List Record → List Record
with_summary None rs = rs
with_summary (Some v) rs = summary_record v ∷ rs

-- This is the last summary among the records, and these stand behind it; or they are all, and there is none.
pub record IsLast (rs : List Record) (summary : Option SummaryValue) (found : List Record) : Type 0 where
  pub before : List Record
  pub parts : rs ≡ before ++ with_summary summary found
  pub all : summary ≡ None → before ≡ []
  pub plain : AllByRecursion (λ r. is_summary r ≡ false) found

-- The lines are a log of the records behind the last summary, with the same rest.
pub record HoldsLast (rs : List Record) (rest : List ℕ) (summary : Option SummaryValue) (lines : List ℕ) : Type 0 where
  pub found : List Record
  pub last : IsLast rs summary found
  pub log : IsLog lines found rest

-- The same of bytes that are a log.
abbrev pub AreLast : List ℕ → Option SummaryValue → List ℕ → Type 0
AreLast bytes summary lines = (rs : List Record) (rest : List ℕ) → IsLog bytes rs rest → HoldsLast rs rest summary lines

-- So long are the texts of a log's records.
abbrev pub IsWhole : List ℕ → ℕ → Type 0
IsWhole bytes whole = (rs : List Record) (rest : List ℕ) → IsLog bytes rs rest → whole ≡ length (flat_map text rs)

-- ---- how the body goes on

-- A line starts at this place, behind a line feed (10): it has a summary's letter (83), and ends.
pub record IsSummaryLine (bytes : List ℕ) (start : ℕ) : Type 0 where
  pub some : 0 < start
  pub within : start < length bytes
  pub behind : slice_index_or bytes (start - 1) 0 ≡ 10
  pub letter : slice_index_or bytes start 0 ≡ 83
  pub ends : list_any (λ b. b == 10) (drop start bytes) ≡ true

-- No such line starts behind this place.
abbrev pub IsLastLine : List ℕ → ℕ → Type 0
IsLastLine bytes start = (j : ℕ) → start < j → IsSummaryLine bytes j → ⊥

-- The end of bytes that are a log.
pub record EndsAt (bytes : List ℕ) (most place : ℕ) (end : End) : Type 0 where
  pub window : end.bytes.items ≡ last_bytes most bytes
  pub size : end.length ≡ length bytes
  pub parts : PartsAt bytes place

-- What was read of it is what the contract of reading tells.
pub record ReadsEnd (bytes : List ℕ) (place : ℕ) (read : ReadBack) : Type 0 where
  pub last : AreLast bytes read.summary read.lines
  pub behind : AreBehind bytes place read.behind.items
  pub whole : IsWhole bytes read.whole
  pub present : read.present ≡ length bytes
  pub within : read.whole ≤ read.present
