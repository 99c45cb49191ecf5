-- Records in bytes, one line after the other (this project).
use Rattle.std.specs.Prelude.{◌≡◌, ℕ, ◌+◌, ◌≤◌, List, [], ◌∷◌, ◌++◌, length, take, drop, Option, Some, None, ◌==◌, false, ◌⊎◌}
use Rattle.std.specs.List.{flat_map, list_any, AllByRecursion}
use Rattle.kept_records.specs.declared.record.Record.{Record}
use Rattle.kept_records.specs.Text.{text, IsRecord}

-- No line ends in the bytes: they have no line feed (10).
abbrev pub HasNoLf : List ℕ → Type 0
HasNoLf bytes = list_any (λ b. b == 10) bytes ≡ false

-- The first so many bytes are the texts of these records joined, and no line ends behind them.
pub record Reads (bytes : List ℕ) (rs : List Record) (n : ℕ) : Type 0 where
  pub within : n ≤ length bytes
  pub whole : take n bytes ≡ flat_map text rs
  pub each : AllByRecursion IsRecord rs
  pub rest : HasNoLf (drop n bytes)

-- The bytes are the texts of these records joined, and behind them a rest in which no line ends.
pub record IsLog (bytes : List ℕ) (rs : List Record) (rest : List ℕ) : Type 0 where
  pub parts : bytes ≡ flat_map text rs ++ rest
  pub each : AllByRecursion IsRecord rs
  pub no_lf : HasNoLf rest

-- Bytes that are a log are a log of these records, with what lies behind so many bytes as the rest.
abbrev pub AreAll : List ℕ → List Record → ℕ → Type 0
AreAll bytes read n = (rs : List Record) (rest : List ℕ) → IsLog bytes rs rest → (read ≡ rs) × (drop n bytes ≡ rest)

-- The bytes are no log: no records are what they are the texts of.
abbrev pub IsNoLog : List ℕ → Type 0
IsNoLog bytes = (rs : List Record) (rest : List ℕ) → IsLog bytes rs rest → ⊥

-- Line n, counted from 1, is the first that is the text of no record.
pub record IsBadLine (bytes : List ℕ) (n : ℕ) : Type 0 where
  pub before : List Record
  pub line : List ℕ
  pub behind : List ℕ
  pub place : n ≡ length before + 1
  pub parts : bytes ≡ flat_map text before ++ (line ++ 10 ∷ behind)
  pub each : AllByRecursion IsRecord before
  pub one_line : HasNoLf line
  pub none : (r : Record) → IsRecord r → text r ≡ line ++ 10 ∷ [] → ⊥

-- The records in front of the first line that is the text of no record, where there is such a line, or else all records,
-- whose texts are the first so many bytes.
abbrev pub AreGoodRecords : List ℕ → List Record → ℕ → Option ℕ → Type 0
AreGoodRecords bytes rs n (Some line) = (bad : IsBadLine bytes line) × (bad.before ≡ rs)
AreGoodRecords bytes rs n None = Reads bytes rs n × AreAll bytes rs n

-- A front of the text is the whole text, or no line ends in it.
abbrev pub TearsClean : List ℕ → Type 0
TearsClean written = (k : ℕ) → HasNoLf (take k written) ⊎ (take k written ≡ written)
