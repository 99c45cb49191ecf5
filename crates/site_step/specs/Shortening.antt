-- What is let go and what stays where a log is shortened at a summary (this project).
use Rattle.std.specs.Prelude.{◌≡◌, ◌≢◌, ℕ, ◌<◌, ◌≤◌, ◌==◌, ◌&&◌, if◌then◌else◌, Bool, true, false, List, [], ◌∷◌, ◌++◌, length, drop, fold, Option, Some, None, slice_index_or}
use Rattle.std.specs.List.{flat_map, list_any}
use Rattle.field_bounds.specs.declared.id.TxnId.{TxnId}
use Rattle.field_bounds.specs.Effects.{is_up_to}
use Rattle.field_bounds.specs.Owed.{is_up}
use Rattle.kept_records.specs.declared.record.Record.{Record}
use Rattle.kept_records.specs.Kinds.{commit_told}
use Rattle.kept_records.specs.Text.{text}
use Rattle.kept_records.specs.Summary.{SummaryValue, summary_record}
use Rattle.kept_records.specs.Logs.{IsLog}
use Rattle.kept_records.specs.ReadingBack.{IsSummaryLine}
use Rattle.kept_records.specs.Stands.{is_summary, plain}
use Rattle.site_step.specs.Site.{SiteValue, base_of}

-- The bytes that stay, the records that go, how many these are, summaries left out, and the greatest transaction whose commit
-- goes.
pub record ShorteningValue : Type 0 where
  pub held : List ℕ
  pub gone : List Record
  pub records : ℕ
  pub latest : TxnId

-- What the medium holds.
abbrev pub held_of : SiteValue → List ℕ
held_of v = drop (length (flat_map text v.gone)) v.bytes

-- The record is the commit of this transaction; one of the records is.
abbrev pub is_this : TxnId → Option TxnId → Bool
is_this txn None = false
is_this txn (Some other) = other.epoch == txn.epoch && other.number == txn.number

abbrev pub is_commit_of : TxnId → Record → Bool
is_commit_of txn r = is_this txn (commit_told r)

abbrev pub has_commit : TxnId → List Record → Bool
has_commit txn rs = list_any (is_commit_of txn) rs

-- The greatest transaction whose commit is among the records, and 0.0 where none is.
abbrev pub later_txn : TxnId → Option TxnId → TxnId
later_txn latest None = latest
later_txn latest (Some txn) = if is_up_to latest txn then latest else txn

abbrev pub later_commit : TxnId → Record → TxnId
later_commit latest r = later_txn latest (commit_told r)

unfoldable pub latest_commit : List Record → TxnId
latest_commit rs = fold later_commit (record { epoch = 0; number = 0 }) rs

-- The site is up; what its medium holds is what goes and what stays, and a summary is the first that stays; so many go, and no
-- commit among them is of a later transaction.
pub record IsShortening (v : SiteValue) (plan : ShorteningValue) : Type 0 where
  pub base : SummaryValue
  pub behind : List Record
  pub up : is_up (base_of v) v.history ≡ true
  pub log : IsLog (held_of v) (plan.gone ++ summary_record base ∷ behind) []
  pub held : IsLog plan.held (summary_record base ∷ behind) []
  pub count : plan.records ≡ length (plain plan.gone)
  pub latest : (txn : TxnId) → has_commit txn plan.gone ≡ true → is_up_to plan.latest txn ≡ true

-- What is held can be shortened so that these records go, one or more: a summary is the first that stays, so many bytes stand
-- behind its line, and another summary among them.
pub record CanGo (held : List ℕ) (keep : ℕ) (gone : List Record) : Type 0 where
  pub base : SummaryValue
  pub behind : List Record
  pub some : gone ≢ []
  pub log : IsLog held (gone ++ summary_record base ∷ behind) []
  pub stays : keep ≤ length (flat_map text behind)
  pub another : list_any is_summary behind ≡ true

-- ---- how the bodies go on

-- A line ends at this place or behind it.
pub record IsInLine (bytes : List ℕ) (place : ℕ) : Type 0 where
  pub line_feed : ℕ
  pub before : place ≤ line_feed
  pub within : line_feed < length bytes
  pub ends : slice_index_or bytes line_feed 0 ≡ 10

-- No summary's line starts from the one place on and before the other.
abbrev pub NoneBetween : List ℕ → ℕ → ℕ → Type 0
NoneBetween bytes from end = (place : ℕ) → from ≤ place → place < end → IsSummaryLine bytes place → ⊥

-- How many bytes stand behind the first line of these; none where no line ends.
abbrev pub behind_line : List ℕ → ℕ
behind_line [] = 0
behind_line (b ∷ bytes) = if b == 10 then length bytes else behind_line bytes

-- A summary's line starts here, another behind it, and so many bytes stand behind the line.
pub record IsFrontEnd (bytes : List ℕ) (keep place : ℕ) : Type 0 where
  pub line : IsSummaryLine bytes place
  pub next : ℕ
  pub behind : place < next
  pub another : IsSummaryLine bytes next
  pub stays : keep ≤ behind_line (drop place bytes)
