-- A log that is taken in from its last summary on (this project).
use Rattle.std.specs.Prelude.{◌≡◌, ℕ, ◌<◌, true, fold, length, List, [], ◌++◌, Option}
use Rattle.std.specs.List.{AllByRecursion}
use Rattle.field_bounds.specs.declared.kind.Kind.{Kind}
use Rattle.field_bounds.specs.Schema.{SchemaValue}
use Rattle.kept_records.specs.declared.record.Record.{Record}
use Rattle.kept_records.specs.declared.reading_back.ReadBack.{ReadBack}
use Rattle.kept_records.specs.Logs.{IsLog}
use Rattle.kept_records.specs.ReadingBack.{with_summary, HoldsLast}
use Rattle.kept_records.specs.declared.total.Total.{Total}
use Rattle.kept_records.specs.Summary.{SummaryValue, told_more}
use Rattle.kept_records.specs.Text.{IsRecord}
use Rattle.kept_records.specs.Stands.{may_follow, Lawful}
use Rattle.gift_ledger.specs.Ledger.{LedgerValue, total_at, accepted_at, IsSlot}
use Rattle.log_replay.specs.declared.standing.Standing.{Standing}
use Rattle.log_replay.specs.Standing.{Stands, IsStandingFor}

-- What was read is the end of a lawful log: its last summary and the lines behind it, or all lines.
pub record IsEnd (schema : SchemaValue) (s : ℕ) (all : List Record) (read : ReadBack) : Type 0 where
  pub rest : List ℕ
  pub each : AllByRecursion IsRecord all
  pub lawful : Lawful schema s all
  pub holds : HoldsLast all rest read.summary read.lines

-- A standing is for lawful records of its site, and the record may stand behind them.
pub record MayFollowNext (schema : SchemaValue) (standing : Standing) (rs : List Record) (r : Record) : Type 0 where
  pub site_in : standing.ledger.site < schema.sites
  pub in_range : AllByRecursion IsRecord rs
  pub lawful : Lawful schema standing.ledger.site rs
  pub stands : Stands schema standing.ledger.site rs standing
  pub may : may_follow schema standing.ledger.site rs r ≡ true

-- ---- how the body goes on

-- Totals given were noted, one after another; nothing else changed.
pub record NotesGifts (old : LedgerValue) (ts : List Total) (new : LedgerValue) : Type 0 where
  pub site : new.site ≡ old.site
  pub place : (r f : ℕ) → IsSlot old r f → IsSlot new r f
  pub given : (r f : ℕ) (k : Kind) → total_at new r f k ≡ fold (told_more r f k) (total_at old r f k) ts
  pub accepted : (r f : ℕ) (k : Kind) → accepted_at new r f k ≡ accepted_at old r f k

-- Totals accepted were noted.
pub record NotesAccepts (old : LedgerValue) (ts : List Total) (new : LedgerValue) : Type 0 where
  pub site : new.site ≡ old.site
  pub place : (r f : ℕ) → IsSlot old r f → IsSlot new r f
  pub given : (r f : ℕ) (k : Kind) → total_at new r f k ≡ total_at old r f k
  pub accepted : (r f : ℕ) (k : Kind) → accepted_at new r f k ≡ fold (told_more r f k) (accepted_at old r f k) ts

-- The records up to the last summary and with it, or none where there is none.
abbrev pub up_to : List Record → Option SummaryValue → List Record
up_to before summary = before ++ with_summary summary []

-- The standing is for these.
abbrev pub BeginsAt : (schema : SchemaValue) (s : ℕ) (all : List Record) (read : ReadBack) → IsEnd schema s all read → Standing → Type 0
BeginsAt schema s all read end_ standing = IsStandingFor schema s (up_to end_.holds.last.before read.summary) standing

-- Of the records behind it so many were taken in, and the bytes are a log of those that are left.
pub record Walks (schema : SchemaValue) (s : ℕ) (all : List Record) (read : ReadBack) (end_ : IsEnd schema s all read) (standing : Standing)
    (turns : ℕ) (bytes : List ℕ) : Type 0 where
  pub taken : List Record
  pub left : List Record
  pub parts : end_.holds.found ≡ taken ++ left
  pub log : IsLog bytes left end_.rest
  pub stands : IsStandingFor schema s (up_to end_.holds.last.before read.summary ++ taken) standing
  pub count : turns ≡ length taken
