-- A site as its callers see it, and what its calls do (this project).
use Rattle.std.specs.Prelude.{◌≡◌, ◌⊎◌, ℕ, ◌+◌, ◌-◌, ◌^◌, ◌≤◌, nat_lt, if◌then◌else◌, Bool, true, false, ◌&&◌, List, [], ◌∷◌, ◌++◌, length, reverse, Option, Some, None}
use Rattle.field_bounds.specs.declared.id.SiteNo.{SiteNo}
use Rattle.field_bounds.specs.declared.id.TxnId.{TxnId}
use Rattle.field_bounds.specs.declared.entry.Command.{Command}
use Rattle.field_bounds.specs.declared.entry.Command.TheVariants.{Commit, Abort}
use Rattle.field_bounds.specs.declared.entry.Reply.{Reply}
use Rattle.field_bounds.specs.declared.entry.Reply.TheVariants.{Committed as SaysCommitted, Aborted as SaysAborted, StillDown}
use Rattle.field_bounds.specs.declared.entry.Last.{Last}
use Rattle.field_bounds.specs.declared.entry.Entry.{Entry}
use Rattle.field_bounds.specs.Schema.{SchemaValue}
use Rattle.field_bounds.specs.Effects.{Base}
use Rattle.field_bounds.specs.Owed.{Place, place, Fits, max_epoch}
use Rattle.field_bounds.specs.Shape.{answered, restarted, in_doubt, stays_down, refused, shape, asks_restart}
use Rattle.site_rights.specs.declared.field_rights.Outcome.{Outcome}
use Rattle.site_rights.specs.declared.field_rights.Outcome.TheVariants.{Committed, Aborted}
use Rattle.kept_records.specs.declared.medium.Mishap.{Mishap}
use Rattle.kept_records.specs.declared.medium.Mishap.TheVariants as mishaps
use Rattle.kept_records.specs.declared.record.Record.{Record}
use Rattle.kept_records.specs.declared.record.Record.TheVariants as records
use Rattle.std.specs.List.{flat_map}
use Rattle.kept_records.specs.Logs.{IsLog}
use Rattle.kept_records.specs.Stands.{greatest, Lawful, plain, since_summary, max_behind, piece}
use Rattle.kept_state.specs.declared.luck.Luck.{Luck}
use Rattle.kept_state.specs.declared.luck.Luck.TheVariants.{Fine, Torn}
use Rattle.kept_records.specs.Text.{text}
use Rattle.kept_records.specs.Medium.{IsCutShort}
use Rattle.kept_state.specs.Keeps.{Keeps, base_of_records, record_left, adds}
use Rattle.kept_state.specs.Doubt.{found_of}
use Rattle.kept_state.specs.Luck.{owed_with, epoch_kept, doubt_after, record_length}
use Rattle.site_step.specs.Replaying.{Replays, downs_since}
use Rattle.site_step.specs.Anew.{StandsAnew, ClosesAll}

-- The schema and the site's number; whether the medium was empty when the site was opened, and the records that it held
-- then; the history, the newest entry first; the bytes of the log, how often the medium has failed, and the mishap that
-- strikes it next, where that is known; where an answer is in doubt, how many records stood before its own, summaries
-- left out; how many records the last restart replayed that read the medium; and the records whose texts are the first of
-- these bytes and that the medium holds no longer.
pub record SiteValue : Type 0 where
  pub schema : SchemaValue
  pub site : SiteNo
  pub fresh : Bool
  pub based : List Record
  pub history : List Entry
  pub bytes : List ℕ
  pub failed : ℕ
  pub foretold : Option Mishap
  pub doubt : Option ℕ
  pub replayed : ℕ
  pub gone : List Record

-- A site's value, from its parts: the history is kept with the oldest entry first; and the log's bytes are the texts of the
-- records that are gone, and behind them what the medium holds.
abbrev pub value_of : SchemaValue → SiteNo → Bool → List Record → List Entry → List ℕ → ℕ → Option Mishap → Option ℕ → ℕ → List Record
    → SiteValue
value_of schema site fresh based entries held failed foretold doubt replayed gone =
    record {
      schema = schema;
      site = site;
      fresh = fresh;
      based = based;
      history = reverse entries;
      bytes = flat_map text gone ++ held;
      failed = failed;
      foretold = foretold;
      doubt = doubt;
      replayed = replayed;
      gone = gone;
    }

-- How many records stood before the one in doubt, where so many stand in front of those that the site counts.
abbrev pub doubt_behind : ℕ → Option ℕ → Option ℕ
doubt_behind uncounted None = None
doubt_behind uncounted (Some n) = Some (uncounted + n)

-- The base on which a site's history stands.
abbrev pub base_of : SiteValue → Base
base_of v = base_of_records v.schema v.site.0 v.fresh v.based

-- Where a site stands.
abbrev pub here : SiteValue → Place
here v = place v.schema v.site.0 (base_of v) v.history

-- An entry of a site.
abbrev pub entry_of : SiteValue → Command → Reply → Entry
entry_of v command reply = record { site = v.site; command = command; reply = reply }

-- The command that ends a transaction, and its reply.
abbrev pub end_command : Outcome → TxnId → Command
end_command Committed txn = Commit txn
end_command Aborted txn = Abort txn

abbrev pub end_reply : Outcome → Reply
end_reply Committed = SaysCommitted
end_reply Aborted = SaysAborted

-- ---- what a medium holds

-- A log told without its summaries: the bytes are the texts of lawful records, and then bytes in which no line ends; these
-- are the records among them that are no summaries.
pub record Holds (schema : SchemaValue) (s : ℕ) (bytes : List ℕ) (rs : List Record) (rest : List ℕ) : Type 0 where
  pub all : List Record
  pub log : IsLog bytes all rest
  pub lawful : Lawful schema s all
  pub told : plain all ≡ rs

-- ---- what a call does to the medium

-- The count of failures rises by one exactly at a reply in doubt and at a restart that failed.
abbrev pub failed_after : Reply → ℕ → ℕ
failed_after r n = elim (shape r) [ answered ↦ n | restarted _ _ ↦ n | in_doubt ↦ n + 1 | stays_down ↦ n + 1 | refused _ ↦ n ]

-- Where the record in doubt stands: behind the records that there were, settled by a restart, else as before.
abbrev pub doubt_from : Reply → List Record → Option ℕ → Option ℕ
doubt_from r rs doubt =
    elim (shape r) [ answered ↦ doubt | restarted _ _ ↦ None | in_doubt ↦ Some (length rs) | stays_down ↦ doubt | refused _ ↦ doubt ]

-- A restart tells the greatest epoch kept and one more, and exactly what became of the record in doubt, and leaves no
-- torn end; where the greatest epoch is the last, it is refused.
abbrev pub RestartsOver : Reply → List Record → Option ℕ → List ℕ → Type 0
RestartsOver r rs doubt rest =
    elim (shape r) [
      | answered ↦ Unit {0}
      | restarted epoch found ↦ (epoch ≡ greatest rs + 1) × (found ≡ found_of doubt rs) × (rest ≡ []) × (epoch ≤ max_epoch)
      | in_doubt ↦ Unit {0}
      | stays_down ↦ Unit {0}
      | refused _ ↦ Unit {0}
    ]

-- A restart is refused exactly where the greatest epoch kept is the last.
abbrev pub RefusesOver : Command → Reply → List Record → Type 0
RefusesOver command reply rs =
    elim (asks_restart command) [
      | true ↦ elim (shape reply) [
        | answered ↦ Unit {0}
        | restarted _ _ ↦ Unit {0}
        | in_doubt ↦ Unit {0}
        | stays_down ↦ Unit {0}
        | refused _ ↦ max_epoch ≤ greatest rs
      ]
      | false ↦ Unit {0}
    ]

-- Over a medium that holds these records: it holds them still, behind them the record that the entry adds, if any, and
-- then bytes in which no line ends.
pub record Logs (before : SiteValue) (command : Command) (reply : Reply) (later : SiteValue) (rs : List Record) : Type 0 where
  pub stood : Bool
  pub rest : List ℕ
  pub log : Holds later.schema later.site.0 later.bytes (rs ++ adds (here before) command reply stood rs) rest
  pub doubt : later.doubt ≡ doubt_from reply rs before.doubt
  pub restarts : RestartsOver reply rs before.doubt rest
  pub refuses : RefusesOver command reply rs

-- The lines that a record adds behind these: its own, and the summary's that is due behind it.
abbrev pub lines_behind : Place → List Record → Record → List ℕ
lines_behind at rs r = flat_map text (piece at.schema at.site rs r)

-- The lines of the record that a command leaves, where it leaves one.
abbrev pub lines_of : Place → Command → List Record → List ℕ
lines_of at command rs = flat_map (lines_behind at rs) (record_left at command)

-- The lines of a command's record stand behind the bytes.
abbrev pub AddsLines : Place → Command → List ℕ → List ℕ → Type 0
AddsLines at command old new = (rs : List Record) (rest : List ℕ) → IsLog old rs rest → new ≡ old ++ lines_of at command rs

-- A command's append failed: some front of its record's lines stands behind the bytes.
abbrev pub LeavesUnsure : Place → Command → List ℕ → List ℕ → Type 0
LeavesUnsure at command old new = (rs : List Record) (rest : List ℕ) → IsLog old rs rest
    → IsCutShort old (lines_of at command rs) new

-- What a restart that failed leaves: the bytes as they were, or the whole lines and some front of its record's lines.
abbrev pub LeavesFailed : Place → List ℕ → List ℕ → Type 0
LeavesFailed at old new =
    (rs : List Record) (rest : List ℕ) → IsLog old rs rest → (new ≡ old)
    ⊎ IsCutShort (flat_map text rs) (lines_behind at rs (records.Restart (greatest rs + 1))) new

-- What a restart that went well leaves: all whole lines, its record's lines behind them, and no torn end.
abbrev pub LeavesAnew : Place → List ℕ → List ℕ → Type 0
LeavesAnew at old new =
    (rs : List Record) (rest : List ℕ) → IsLog old rs rest
    → new ≡ flat_map text rs ++ lines_behind at rs (records.Restart (greatest rs + 1))

-- What an entry does to the bytes of the medium: a refusal leaves them, an answer adds its record's lines, if any, and of an
-- answer in doubt some front of these lines stands.
abbrev pub Writes : Place → Command → Reply → List ℕ → List ℕ → Type 0
Writes at command r old new =
    elim (shape r) [
      | answered ↦ AddsLines at command old new
      | restarted _ _ ↦ LeavesAnew at old new
      | in_doubt ↦ LeavesUnsure at command old new
      | stays_down ↦ LeavesFailed at old new
      | refused _ ↦ new ≡ old
    ]

-- ---- under a mishap that is known

-- What becomes of a mishap that is known: it stays, but where it struck it is used up.
abbrev pub mishap_left : Option Mishap → Option Mishap
mishap_left None = None
mishap_left (Some mishap) = Some mishaps.Never

abbrev pub foretold_after : Reply → Option Mishap → Option Mishap
foretold_after r foretold =
    elim (shape r) [
      | answered ↦ foretold
      | restarted _ _ ↦ foretold
      | in_doubt ↦ mishap_left foretold
      | stays_down ↦ mishap_left foretold
      | refused _ ↦ foretold
    ]

-- The mishap of an append that goes by luck.
abbrev pub mishap_of : Luck → Mishap
mishap_of Fine = mishaps.Never
mishap_of (Torn bytes) = mishaps.Append bytes

-- The mishap that strikes next once this one is armed: none does where the count of failures can't rise.
abbrev pub foretold_by : ℕ → Mishap → Option Mishap
foretold_by failed mishap = if nat_lt failed (2 ^ 64 - 1) then Some mishap else Some mishaps.Never

-- What a restart that doesn't fail would find: this greatest epoch kept, and this of the record in doubt.
unfoldable pub Finds : SiteValue → ℕ → Last → Type 0
Finds v epoch found =
    (rs : List Record) (rest : List ℕ) → Holds v.schema v.site.0 v.bytes rs rest → (greatest rs ≡ epoch) × (found_of v.doubt rs ≡ found)

-- How an append goes behind a cut of this rest that fails: there is none where there is nothing to cut.
abbrev pub luck_of_cut : List ℕ → Luck
luck_of_cut [] = Fine
luck_of_cut (b ∷ rest) = Torn 0

-- How the append of a command goes under a mishap, over a medium with this rest behind the last line feed. A restart alone reads the
-- medium first, and cuts that rest.
abbrev pub luck_under : Command → List ℕ → Mishap → Luck
luck_under command rest (mishaps.Append bytes) = Torn bytes
luck_under command rest mishaps.Cut = if asks_restart command then luck_of_cut rest else Fine
luck_under command rest mishaps.Read = Fine
luck_under command rest mishaps.Never = Fine

abbrev pub is_for_reads : Mishap → Bool
is_for_reads mishaps.Read = true
is_for_reads mishaps.Never = false
is_for_reads (mishaps.Append bytes) = false
is_for_reads mishaps.Cut = false

-- The reply under a mishap that is known, over a medium that holds these records and this rest: a restart reads first.
abbrev pub owed_under : SiteValue → List Record → List ℕ → Command → Mishap → Reply
owed_under v rs rest command mishap =
    if asks_restart command && is_for_reads mishap
    then StillDown
    else owed_with (here v) (greatest rs) (found_of v.doubt rs) command (luck_under command rest mishap)

-- Where it is known how the next append goes, the reply is the one that is owed then, and so is what a restart would find
-- after it.
pub record IsExact (before : SiteValue) (command : Command) (reply : Reply) (later : SiteValue) (luck : Luck) (epoch : ℕ)
    (found : Last) : Type 0 where
  pub reply_is : reply ≡ owed_with (here before) epoch found command luck
  pub finds : Finds later (epoch_kept reply luck epoch) (doubt_after reply luck (record_length (here before) command) found)

-- ---- the calls

-- Nothing but the history, the medium and what is in doubt has changed.
pub record IsSame (before later : SiteValue) : Type 0 where
  pub schema : later.schema ≡ before.schema
  pub site : later.site ≡ before.site
  pub fresh : later.fresh ≡ before.fresh
  pub based : later.based ≡ before.based
  pub gone : later.gone ≡ before.gone

-- A site answered a command: the reply is owed after the history as it was, and the history has grown by exactly that
-- command with that reply; the device failed exactly where the reply says so; the medium has grown by the entry's record
-- alone; and under a known luck the reply is the one that is owed. After a restart that went well the site is what the
-- records stand for that its medium held, and the restart's own; and nothing is open.
pub record Applies (before : SiteValue) (command : Command) (reply : Reply) (later : SiteValue) : Type 0 where
  pub fits : Fits (here before) command reply
  pub entry : later.history ≡ entry_of before command reply ∷ before.history
  pub same : IsSame before later
  pub failed : later.failed ≡ failed_after reply before.failed
  pub logs : (rs : List Record) (rest : List ℕ) → Holds before.schema before.site.0 before.bytes rs rest
      → Logs before command reply later rs
  pub writes_ : Writes (here before) command reply before.bytes later.bytes
  pub foretold : later.foretold ≡ foretold_after reply before.foretold
  pub under : (rs : List Record) (rest : List ℕ) (mishap : Mishap) → Holds before.schema before.site.0 before.bytes rs rest
      → before.foretold ≡ Some mishap → reply ≡ owed_under before rs rest command mishap
  pub exact : (luck : Luck) (epoch : ℕ) (found : Last) → before.foretold ≡ Some (mishap_of luck) → Finds before epoch found
      → IsExact before command reply later luck epoch found
  pub replays : (rs : List Record) (rest : List ℕ) → IsLog before.bytes rs rest
      → Replays reply before.foretold (since_summary rs) before.replayed later.replayed
  pub stands : (rs : List Record) (rest : List ℕ) → Holds before.schema before.site.0 before.bytes rs rest
      → StandsAnew reply (here later) (rs ++ records.Restart (greatest rs + 1) ∷ [])
  pub closed : ClosesAll reply (here later)

-- The medium holds the texts of lawful records that the history keeps, and then bytes in which no line ends. Behind the last
-- summary stand at most 1,000 records and one for each restart that failed since the last that went well, where at most
-- 1,000 stood there when the site was opened.
pub record HoldsLog (v : SiteValue) : Type 0 where
  pub records : List Record
  pub rest : List ℕ
  pub kept : Bool
  pub log : Holds v.schema v.site.0 v.bytes records rest
  pub keeps : Keeps v.schema v.site.0 (base_of v) (plain v.based) kept v.history records
  pub lawful : Lawful v.schema v.site.0 records
  pub few : since_summary v.based ≤ max_behind → since_summary log.all ≤ max_behind + downs_since v.history

-- A site that stands on what a medium held: nothing is answered and nothing in doubt, the base is the records read.
pub record Opens (told : SchemaValue) (number : SiteNo) (held : List ℕ) (count : ℕ) (v : SiteValue) : Type 0 where
  pub schema : v.schema ≡ told
  pub site : v.site ≡ number
  pub fresh : (v.fresh ≡ true → held ≡ []) × (held ≡ [] → v.fresh ≡ true)
  pub rest : List ℕ
  pub based : IsLog held v.based rest
  pub lawful : Lawful told number.0 v.based
  pub history : v.history ≡ []
  pub bytes : v.bytes ≡ held
  pub failed : v.failed ≡ count
  pub doubt : v.doubt ≡ None
  pub replayed : v.replayed ≡ 0
