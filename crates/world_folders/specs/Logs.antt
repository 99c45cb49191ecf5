-- What the logs of a world come to, by the bytes that were read of them. Of a log of version 3 nobody has the records in front of its base,
-- so what is said of it holds behind each past that the base may have (this project).
use Rattle.std.specs.Prelude.{◌≡◌, ◌<◌, ℕ, ◌+◌, List, ◌++◌, ◌∷◌, length, Option, None, Some, option_map, Result, Ok, Err, string_bytes, slice_index_or}
use Rattle.field_bounds.specs.Schema.{SchemaValue}
use Rattle.kept_records.specs.declared.record.Record.{Record}
use Rattle.kept_records.specs.declared.counting.LogCount.{LogCount}
use Rattle.kept_records.specs.Counting.{IsCountOf}
use Rattle.kept_records.specs.Logs.{IsLog}
use Rattle.kept_records.specs.Summary.{SummaryValue, summary_record}
use Rattle.log_replay.specs.declared.standing.Standing.{Standing}
use Rattle.log_replay.specs.declared.log_bytes.LogReplayed.{LogReplayed}
use Rattle.log_replay.specs.declared.log_bytes.LogReplayed.TheVariants as came
use Rattle.log_bases.specs.Bases.{IsPast}
use Rattle.log_stand.specs.declared.stand.Stand.{Stand}
use Rattle.log_stand.specs.Stand.{IsStandOf}
use Rattle.site_folder.specs.Identity.{IdentityValue}
use Rattle.log_head.specs.declared.gone.Gone.{Gone}
use Rattle.folder_logs.specs.First.{TellsFirst}
use Rattle.held_logs.specs.Held.{Holds}
use Rattle.held_logs.specs.Behind.{TellsBehind}
use Rattle.held_logs.specs.Counts.{IsCountBehind, IsStandBehind, told_number}
use Rattle.world_logs.specs.declared.field_state.FieldState.{FieldState}
use Rattle.world_logs.specs.Logs.{log_of, AreLawful, AcceptedWithin}
use Rattle.world_logs.specs.States.{AreStates, Settles}
use Rattle.world_logs.specs.HeaderText.{header_text}
use Rattle.field_bounds.specs.Header.{schema_of}
use Rattle.world_folders.specs.declared.worlds.SiteFolder.{SiteFolder}
use Rattle.world_folders.specs.declared.folder_log.FolderReplay.{FolderReplay}
use Rattle.world_folders.specs.declared.showing.Shown.{Shown}
use Rattle.world_folders.specs.Reading.{IsRead}
use Rattle.world_folders.specs.Folders.{IsFolderOf}

-- This is all that the log of a site holds, and what its head tells to be gone: the file at the path was read, and is the site's log so.
pub record AreOfLog (holds : List ℕ → List ℕ → Type 0) (path : List ℕ) (identity : IdentityValue) (gone : Option Gone) (records : List ℕ) : Type 0 where
  pub file : List ℕ
  pub read : IsRead holds path file
  pub held : Holds identity file gone records

-- ---- what the records come to that a log holds, by what is gone of it

-- They are counted, and those that are gone with those that are no summaries.
abbrev pub AreCounted : Option Gone → List ℕ → LogCount → Type 0
AreCounted None records count = IsCountOf records count
AreCounted (Some gone) records count = IsCountBehind gone records count

-- So far the log has come, what is gone included.
abbrev pub HaveCome : Option Gone → List ℕ → Stand → Type 0
HaveCome None records stand = IsStandOf records stand
HaveCome (Some gone) records stand = IsStandBehind gone records stand

-- What the answer tells of them: behind a head they begin with a base, and it tells the same behind each past of that.
abbrev pub TellsHeld : SchemaValue → ℕ → Option Gone → List ℕ → LogReplayed → Type 0
TellsHeld schema s None records replayed = TellsFirst schema s records replayed
TellsHeld schema s (Some gone) records replayed = TellsBehind schema s records replayed

-- Something is gone, and no record is held.
abbrev pub LacksBase : Option Gone → LogCount → Type 0
LacksBase None count = ⊥
LacksBase (Some gone) count = count.length ≡ 0

-- How long all records are, in bytes, what is gone included.
abbrev pub length_of : Option Gone → ℕ → ℕ
length_of None held = held
length_of (Some gone) held = told_number (gone.bytes + held)

-- How many bytes of them are gone, where a head tells it.
abbrev pub gone_bytes : Option Gone → Option ℕ
gone_bytes gone = option_map (λ (g : Gone). g.bytes) gone

-- ---- one log

-- The log was read, each line of the records that it holds is one, and so they are counted; behind a head there is one.
pub record CountsLog (holds : List ℕ → List ℕ → Type 0) (path : List ℕ) (identity : IdentityValue) (count : LogCount) : Type 0 where
  pub gone : Option Gone
  pub records : List ℕ
  pub log : AreOfLog holds path identity gone records
  pub counted : AreCounted gone records count
  pub whole : count.bad_line ≡ None
  pub based : LacksBase gone count → ⊥

-- The log was read, and has come so far.
pub record IsStandRead (holds : List ℕ → List ℕ → Type 0) (path : List ℕ) (identity : IdentityValue) (stand : Stand) : Type 0 where
  pub gone : Option Gone
  pub records : List ℕ
  pub log : AreOfLog holds path identity gone records
  pub come : HaveCome gone records stand

-- The log was read, this is gone of it, and its records come to this.
pub record ReplaysLog (holds : List ℕ → List ℕ → Type 0) (path : List ℕ) (identity : IdentityValue) (schema : SchemaValue) (s : ℕ)
    (replay : FolderReplay) : Type 0 where
  pub records : List ℕ
  pub log : AreOfLog holds path identity replay.gone records
  pub tells : TellsHeld schema s replay.gone records replay.came

-- The log was read, and this stands for all of its records; it tells how long they are, and how many bytes of them are gone.
pub record ShowsLog (holds : List ℕ → List ℕ → Type 0) (path : List ℕ) (identity : IdentityValue) (shown : Shown) : Type 0 where
  pub gone : Option Gone
  pub records : List ℕ
  pub log : AreOfLog holds path identity gone records
  pub size : ℕ
  pub comes : TellsHeld identity.schema identity.number.0 gone records (came.Standing shown.standing size)
  pub long : shown.length ≡ length_of gone size
  pub told_gone : shown.gone ≡ gone_bytes gone

-- ---- one site of a world

-- The log in the folder of the site was read, and its records come to this.
pub record ComesAsRead (holds : List ℕ → List ℕ → Type 0) (folders : List SiteFolder) (schema : SchemaValue) (s : ℕ)
    (replayed : LogReplayed) : Type 0 where
  pub folder : SiteFolder
  pub own : IsFolderOf folders s folder
  pub gone : Option Gone
  pub records : List ℕ
  pub log : AreOfLog holds (string_bytes folder.paths.log) folder.identity gone records
  pub tells : TellsHeld schema s gone records replayed

-- The standing is for all records of the log, which are lawful.
pub record StandsAsRead (holds : List ℕ → List ℕ → Type 0) (folders : List SiteFolder) (schema : SchemaValue) (s : ℕ)
    (standing : Standing) : Type 0 where
  pub size : ℕ
  pub comes : ComesAsRead holds folders schema s (came.Standing standing size)

-- The record of this number, of those that the log holds, is the first that breaks a rule.
abbrev pub BreaksAsRead : (List ℕ → List ℕ → Type 0) → List SiteFolder → SchemaValue → ℕ → ℕ → Type 0
BreaksAsRead holds folders schema s number = ComesAsRead holds folders schema s (came.BreaksRule number)

-- What the log of a site came to, as it was read.
abbrev pub IsOutcomeRead : (List ℕ → List ℕ → Type 0) → List SiteFolder → SchemaValue → ℕ → Result Standing ℕ → Type 0
IsOutcomeRead holds folders schema s (Ok standing) = StandsAsRead holds folders schema s standing
IsOutcomeRead holds folders schema s (Err number) = BreaksAsRead holds folders schema s number

-- The same of all sites, in their order: each of its own log.
pub record AreOutcomesRead (holds : List ℕ → List ℕ → Type 0) (folders : List SiteFolder) (schema : SchemaValue)
    (outcomes : List (Result Standing ℕ)) : Type 0 where
  pub count : length outcomes ≡ schema.sites
  pub each : (s : ℕ) → s < schema.sites → IsOutcomeRead holds folders schema s (slice_index_or outcomes s (Err 0))

-- For each site, in order, there is the standing for its own log.
pub record StandAsRead (holds : List ℕ → List ℕ → Type 0) (folders : List SiteFolder) (schema : SchemaValue)
    (standings : List Standing) : Type 0 where
  pub count : length standings ≡ schema.sites
  pub each : (s : ℕ) (d : Standing) → s < schema.sites → StandsAsRead holds folders schema s (slice_index_or standings s d)

-- ---- all sites of a world

-- What was read of a log: what its head tells to be gone, and the bytes of the records that it holds.
pub record LogText : Type 0 where
  pub gone : Option Gone
  pub records : List ℕ

-- The log in the folder of the site was read, and this is what was read of it.
pub record IsLogRead (holds : List ℕ → List ℕ → Type 0) (folders : List SiteFolder) (s : ℕ) (log : LogText) : Type 0 where
  pub folder : SiteFolder
  pub own : IsFolderOf folders s folder
  pub read : AreOfLog holds (string_bytes folder.paths.log) folder.identity log.gone log.records

-- The logs of all sites were read, in their order: each is its own.
pub record AreLogsRead (holds : List ℕ → List ℕ → Type 0) (folders : List SiteFolder) (schema : SchemaValue) (texts : List LogText) : Type 0 where
  pub count : length texts ≡ schema.sites
  pub each : (s : ℕ) (d : LogText) → s < schema.sites → IsLogRead holds folders s (slice_index_or texts s d)

-- The bytes are the texts of these records, and of a torn one behind them, if any.
abbrev pub AreWhole : List ℕ → List Record → Type 0
AreWhole bytes rs = (rest : List ℕ) × IsLog bytes rs rest

-- The bytes are the texts of a base and of records behind it; these are they, and in front of them a past that the base has.
pub record AreBehindPast (schema : SchemaValue) (s : ℕ) (bytes : List ℕ) (rs : List Record) : Type 0 where
  pub base : SummaryValue
  pub behind : List Record
  pub held : AreWhole bytes (summary_record base ∷ behind)
  pub past : List Record
  pub is_past : IsPast schema s base past
  pub all : rs ≡ past ++ (summary_record base ∷ behind)

-- These may be all records of the site: those that its log holds, and where some are gone, a past in front of them.
abbrev pub AreRecordsOf : SchemaValue → ℕ → Option Gone → List ℕ → List Record → Type 0
AreRecordsOf schema s None bytes rs = AreWhole bytes rs
AreRecordsOf schema s (Some gone) bytes rs = AreBehindPast schema s bytes rs

-- These may be the logs of all sites of which this was read. Where nothing is gone there are no others.
pub record AreLogsOf (schema : SchemaValue) (texts : List LogText) (logs : List (List Record)) : Type 0 where
  pub count : length logs ≡ schema.sites
  pub each : (s : ℕ) (d : LogText) → s < schema.sites
      → AreRecordsOf schema s (slice_index_or texts s d).gone (slice_index_or texts s d).records (log_of logs s)

-- The logs were read; there are such logs, and whichever of them are the sites', each is lawful, and no site has accepted more than was
-- given.
pub record AreSoundAsRead (holds : List ℕ → List ℕ → Type 0) (folders : List SiteFolder) (schema : SchemaValue) (texts : List LogText) : Type 0 where
  pub read : AreLogsRead holds folders schema texts
  pub some : (logs : List (List Record)) × AreLogsOf schema texts logs
  pub lawful : (logs : List (List Record)) → AreLogsOf schema texts logs → AreLawful schema logs
  pub within : (logs : List (List Record)) → AreLogsOf schema texts logs → AcceptedWithin schema logs

-- The logs that were read account for every right, and this is where each field stands by them.
pub record AccountsFor (holds : List ℕ → List ℕ → Type 0) (folders : List SiteFolder) (schema : SchemaValue)
    (states : List FieldState) : Type 0 where
  pub texts : List LogText
  pub sound : AreSoundAsRead holds folders schema texts
  pub stand : (logs : List (List Record)) → AreLogsOf schema texts logs → AreStates schema logs states

-- The logs that were read account for every right, and the new schema goes on where they end.
pub record SettlesAsRead (holds : List ℕ → List ℕ → Type 0) (folders : List SiteFolder) (schema new : SchemaValue) : Type 0 where
  pub texts : List LogText
  pub sound : AreSoundAsRead holds folders schema texts
  pub settles : (logs : List (List Record)) → AreLogsOf schema texts logs → Settles schema logs new

-- The text is the header of that schema, and is read as it.
pub record WritesSettled (holds : List ℕ → List ℕ → Type 0) (folders : List SiteFolder) (schema : SchemaValue) (header : List ℕ) : Type 0 where
  pub new : SchemaValue
  pub settled : SettlesAsRead holds folders schema new
  pub text : header ≡ header_text new
  pub reads_back : schema_of header ≡ Ok new
