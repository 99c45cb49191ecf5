-- The transactions whose commits a log holds, as far as it was looked at, and the notes that it hasn't got (this project). No public
-- clause cites this module.
use Rattle.std.specs.Prelude.{◌≡◌, ◌↔◌, ◌≤◌, ℕ, true, List, [], ◌++◌, length, take, Option, Contains}
use Rattle.std.specs.List.{AllByRecursion, flat_map}
use Rattle.field_bounds.specs.declared.id.TxnId.{TxnId}
use Rattle.kept_records.specs.declared.record.Record.{Record}
use Rattle.kept_records.specs.Logs.{IsLog}
use Rattle.site_service.specs.declared.kept.KeptCommits.{KeptCommits}
use Rattle.caller_keys.specs.Keys.{KeyNote, IsNote, note_line, AreLines, last_txn}
use Rattle.file_medium.specs.Copies.{IsCopyOf}
use Rattle.site_step.specs.Site.{SiteValue}
use Rattle.site_step.specs.Shortening.{has_commit}
use Rattle.site_service.specs.Kept.{LastNotes, last_of}
use Rattle.site_service.specs.Answers.{held_in}
use Rattle.site_service.specs.Service.{ServiceValue, IsTextOf, StandsOnHeld, IsLinked}

-- The first so many bytes are whole lines, and the set has exactly the transactions whose commits are among their records.
pub record IsIndexOf (kept : KeptCommits) (bytes : List ℕ) : Type 0 where
  pub within : kept.seen ≤ length bytes
  pub records : List Record
  pub lines : IsLog (take kept.seen bytes) records []
  pub exact : (txn : TxnId) → Contains kept.txns txn ↔ (has_commit txn records ≡ true)

-- The lines are those of these notes.
pub record AreNoteLines (bytes : List ℕ) (notes : List KeyNote) : Type 0 where
  pub each : AllByRecursion IsNote notes
  pub lines : bytes ≡ flat_map note_line notes

-- Lines of notes that stand behind some notes: these and those tell of each key its last transaction.
pub record IsBehind (notes : List KeyNote) (bytes : List ℕ) (last : LastNotes) : Type 0 where
  pub more : List KeyNote
  pub lines : AreNoteLines bytes more
  pub tells : (key : List ℕ) → last_of last key ≡ last_txn key (notes ++ more)

-- The log is a text of whole lines that is safe, with these records, and with notes that tell of each key its last transaction.
pub record IsFollowed (held kept : Option (List ℕ)) (last : LastNotes) (records : List ℕ) : Type 0 where
  pub text : List ℕ
  pub lines : AreLines text
  pub is : IsTextOf text last records
  pub log : IsCopyOf held text
  pub safe : IsCopyOf kept text

-- The site goes on over such a medium, to which it only appends; nothing is let go.
pub record GoesOn (old new : SiteValue) : Type 0 where
  pub stands : StandsOnHeld new
  pub gone : new.gone ≡ old.gone
  pub added : List ℕ
  pub bytes : new.bytes ≡ old.bytes ++ added
  pub schema : new.schema ≡ old.schema

-- What holds of every service: the link between its medium and its log, the set is that of the bytes that the medium holds, and the
-- lines of notes are those that the log hasn't got.
pub record IsSoundService (site : SiteValue) (v : ServiceValue) (kept : KeptCommits) (lines : List ℕ) : Type 0 where
  pub linked : IsLinked site v
  pub index : IsIndexOf kept (held_in v.served)
  pub noting : AreNoteLines lines linked.more
