-- The whole log of a folder, from all parts that were kept of it (this project).
use Rattle.std.specs.Prelude.{◌≡◌, ℕ, List, [], ◌∷◌, ◌++◌, length, codes, Option, None, Some}
use Rattle.std.specs.Fmt.{decimal}
use Rattle.std.specs.List.{flat_map}
use Rattle.kept_records.specs.declared.record.Record.{Record}
use Rattle.kept_records.specs.Stands.{Lawful, plain}
use Rattle.kept_records.specs.Text.{text}
use Rattle.site_folder.specs.Identity.{IdentityValue}
use Rattle.log_head.specs.declared.gone.Gone.{Gone}
use Rattle.held_logs.specs.Counts.{told_number}
use Rattle.world_folders.specs.Logs.{AreOfLog}
use Rattle.log_archives.specs.Chains.{AreJoined, AreToldInTurn, PartValue}
use Rattle.folder_archives.specs.declared.verifying.LogTotals.{LogTotals}

-- The path of the part that was the log before so many bytes were gone: that of the log, a dot and the number.
abbrev pub part_path : List ℕ → ℕ → List ℕ
part_path log gone = (log ++ codes ".") ++ decimal gone

-- Where the part lies behind which these stand: at the path that the head of the next one tells, and the last of all as the log.
abbrev pub path_of : List ℕ → List PartValue → List ℕ
path_of log [] = log
path_of log (p ∷ _) = part_path log p.gone.bytes

-- A part was read of which this is gone and which holds these records, and so were those behind it, each where it lies.
abbrev pub AreRead : (List ℕ → List ℕ → Type 0) → List ℕ → IdentityValue → Option Gone → List ℕ → List PartValue → Type 0
AreRead holds log identity gone held [] = AreOfLog holds log identity gone held
AreRead holds log identity gone held (p ∷ ps) =
    AreOfLog holds (part_path log p.gone.bytes) identity gone held × AreRead holds log identity (Some p.gone) p.held ps

-- The parts from this one on were read, up to the log; each joins with the next one, and the log is lawful to its end. These are their
-- records, of each part up to where the next one begins.
pub record AreVerified (holds : List ℕ → List ℕ → Type 0) (log : List ℕ) (identity : IdentityValue) (gone : Option Gone) (held : List ℕ)
    : Type 0 where
  pub parts : List PartValue
  pub records : List Record
  pub read : AreRead holds log identity gone held parts
  pub joined : AreJoined identity.schema identity.number.0 gone held parts records

-- The whole log was verified: nothing is gone in front of the first part; the records are lawful, and each head tells rightly what is gone;
-- and so many are they that are no summaries, and so many bytes are all of them.
pub record IsVerified (holds : List ℕ → List ℕ → Type 0) (log : List ℕ) (identity : IdentityValue) (totals : LogTotals) : Type 0 where
  pub held : List ℕ
  pub all : AreVerified holds log identity None held
  pub lawful : Lawful identity.schema identity.number.0 all.records
  pub told : AreToldInTurn [] all.parts all.records
  pub count : totals.records ≡ told_number (length (plain all.records))
  pub size : totals.bytes ≡ told_number (length (flat_map text all.records))
