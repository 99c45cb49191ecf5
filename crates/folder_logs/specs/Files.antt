-- What the files of a site's folder hold (this project).
use Rattle.std.specs.Prelude.{◌≡◌, ◌≢◌, ◌⊎◌, ◌++◌, ℕ, List}
use Rattle.sealed_text.specs.declared.fault.TextFault.{TextFault}
use Rattle.sealed_text.specs.declared.fault.TextFault.TheVariants as texts
use Rattle.sealed_text.specs.declared.reading.Unsealed.{Unsealed}
use Rattle.sealed_text.specs.Seals.{Unseals, IsDamagedAt}
use Rattle.caller_keys.specs.Keys.{KeyNote, IsKeyed}
use Rattle.site_folder.specs.Identity.{IdentityValue, log_name, sealed_log_name}
use Rattle.folder_logs.specs.declared.fault.LogFault.{LogFault}
use Rattle.folder_logs.specs.declared.fault.LogFault.TheVariants.{Other, Damaged, NoMemory}
use Rattle.folder_logs.specs.declared.records.Records.{Records}
use Rattle.folder_logs.specs.declared.records.Records.TheVariants as versions

-- The bytes of the records of a log.
abbrev pub bytes_of : Records → List ℕ
bytes_of (versions.Plain records) = records.now
bytes_of (versions.Taken records) = records.items

-- The text has these records, and notes of callers' keys beside them, which are no records.
pub record HasRecords (text records : List ℕ) : Type 0 where
  pub notes : List KeyNote
  pub keyed : IsKeyed text notes records

-- The file is the site's log of version 1: its name, and behind it a text that has these records.
pub record IsPlainLog (identity : IdentityValue) (file records : List ℕ) : Type 0 where
  pub text : List ℕ
  pub file_is : file ≡ log_name identity ++ text
  pub has : HasRecords text records

-- The file is the site's log of version 2: its name, and behind it a text of batches that sums close, in which these records stand.
pub record IsSealedLog (identity : IdentityValue) (file records : List ℕ) : Type 0 where
  pub text : List ℕ
  pub file_is : file ≡ sealed_log_name identity ++ text
  pub unsealed : Unsealed
  pub closed : Unseals text unsealed
  pub has : HasRecords unsealed.records.items records

-- The file is the site's log, of either version, and these are its records.
abbrev pub HoldsRecords : IdentityValue → List ℕ → List ℕ → Type 0
HoldsRecords identity file records = IsPlainLog identity file records ⊎ IsSealedLog identity file records

-- The file begins with the name of no log of the site.
pub record IsOtherLog (identity : IdentityValue) (file : List ℕ) : Type 0 where
  pub plain : (rest : List ℕ) → file ≢ log_name identity ++ rest
  pub sealed : (rest : List ℕ) → file ≢ sealed_log_name identity ++ rest

-- The file begins with the name of the site's log of version 2, and behind it a batch is damaged, which begins at this line.
pub record IsDamagedLog (identity : IdentityValue) (file : List ℕ) (line : ℕ) : Type 0 where
  pub text : List ℕ
  pub file_is : file ≡ sealed_log_name identity ++ text
  pub damaged : IsDamagedAt text line

-- Why a file is no log of the site. Of want of memory nothing can be said.
abbrev pub IsLogFault : IdentityValue → List ℕ → LogFault → Type 0
IsLogFault identity file Other = IsOtherLog identity file
IsLogFault identity file (Damaged line) = IsDamagedLog identity file line
IsLogFault identity file NoMemory = Unit {0}

-- The fault of a log by that of its text.
abbrev pub fault_of : TextFault → LogFault
fault_of (texts.Damaged line) = Damaged line
fault_of texts.NoMemory = NoMemory
