-- What the file of a site's log holds, of any version (this project).
use Rattle.std.specs.Prelude.{◌≡◌, ◌⊎◌, ◌+◌, ℕ, List, ◌++◌, Option, None, Some}
use Rattle.sealed_text.specs.declared.reading.Unsealed.{Unsealed}
use Rattle.sealed_text.specs.Seals.{Unseals, IsDamagedAt, lines_of}
use Rattle.site_folder.specs.Identity.{IdentityValue, sealed_log_name}
use Rattle.log_head.specs.declared.fault.HeadFault.{HeadFault}
use Rattle.log_head.specs.declared.fault.HeadFault.TheVariants.{Other as HeadOther, Changed as HeadChanged, NoMemory as HeadNoMemory}
use Rattle.log_head.specs.declared.gone.Gone.{Gone}
use Rattle.log_head.specs.Heads.{IsGone, IsOther, IsChanged, shortened_name}
use Rattle.folder_logs.specs.Files.{HasRecords, HoldsRecords}
use Rattle.held_logs.specs.declared.fault.HeldFault.{HeldFault}
use Rattle.held_logs.specs.declared.fault.HeldFault.TheVariants.{Other, Changed, Damaged, NoMemory}

-- The text is batches that sums close, in which these records stand, and notes of callers' keys beside them.
pub record HoldsBatches (text records : List ℕ) : Type 0 where
  pub unsealed : Unsealed
  pub closed : Unseals text unsealed
  pub has : HasRecords unsealed.records.items records

-- The file is the site's log of version 3: a head that tells this to be gone, and behind it batches in which these records stand.
pub record IsShortenedLog (identity : IdentityValue) (file : List ℕ) (gone : Gone) (records : List ℕ) : Type 0 where
  pub told : IsGone gone
  pub text : List ℕ
  pub file_is : file ≡ shortened_name identity gone ++ text
  pub holds : HoldsBatches text records

-- The file is the site's log. Of versions 1 and 2 nothing is gone, and these are its records; of version 3 its head tells what is, and
-- these are those that are held.
abbrev pub Holds : IdentityValue → List ℕ → Option Gone → List ℕ → Type 0
Holds identity file None records = HoldsRecords identity file records
Holds identity file (Some gone) records = IsShortenedLog identity file gone records

-- ---- why a file is none

-- Behind this head, with which the file begins, a batch is damaged, and begins at this line of the file, whose first one is 1.
pub record IsDamagedBehind (head file : List ℕ) (line : ℕ) : Type 0 where
  pub text : List ℕ
  pub number : ℕ
  pub file_is : file ≡ head ++ text
  pub damaged : IsDamagedAt text number
  pub line_is : line ≡ lines_of head + number

-- The file begins with a head of the site's log of version 3, and a batch behind it is damaged.
pub record IsDamagedShort (identity : IdentityValue) (file : List ℕ) (line : ℕ) : Type 0 where
  pub gone : Gone
  pub told : IsGone gone
  pub behind : IsDamagedBehind (shortened_name identity gone) file line

-- Why a file is no log of the site. Of want of memory nothing can be said.
abbrev pub IsHeldFault : IdentityValue → List ℕ → HeldFault → Type 0
IsHeldFault identity file Other = IsOther identity file
IsHeldFault identity file Changed = IsChanged identity file
IsHeldFault identity file (Damaged line) = IsDamagedBehind (sealed_log_name identity) file line ⊎ IsDamagedShort identity file line
IsHeldFault identity file NoMemory = Unit {0}

-- The fault of a log by that of its head.
abbrev pub of_head : HeadFault → HeldFault
of_head HeadOther = Other
of_head HeadChanged = Changed
of_head HeadNoMemory = NoMemory
