-- The mark that a folder keeps, once a log was refused in it as an older one (this project).
use Rattle.std.specs.Prelude.{◌≡◌, ◌⊎◌, ◌<◌, ◌^◌, ◌==◌, ℕ, List, [], ◌∷◌, Option, None, Some, position, take}
use Rattle.std.specs.Fmt.{decimal}
use Rattle.line_words.specs.Words.{words}
use Rattle.log_stand.specs.declared.stand.Stand.{Stand}
use Rattle.log_stand.specs.Stand.{IsBefore}
use Rattle.site_folder.specs.Identity.{IdentityValue}
use Rattle.folder_faults.specs.declared.fault.Fault.{Fault}
use Rattle.folder_faults.specs.declared.fault.Fault.TheVariants.{System}
use Rattle.folder_faults.specs.declared.fault.Why.TheVariants as why
use Rattle.folder_faults.specs.Faults.{IsOf, IsRefused}
use Rattle.world_folders.specs.declared.reading.PathFault.{PathFault}
use Rattle.world_folders.specs.declared.reading.PathFault.TheVariants.{NotThere, NoFolder, Failed}
use Rattle.world_folders.specs.Faults.{IsLogFault}
use Rattle.world_folders.specs.Logs.{IsStandRead}
use Rattle.world_folders.specs.Reading.{IsRead}

-- ---- what a mark is

-- The bytes up to a place, or all of them.
abbrev pub up_to : Option ℕ → List ℕ → List ℕ
up_to None bytes = bytes
up_to (Some at) bytes = take at bytes

-- The first line of the bytes: up to the first line feed (10), or all of them where none is there.
abbrev pub first_line : List ℕ → List ℕ
first_line bytes = up_to (position (λ b. b == 10) bytes) bytes

-- The first line of the bytes is the mark: its epoch and its length, with one space between them.
abbrev pub TellsMark : List ℕ → Stand → Type 0
TellsMark bytes mark = words (first_line bytes) ≡ decimal mark.epoch ∷ decimal mark.length ∷ []

-- The first line is no mark of two numbers of 64 bits.
abbrev pub TellsNoMark : List ℕ → Type 0
TellsNoMark bytes = (mark : Stand) → mark.epoch < 2 ^ 64 → mark.length < 2 ^ 64 → TellsMark bytes mark → ⊥

-- ---- a log that is served

-- The mark was read of its file, and the log has come as far, or further.
pub record HasComeToMark (holds : List ℕ → List ℕ → Type 0) (marked log : List ℕ) (identity : IdentityValue) : Type 0 where
  pub bytes : List ℕ
  pub read : IsRead holds marked bytes
  pub mark : Stand
  pub told : TellsMark bytes mark
  pub stand : Stand
  pub stand_read : IsStandRead holds log identity stand
  pub newest : IsBefore stand mark → ⊥

-- The log is no older than its folder's mark: none was found there, or the log has come to it.
abbrev pub IsNotMarkedOlder : (List ℕ → PathFault → Type 0) → (List ℕ → List ℕ → Type 0) → List ℕ → List ℕ → IdentityValue → Type 0
IsNotMarkedOlder fails holds marked log identity = fails marked NotThere ⊎ HasComeToMark holds marked log identity

-- ---- a log that is refused

-- The fault tells why the file of a mark that may be there can't be read.
abbrev pub TellsUnreadMark : List ℕ → PathFault → Fault → Type 0
TellsUnreadMark path NotThere fault = ⊥
TellsUnreadMark path NoFolder fault = IsRefused path why.NoFolder fault
TellsUnreadMark path (Failed error) fault = IsOf (λ name. System name error) path fault

-- The file of the mark wasn't read, and the fault tells why.
pub record IsMarkUnread (fails : List ℕ → PathFault → Type 0) (marked : List ℕ) (fault : Fault) : Type 0 where
  pub why : PathFault
  pub failed : fails marked why
  pub told : TellsUnreadMark marked why fault

-- The file of the mark was read, and tells none.
pub record IsNoMark (holds : List ℕ → List ℕ → Type 0) (marked : List ℕ) (fault : Fault) : Type 0 where
  pub bytes : List ℕ
  pub read : IsRead holds marked bytes
  pub none : TellsNoMark bytes
  pub told : IsRefused marked why.NoMark fault

-- The mark was read of its file, the log has come less far, and the fault tells how far, and the mark.
pub record IsMarkedOlder (holds : List ℕ → List ℕ → Type 0) (marked log : List ℕ) (identity : IdentityValue) (fault : Fault) : Type 0 where
  pub bytes : List ℕ
  pub read : IsRead holds marked bytes
  pub mark : Stand
  pub mark_told : TellsMark bytes mark
  pub stand : Stand
  pub stand_read : IsStandRead holds log identity stand
  pub older : IsBefore stand mark
  pub told : IsRefused log (why.Marked stand.epoch stand.length mark.epoch mark.length) fault

-- Why a log isn't served: its mark or itself can't be read, or it is older than its mark.
abbrev pub IsMarkFault : (List ℕ → PathFault → Type 0) → (List ℕ → List ℕ → Type 0) → List ℕ → List ℕ → IdentityValue → Fault → Type 0
IsMarkFault fails holds marked log identity fault =
    IsMarkUnread fails marked fault
    ⊎ IsNoMark holds marked fault
    ⊎ IsLogFault fails holds log identity fault
    ⊎ IsMarkedOlder holds marked log identity fault
