-- Why the command `serve` doesn't serve a log (this project).
use Rattle.std.specs.Prelude.{◌≡◌, ◌⊎◌, ℕ, List, ◌++◌, Option, None, Some}
use Rattle.field_bounds.specs.Schema.{SchemaValue}
use Rattle.field_bounds.specs.declared.id.SiteNo.{SiteNo}
use Rattle.log_stand.specs.declared.stand.Stand.{Stand}
use Rattle.log_stand.specs.Stand.{IsBefore}
use Rattle.log_head.specs.declared.gone.Gone.{Gone}
use Rattle.site_folder.specs.Identity.{IdentityValue, log_name}
use Rattle.site_step.specs.declared.site.opening.OpenFault.{OpenFault}
use Rattle.site_step.specs.declared.site.opening.OpenFault.TheVariants.{Line, Device, NoMemory}
use Rattle.site_service.specs.Behind.{TellsBadBehind}
use Rattle.site_service.specs.Opening.{TellsBadLine}
use Rattle.folder_faults.specs.declared.fault.Fault.{Fault}
use Rattle.folder_faults.specs.declared.fault.Fault.TheVariants as faults
use Rattle.folder_faults.specs.declared.fault.Missing.TheVariants.{Log}
use Rattle.folder_faults.specs.declared.fault.Why.TheVariants as why
use Rattle.folder_faults.specs.Faults.{IsDevice, IsRefused}
use Rattle.world_folders.specs.declared.reading.PathFault.{PathFault}
use Rattle.world_folders.specs.Faults.{IsLogFault, IsUnread}
use Rattle.world_folders.specs.Logs.{IsStandRead}
use Rattle.world_folders.specs.Reading.{IsRead}

-- The log was read, has come less far than was seen of it before, and the fault tells how far.
pub record IsOlder (holds : List ℕ → List ℕ → Type 0) (path : List ℕ) (identity : IdentityValue) (seen : Stand) (fault : Fault) : Type 0 where
  pub stand : Stand
  pub read : IsStandRead holds path identity stand
  pub older : IsBefore stand seen
  pub told : IsRefused path (why.Old stand.epoch stand.length) fault

-- The log can't be read, isn't the site's, or is older than was seen.
abbrev pub IsAgeFault : (List ℕ → PathFault → Type 0) → (List ℕ → List ℕ → Type 0) → List ℕ → IdentityValue → Stand → Fault → Type 0
IsAgeFault fails holds path identity seen fault = IsLogFault fails holds path identity fault ⊎ IsOlder holds path identity seen fault

-- The file was read, and is the site's log of version 1.
pub record IsPlain (holds : List ℕ → List ℕ → Type 0) (path : List ℕ) (identity : IdentityValue) (fault : Fault) : Type 0 where
  pub bytes : List ℕ
  pub read : IsRead holds path bytes
  pub rest : List ℕ
  pub is : bytes ≡ log_name identity ++ rest
  pub told : IsRefused path why.Plain fault

-- The log can't be read, or is of version 1, or memory was wanting.
abbrev pub IsPlainFault : (List ℕ → PathFault → Type 0) → (List ℕ → List ℕ → Type 0) → List ℕ → IdentityValue → Fault → Type 0
IsPlainFault fails holds path identity fault = IsUnread fails path Log fault ⊎ IsPlain holds path identity fault ⊎ (fault ≡ faults.NoMemory)

-- The fault tells so of the log at the path why no site is opened over it.
abbrev pub TellsUnopened : List ℕ → OpenFault → Fault → Type 0
TellsUnopened path (Line number) fault = IsRefused path (why.BadRecord number) fault
TellsUnopened path Device fault = IsDevice path fault
TellsUnopened path NoMemory fault = fault ≡ faults.NoMemory

-- Why no site is opened over a log of which this is told to be gone, or over a whole one where nothing is told.
abbrev pub IsUnopenedFor : SchemaValue → SiteNo → Option Gone → Option (List ℕ) → OpenFault → Type 0
IsUnopenedFor schema number None known why = TellsBadLine schema number known why
IsUnopenedFor schema number (Some told) known why = TellsBadBehind schema number known why

-- No site is opened over the log, and the fault tells why.
pub record IsUnopened (schema : SchemaValue) (number : SiteNo) (gone : Option Gone) (known : Option (List ℕ)) (path : List ℕ) (fault : Fault)
    : Type 0 where
  pub why : OpenFault
  pub is : IsUnopenedFor schema number gone known why
  pub told : TellsUnopened path why fault
