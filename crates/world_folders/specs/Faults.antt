-- Why a file of a folder isn't read, or what was read of it is refused (this project).
use Rattle.std.specs.Prelude.{◌≡◌, ◌⊎◌, ℕ, List}
use denote.Ref.{Bor}
use Rattle.site_folder.specs.declared.fault.IdentityFault.{IdentityFault}
use Rattle.site_folder.specs.declared.fault.IdentityFault.TheVariants as identity
use Rattle.site_folder.specs.Identity.{IdentityValue}
use Rattle.site_folder.specs.Reading.{IsRefused as IsNoIdentityFor}
use Rattle.held_logs.specs.declared.fault.HeldFault.{HeldFault}
use Rattle.held_logs.specs.declared.fault.HeldFault.TheVariants as held
use Rattle.held_logs.specs.Held.{IsHeldFault}
use Rattle.folder_faults.specs.declared.fault.Fault.{Fault}
use Rattle.folder_faults.specs.declared.fault.Fault.TheVariants.{System, NoMemory}
use Rattle.folder_faults.specs.declared.fault.Missing.{Missing}
use Rattle.folder_faults.specs.declared.fault.Missing.TheVariants.{Site, Log}
use Rattle.folder_faults.specs.declared.fault.Why.TheVariants as why
use Rattle.folder_faults.specs.Faults.{IsOf, IsRefused, why_missing}
use Rattle.world_folders.specs.declared.reading.PathFault.{PathFault}
use Rattle.world_folders.specs.declared.reading.PathFault.TheVariants.{NotThere, NoFolder, Failed}
use Rattle.world_folders.specs.Reading.{IsRead}

-- ---- of files that aren't read

-- The fault tells that this file isn't there, that on its path something is no folder, or how the system failed.
abbrev pub TellsUnread : List ℕ → Missing → PathFault → Fault → Type 0
TellsUnread path missing NotThere = IsRefused path (why_missing missing)
TellsUnread path missing NoFolder = IsRefused path why.NoFolder
TellsUnread path missing (Failed error) = IsOf (λ name. System name error) path

-- The file at the path wasn't read, and the fault tells why.
pub record IsUnread (fails : List ℕ → PathFault → Type 0) (path : List ℕ) (missing : Missing) (fault : Fault) : Type 0 where
  pub why : PathFault
  pub failed : fails path why
  pub told : TellsUnread path missing why fault

-- ---- of the file `site`

-- The fault tells so why a text is no identity's; two reasons are told alike.
abbrev pub TellsNoIdentity : List ℕ → IdentityFault → Fault → Type 0
TellsNoIdentity path identity.Version fault = IsRefused path why.OtherVersion fault
TellsNoIdentity path identity.NoIdentity fault = IsRefused path why.Damaged fault
TellsNoIdentity path identity.Name fault = IsRefused path why.Damaged fault
TellsNoIdentity path identity.World fault = IsRefused path why.HeaderChanged fault
TellsNoIdentity path identity.Lines fault = IsRefused path why.ManyLines fault
TellsNoIdentity path (identity.Header header) fault = (words : Bor (List ℕ)) × IsRefused path (why.Header header words) fault
TellsNoIdentity path identity.Number fault = IsRefused path why.OtherNumber fault
TellsNoIdentity path identity.NoMemory fault = fault ≡ NoMemory

-- The file at the path was read, and is the text of no identity, as the fault tells.
pub record IsNoIdentity (holds : List ℕ → List ℕ → Type 0) (path : List ℕ) (fault : Fault) : Type 0 where
  pub file : List ℕ
  pub read : IsRead holds path file
  pub why : IdentityFault
  pub is : IsNoIdentityFor file why
  pub told : TellsNoIdentity path why fault

-- The file `site` at the path wasn't read, or is none.
abbrev pub IsNoSite : (List ℕ → PathFault → Type 0) → (List ℕ → List ℕ → Type 0) → List ℕ → Fault → Type 0
IsNoSite fails holds path fault = IsUnread fails path Site fault ⊎ IsNoIdentity holds path fault

-- ---- of a log

-- The fault tells so why a file is no log of the site.
abbrev pub TellsNoLog : List ℕ → HeldFault → Fault → Type 0
TellsNoLog path held.Other fault = IsRefused path why.OtherLog fault
TellsNoLog path held.Changed fault = IsRefused path why.HeadChanged fault
TellsNoLog path (held.Damaged line) fault = IsRefused path (why.DamagedBatch line) fault
TellsNoLog path held.NoMemory fault = fault ≡ NoMemory

-- These bytes are no log of the site, and the fault tells why.
pub record IsNoLog (path : List ℕ) (identity : IdentityValue) (file : List ℕ) (fault : Fault) : Type 0 where
  pub why : HeldFault
  pub is : IsHeldFault identity file why
  pub told : TellsNoLog path why fault

-- The file at the path was read, and is no log of the site, as the fault tells.
pub record IsNoLogRead (holds : List ℕ → List ℕ → Type 0) (path : List ℕ) (identity : IdentityValue) (fault : Fault) : Type 0 where
  pub file : List ℕ
  pub read : IsRead holds path file
  pub none : IsNoLog path identity file fault

-- The log at the path wasn't read, or isn't the site's, or memory was wanting.
abbrev pub IsLogFault : (List ℕ → PathFault → Type 0) → (List ℕ → List ℕ → Type 0) → List ℕ → IdentityValue → Fault → Type 0
IsLogFault fails holds path identity fault = IsUnread fails path Log fault ⊎ IsNoLogRead holds path identity fault ⊎ (fault ≡ NoMemory)
