-- Which logs of a world are lost, and what those that are there come to (this project).
use Rattle.std.specs.Prelude.{◌≡◌, ◌≢◌, ◌<◌, ◌≤◌, ◌+◌, ◌⊎◌, ℕ, Bool, true, false, List, [], ◌∷◌, length, Option, Some, None, Result, Ok, Err, string_bytes, slice_index_or, All}
use Rattle.field_bounds.specs.Schema.{SchemaValue}
use Rattle.field_bounds.specs.declared.id.SiteNo.{SiteNo}
use Rattle.kept_records.specs.declared.record.Record.{Record}
use Rattle.log_replay.specs.declared.standing.Standing.{Standing}
use Rattle.world_logs.specs.declared.field_state.FieldRange.{FieldRange}
use Rattle.world_logs.specs.Lost.{known_log, AreRanges}
use Rattle.world_logs.specs.LostFaults.{KnownWithin}
use Rattle.folder_faults.specs.declared.fault.Fault.{Fault}
use Rattle.folder_faults.specs.declared.fault.Fault.TheVariants.{NoMemory}
use Rattle.folder_faults.specs.declared.fault.Missing.TheVariants.{Log}
use Rattle.world_folders.specs.declared.reading.PathFault.{PathFault}
use Rattle.world_folders.specs.declared.worlds.SiteFolder.{SiteFolder}
use Rattle.world_folders.specs.Faults.{IsUnread}
use Rattle.world_folders.specs.Reading.{IsSeen}
use Rattle.world_folders.specs.Folders.{IsFolderOf, HasNoFolder}
use Rattle.world_folders.specs.Logs.{StandsAsRead, BreaksAsRead, LogText, IsLogRead, AreRecordsOf}

-- The folder of the site was named, the system didn't tell whether a log is in it, and the fault tells why.
pub record IsUnseen (fails : List ℕ → PathFault → Type 0) (folders : List SiteFolder) (s : ℕ) (fault : Fault) : Type 0 where
  pub folder : SiteFolder
  pub own : IsFolderOf folders s folder
  pub unread : IsUnread fails (string_bytes folder.paths.log) Log fault

-- Of a site of the schema it isn't known whether its log is lost, or memory was wanting.
abbrev pub IsLostFault : (List ℕ → PathFault → Type 0) → List SiteFolder → SchemaValue → Fault → Type 0
IsLostFault fails folders schema fault = ((s : ℕ) × (s < schema.sites) × IsUnseen fails folders s fault) ⊎ (fault ≡ NoMemory)

-- The folder of the site was named, and it was seen whether a log is in it.
pub record SeesLog (stands : List ℕ → Bool → Type 0) (folders : List SiteFolder) (s : ℕ) (there : Bool) : Type 0 where
  pub folder : SiteFolder
  pub own : IsFolderOf folders s folder
  pub seen : IsSeen stands (string_bytes folder.paths.log) there

-- The log of the site is lost where no folder of it was named, or none is in its folder; else it isn't.
abbrev pub TellsLost : (List ℕ → Bool → Type 0) → List SiteFolder → ℕ → Bool → Type 0
TellsLost stands folders s true = HasNoFolder folders s ⊎ SeesLog stands folders s false
TellsLost stands folders s false = SeesLog stands folders s true

-- The site is not among these.
abbrev pub IsNotAmong : List SiteNo → ℕ → Type 0
IsNotAmong lost s = All (λ site. site.0 ≢ s) lost

-- The numbers of the sites rise strictly, from this one on, and each is less than the end.
abbrev pub RiseFrom : ℕ → ℕ → List SiteNo → Type 0
RiseFrom from end [] = Unit {0}
RiseFrom from end (site ∷ sites) = (from ≤ site.0) × (site.0 < end) × RiseFrom (site.0 + 1) end sites

-- These are the sites whose logs are lost, in their order: the log of each of them is, and of no other site of the world.
pub record AreLost (stands : List ℕ → Bool → Type 0) (folders : List SiteFolder) (schema : SchemaValue) (lost : List SiteNo) : Type 0 where
  pub order : RiseFrom 0 schema.sites lost
  pub each : All (λ site. TellsLost stands folders site.0 true) lost
  pub others : (s : ℕ) → s < schema.sites → IsNotAmong lost s → TellsLost stands folders s false

-- What the log of a site came to, as it was read: no standing is for one that is lost, and each other one was read.
abbrev pub IsKnownOutcome : (List ℕ → List ℕ → Type 0) → List SiteFolder → SchemaValue → List SiteNo → ℕ → Result (Option Standing) ℕ → Type 0
IsKnownOutcome holds folders schema lost s (Ok None) = IsNotAmong lost s → ⊥
IsKnownOutcome holds folders schema lost s (Ok (Some standing)) = StandsAsRead holds folders schema s standing
IsKnownOutcome holds folders schema lost s (Err number) = BreaksAsRead holds folders schema s number

-- The same of all sites, in their order.
pub record AreKnownOutcomes (holds : List ℕ → List ℕ → Type 0) (folders : List SiteFolder) (schema : SchemaValue) (lost : List SiteNo)
    (outcomes : List (Result (Option Standing) ℕ)) : Type 0 where
  pub count : length outcomes ≡ schema.sites
  pub each : (s : ℕ) → s < schema.sites → IsKnownOutcome holds folders schema lost s (slice_index_or outcomes s (Err 0))

-- For each site, in order, there is the standing for its own log, and none where that is lost.
pub record KnownAsRead (holds : List ℕ → List ℕ → Type 0) (folders : List SiteFolder) (schema : SchemaValue) (lost : List SiteNo)
    (standings : List (Option Standing)) : Type 0 where
  pub count : length standings ≡ schema.sites
  pub each : (s : ℕ) → s < schema.sites → IsKnownOutcome holds folders schema lost s (Ok (slice_index_or standings s None))

-- What was read of the log of a site, or it is lost.
abbrev pub IsKnownRead : (List ℕ → List ℕ → Type 0) → List SiteFolder → List SiteNo → ℕ → Option LogText → Type 0
IsKnownRead holds folders lost s None = IsNotAmong lost s → ⊥
IsKnownRead holds folders lost s (Some log) = IsLogRead holds folders s log

-- These may be all records of a site where its log was read, and else none are told.
abbrev pub AreKnownRecords : SchemaValue → ℕ → Option LogText → Option (List Record) → Type 0
AreKnownRecords schema s None None = Unit {0}
AreKnownRecords schema s None (Some rs) = ⊥
AreKnownRecords schema s (Some log) None = ⊥
AreKnownRecords schema s (Some log) (Some rs) = AreRecordsOf schema s log.gone log.records rs

-- These may be the logs that are there, of which this was read. Where nothing is gone there are no others.
pub record AreKnownLogsOf (schema : SchemaValue) (texts : List (Option LogText)) (known : List (Option (List Record))) : Type 0 where
  pub count : length known ≡ schema.sites
  pub each : (s : ℕ) → s < schema.sites → AreKnownRecords schema s (slice_index_or texts s None) (known_log known s)

-- The logs that are there were read, and bound each field so, whichever logs they are: no site has accepted more than was given.
pub record BoundsAsRead (holds : List ℕ → List ℕ → Type 0) (folders : List SiteFolder) (schema : SchemaValue) (lost : List SiteNo)
    (ranges : List FieldRange) : Type 0 where
  pub texts : List (Option LogText)
  pub count : length texts ≡ schema.sites
  pub read : (s : ℕ) → s < schema.sites → IsKnownRead holds folders lost s (slice_index_or texts s None)
  pub some : (known : List (Option (List Record))) × AreKnownLogsOf schema texts known
  pub within : (known : List (Option (List Record))) → AreKnownLogsOf schema texts known → KnownWithin schema known
  pub bounds : (known : List (Option (List Record))) → AreKnownLogsOf schema texts known → AreRanges schema known ranges
