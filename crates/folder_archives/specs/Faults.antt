-- Why the log of a folder isn't verified (this project).
use Rattle.std.specs.Prelude.{◌≡◌, ◌⊎◌, ℕ, List, Option, Some, string_bytes}
use Rattle.site_folder.specs.Identity.{IdentityValue}
use Rattle.log_head.specs.declared.gone.Gone.{Gone}
use Rattle.held_logs.specs.declared.fault.HeldFault.{HeldFault}
use Rattle.held_logs.specs.declared.fault.HeldFault.TheVariants as no_log
use Rattle.held_logs.specs.Held.{IsHeldFault}
use Rattle.log_replay.specs.declared.log_bytes.LogReplayed.TheVariants as came
use Rattle.folder_faults.specs.declared.fault.Fault.{Fault}
use Rattle.folder_faults.specs.declared.fault.Fault.TheVariants.{System, TooLong}
use Rattle.folder_faults.specs.declared.fault.Why.TheVariants as why
use Rattle.folder_faults.specs.Faults.{IsOf, IsRefused, status_of}
use Rattle.world_folders.specs.declared.reading.PathFault.{PathFault}
use Rattle.world_folders.specs.declared.reading.PathFault.TheVariants.{NotThere, NoFolder, Failed}
use Rattle.world_folders.specs.Faults.{IsLogFault}
use Rattle.world_folders.specs.Logs.{AreOfLog, TellsHeld}
use Rattle.world_folders.specs.Reading.{IsRead}
use Rattle.log_archives.specs.declared.fault.JointFault.{JointFault}
use Rattle.log_archives.specs.declared.fault.JointFault.TheVariants as apart
use Rattle.log_archives.specs.Joints.{IsJointFault}
use Rattle.folder_archives.specs.declared.fault.PartWhy.{PartWhy}
use Rattle.folder_archives.specs.declared.fault.PartWhy.TheVariants.{Missing, Other, Changed, Damaged, BadLine, Short, OtherBase, OtherBytes, OtherRecords, OtherHorizon}
use Rattle.folder_archives.specs.declared.fault.VerifyFault.{VerifyFault}
use Rattle.folder_archives.specs.declared.fault.VerifyFault.TheVariants.{Log, Part}
use Rattle.folder_archives.specs.Verified.{AreVerified, part_path, path_of}

-- The file was read at this path, and is no log of the site, for this reason.
pub record IsNoPart (holds : List ℕ → List ℕ → Type 0) (identity : IdentityValue) (path : List ℕ) (fault : HeldFault) : Type 0 where
  pub file : List ℕ
  pub read : IsRead holds path file
  pub why : IsHeldFault identity file fault

-- The part was read at this path, and the next one, whose head tells this and which holds these records, doesn't join with it, for this
-- reason.
pub record DoesNotJoin (holds : List ℕ → List ℕ → Type 0) (identity : IdentityValue) (path : List ℕ) (told : Gone) (next : List ℕ)
    (fault : JointFault) : Type 0 where
  pub gone : Option Gone
  pub held : List ℕ
  pub log : AreOfLog holds path identity gone held
  pub why : IsJointFault identity.schema identity.number.0 gone held told next fault

-- A part was asked for at the path, by the next one, which lies at the path `next`. The fault names a path and a reason: of the part that
-- nothing lies there, that this is no log of the site, or that its lines are bad or end too early; or of the next one that its base or
-- its head doesn't go with the part. A part that isn't there fails to be read so.
abbrev pub TellsWhyNot : (List ℕ → PathFault → Type 0) → (List ℕ → List ℕ → Type 0) → IdentityValue → List ℕ → List ℕ → Gone → List ℕ → List ℕ → PartWhy → Type 0
TellsWhyNot fails _ _ path _ _ _ at Missing = (at ≡ path) × fails path NotThere
TellsWhyNot _ holds identity path _ _ _ at Other = (at ≡ path) × IsNoPart holds identity path no_log.Other
TellsWhyNot _ holds identity path _ _ _ at Changed = (at ≡ path) × IsNoPart holds identity path no_log.Changed
TellsWhyNot _ holds identity path _ _ _ at (Damaged line) = (at ≡ path) × IsNoPart holds identity path (no_log.Damaged line)
TellsWhyNot _ holds identity path _ told held at (BadLine line) =
    (at ≡ path)
    × (DoesNotJoin holds identity path told held (apart.BadLine line) ⊎ DoesNotJoin holds identity path told held (apart.BreaksRule line))
TellsWhyNot _ holds identity path next told held at (Short of) =
    (at ≡ path) × (string_bytes of ≡ next) × DoesNotJoin holds identity path told held apart.Short
TellsWhyNot _ holds identity path next told held at (OtherBase of) =
    (at ≡ next) × (string_bytes of ≡ path) × DoesNotJoin holds identity path told held apart.OtherBase
TellsWhyNot _ holds identity path next told held at (OtherBytes of) =
    (at ≡ next) × (string_bytes of ≡ path) × DoesNotJoin holds identity path told held apart.OtherBytes
TellsWhyNot _ holds identity path next told held at (OtherRecords of) =
    (at ≡ next) × (string_bytes of ≡ path) × DoesNotJoin holds identity path told held apart.OtherRecords
TellsWhyNot _ holds identity path next told held at (OtherHorizon of) =
    (at ≡ next) × (string_bytes of ≡ path) × DoesNotJoin holds identity path told held apart.OtherHorizon

-- Parts were verified from one on up to the log, and of the part in front of it, which its head asks for, this is told at this path.
pub record IsPartFault (fails : List ℕ → PathFault → Type 0) (holds : List ℕ → List ℕ → Type 0) (log : List ℕ) (identity : IdentityValue) (at : List ℕ) (why : PartWhy)
    : Type 0 where
  pub told : Gone
  pub held : List ℕ
  pub behind : AreVerified holds log identity (Some told) held
  pub is : TellsWhyNot fails holds identity (part_path log told.bytes) (path_of log behind.parts) told held at why

-- The fault tells why a file that may be there isn't read: something is no folder, or how the system failed.
abbrev pub TellsUnreadThere : List ℕ → PathFault → Fault → Type 0
TellsUnreadThere path NotThere fault = ⊥
TellsUnreadThere path NoFolder fault = IsRefused path why.NoFolder fault
TellsUnreadThere path (Failed error) fault = IsOf (λ name. System name error) path fault

-- The file at the path wasn't read, for another reason than that it isn't there, as the fault tells.
pub record IsUnreadThere (fails : List ℕ → PathFault → Type 0) (path : List ℕ) (fault : Fault) : Type 0 where
  pub why : PathFault
  pub failed : fails path why
  pub told : TellsUnreadThere path why fault

-- Parts were verified from one on up to the log, and the one in front of it, which its head asks for, wasn't read, as the fault tells.
pub record IsPartUnread (fails : List ℕ → PathFault → Type 0) (holds : List ℕ → List ℕ → Type 0) (log : List ℕ) (identity : IdentityValue)
    (fault : Fault) : Type 0 where
  pub told : Gone
  pub held : List ℕ
  pub behind : AreVerified holds log identity (Some told) held
  pub unread : IsUnreadThere fails (part_path log told.bytes) fault

-- The log was read, and this line of the records that it holds is none of the site, or breaks a rule.
pub record HasBadRecord (holds : List ℕ → List ℕ → Type 0) (log : List ℕ) (identity : IdentityValue) (fault : Fault) : Type 0 where
  pub gone : Option Gone
  pub records : List ℕ
  pub of : AreOfLog holds log identity gone records
  pub line : ℕ
  pub bad : TellsHeld identity.schema identity.number.0 gone records (came.BadLine line)
      ⊎ TellsHeld identity.schema identity.number.0 gone records (came.BreaksRule line)
  pub told : IsRefused log (why.BadRecord line) fault

-- Why the log isn't verified: of a part, or of the log itself; or a part can't be read, or there are more parts than can be counted.
abbrev pub IsVerifyFault : (List ℕ → PathFault → Type 0) → (List ℕ → List ℕ → Type 0) → List ℕ → IdentityValue → VerifyFault → Type 0
IsVerifyFault fails holds log identity (Log fault) =
    IsLogFault fails holds log identity fault
    ⊎ HasBadRecord holds log identity fault
    ⊎ IsPartUnread fails holds log identity fault
    ⊎ (fault ≡ TooLong)
IsVerifyFault fails holds log identity (Part at why) = IsPartFault fails holds log identity (string_bytes at) why

-- The status with which the program ends: that of a fault of the log; 3 where a part is refused.
abbrev pub status_of_verify : VerifyFault → ℕ
status_of_verify (Log fault) = status_of fault
status_of_verify (Part at why) = 3
