-- What a fault tells, and the status with which a program ends by it (this project).
use Rattle.std.specs.Prelude.{◌≡◌, ◌⊎◌, ℕ, List, codes, string_bytes, String}
use Rattle.std.specs.Global.{Global}
use denote.Ref.{Bor}
use Rattle.file_medium.specs.declared.host.FileFault.{FileFault}
use Rattle.file_medium.specs.declared.memory_file.FileCall.{FileCall}
use Rattle.file_medium.specs.declared.memory_file.FileCall.TheVariants as calls
use Rattle.folder_faults.specs.declared.fault.Fault.{Fault}
use Rattle.folder_faults.specs.declared.fault.Fault.TheVariants.{Read, Write, TooLong, Unread, Asked, Refused, System, Device, DeviceCall, NotClosed, Busy, NoWorldName, NoFolder, LogsLost, TooMuch, Stuck, NotReadBack, AllSettled, NoMemory}
use Rattle.folder_faults.specs.declared.fault.Why.{Why}
use Rattle.folder_faults.specs.declared.fault.Why.TheVariants.{NoSite, NoLog, NoTrace}
use Rattle.folder_faults.specs.declared.fault.Missing.{Missing}
use Rattle.folder_faults.specs.declared.fault.Missing.TheVariants.{Site, Log, Trace}

-- The fault is this one of the path; it is want of memory where that is wanting for the path's text.
abbrev pub IsOf : (String Global → Fault) → List ℕ → Fault → Type 0
IsOf kind path fault = (fault ≡ NoMemory) ⊎ ((name : String Global) × (string_bytes name ≡ path) × (fault ≡ kind name))

-- What the command line names is refused for this reason.
abbrev pub IsAsked : List ℕ → Why → Fault → Type 0
IsAsked path why = IsOf (λ name. Asked name why) path

-- What lies at the path is refused for this reason.
abbrev pub IsRefused : List ℕ → Why → Fault → Type 0
IsRefused path why = IsOf (λ name. Refused name why) path

-- A call failed at a file whose answers wait for it.
abbrev pub IsDevice : List ℕ → Fault → Type 0
IsDevice path = IsOf Device path

-- Why a folder is refused in which this file isn't there.
abbrev pub why_missing : Missing → Why
why_missing Site = NoSite
why_missing Log = NoLog
why_missing Trace = NoTrace

-- What a call of a file is called.
abbrev pub call_word : FileCall → List ℕ
call_word calls.Read = codes "read"
call_word calls.Write = codes "write"
call_word calls.Cut = codes "cut"
call_word calls.Sync = codes "sync"

-- Of the file at the path it is told which call failed, how, and what to do. Behind a sync that failed the machine is started anew: what
-- the system has in memory may not be what the disk has.
pub record TellsCall (path : String Global) (failed : FileFault) (fault : Fault) : Type 0 where
  pub word : Bor (List ℕ)
  pub remedy : Bor (List ℕ)
  pub told : fault ≡ DeviceCall path word failed.error remedy
  pub call : word.now ≡ call_word failed.call
  pub sync : failed.call ≡ calls.Sync → remedy.now ≡ codes "start the machine anew before it is served again"

-- The folder isn't closed: a call failed so at the path; behind a sync the machine is started anew.
pub record TellsNotClosed (path : String Global) (failed : FileFault) (fault : Fault) : Type 0 where
  pub remedy : Bor (List ℕ)
  pub told : fault ≡ NotClosed path failed.error remedy
  pub sync : failed.call ≡ calls.Sync → remedy.now ≡ codes "start the machine anew"

-- The status: 1 a stream, 2 what the command line names, 3 what lies in a folder, 4 want of memory, 5 the system, 6 a folder in use.
abbrev pub status_of : Fault → ℕ
status_of Read = 1
status_of Write = 1
status_of TooLong = 1
status_of (Unread path error) = 2
status_of (Asked path why) = 2
status_of (NoFolder site) = 2
status_of NoWorldName = 2
status_of (Refused path why) = 3
status_of (LogsLost sites) = 3
status_of (TooMuch field) = 3
status_of (Stuck site entry) = 3
status_of NotReadBack = 3
status_of AllSettled = 3
status_of NoMemory = 4
status_of (System path error) = 5
status_of (Device path) = 5
status_of (DeviceCall path call error remedy) = 5
status_of (NotClosed path error remedy) = 5
status_of (Busy path) = 6
