-- What the command `serve` refuses and lets out (this project).
use Rattle.std.specs.Prelude.{◌≡◌, ◌≢◌, ◌⊎◌, ℕ, Bool, true, false, List, [], ◌∷◌, ◌++◌, codes, Option, None, Some, is_some}
use Rattle.std.specs.Fmt.{decimal}
use Rattle.std.specs.Io.KnownBytes.{Appends, IsAtEnd}
use Rattle.field_bounds.specs.Schema.{SchemaValue}
use Rattle.field_bounds.specs.declared.id.SiteNo.{SiteNo}
use Rattle.script_input.specs.Streams.{AppendsPrefix}
use Rattle.log_stand.specs.declared.stand.Stand.{Stand}
use Rattle.log_stand.specs.Stand.{IsBefore}
use Rattle.log_head.specs.declared.gone.Gone.{Gone}
use Rattle.site_folder.specs.Identity.{IdentityValue, log_name}
use Rattle.site_service.specs.declared.fault.ServeFault.{ServeFault}
use Rattle.site_service.specs.Answers.{held_in}
use Rattle.site_service.specs.Behind.{IsOpenedBehind}
use Rattle.site_service.specs.Opening.{IsOpened}
use Rattle.site_service.specs.Service.{ServiceValue, IsSettled}
use Rattle.line_serving.specs.Serving.{Serves, Stops, StopsAtOnce}
use Rattle.site_service.specs.Traces.{TraceValue}
use Rattle.world_folders.specs.Logs.{HaveCome, IsStandRead}
use Rattle.world_folders.specs.Reading.{IsRead}

-- The log was read, and has come as far as was seen of it before, or further.
pub record IsNoOlder (holds : List ℕ → List ℕ → Type 0) (path : List ℕ) (identity : IdentityValue) (seen : Stand) : Type 0 where
  pub stand : Stand
  pub read : IsStandRead holds path identity stand
  pub newest : IsBefore stand seen → ⊥

-- The file was read, and isn't the site's log of version 1.
pub record IsNoPlain (holds : List ℕ → List ℕ → Type 0) (path : List ℕ) (identity : IdentityValue) : Type 0 where
  pub bytes : List ℕ
  pub read : IsRead holds path bytes
  pub other : (rest : List ℕ) → bytes ≢ log_name identity ++ rest

-- ---- the opening

-- The service was opened over a log of which this is told to be gone, or over a whole one where nothing is told.
abbrev pub IsOpenedOver : SchemaValue → SiteNo → Option Gone → Option (List ℕ) → ServiceValue → Type 0
IsOpenedOver schema number None known service = IsOpened schema number known service
IsOpenedOver schema number (Some told) known service = IsOpenedBehind schema number told known service

-- ---- the first line of all

-- The version of the lines that are written: 1 where none of them can be `forgotten`, since nothing is gone of the log, nor will be.
abbrev pub version_of : Option Gone → Bool → ℕ
version_of None false = 1
version_of None true = 2
version_of (Some gone) shortens = 2

-- The line that tells how far the log has come: the version of the lines, the epoch, and the length, one space between them.
abbrev pub ready_text : ℕ → Stand → List ℕ
ready_text version stand =
    codes "ready " ++ (decimal version ++ (codes " " ++ (decimal stand.epoch ++ (codes " " ++ (decimal stand.length ++ 10 ∷ [])))))

-- The line of a service whose log will be shortened, or won't: by what is gone and what is held.
pub record IsReadyLine (shortens : Bool) (service : ServiceValue) (line : List ℕ) : Type 0 where
  pub stand : Stand
  pub stand_is : HaveCome service.served.let_go.told (held_in service.served) stand
  pub text : line ≡ ready_text (version_of service.served.let_go.told shortens) stand

-- That line was written, of what is gone and of the records that are held, when these were safe in its log, all of them.
pub record TellsReady (shortens : Bool) (before after : Option (List ℕ)) (service : ServiceValue) : Type 0 where
  pub safe : IsSettled service
  pub line : List ℕ
  pub line_is : IsReadyLine shortens service line
  pub written : Appends before after line

-- It wasn't written whole: nothing was, or a front of it.
abbrev pub StopsAtReady : Bool → Option (List ℕ) → Option (List ℕ) → ServiceValue → Type 0
StopsAtReady shortens before after service =
    (after ≡ before) ⊎ ((line : List ℕ) × IsReadyLine shortens service line × AppendsPrefix before after line)

-- ---- the whole input

-- That line was written, and behind it what a service lets out that serves the input to its end, and never shortens its log, or does so
-- meanwhile and keeps so many bytes.
pub record ServesReady (keep : Option ℕ) (from to before after : Option (List ℕ)) (trace traced : TraceValue) (start now : ServiceValue)
    : Type 0 where
  pub ready : Option (List ℕ)
  pub told : TellsReady (is_some keep) before ready start
  pub serves : Serves keep from to ready after trace traced start now
  pub ended : IsAtEnd to

-- A fault ended it behind that line: what was written is what a service lets out at that fault.
pub record StopsBehind (keep : Option ℕ) (from to before after : Option (List ℕ)) (trace traced : TraceValue) (start now : ServiceValue)
    : Type 0 where
  pub ready : Option (List ℕ)
  pub told : TellsReady (is_some keep) before ready start
  pub fault : ServeFault
  pub stops : StopsAtOnce from to ready after trace traced start now fault ⊎ Stops keep from to ready after trace traced start now fault

-- The line wasn't written whole: then nothing was read, nothing traced, and the service is as it was.
pub record StopsInFront (keep : Option ℕ) (from to before after : Option (List ℕ)) (trace traced : TraceValue) (start now : ServiceValue)
    : Type 0 where
  pub unread : to ≡ from
  pub written : StopsAtReady (is_some keep) before after start
  pub untold : traced ≡ trace
  pub same : now ≡ start

-- A fault ended it, in front of that line's end or behind it.
abbrev pub StopsReady : Option ℕ → Option (List ℕ) → Option (List ℕ) → Option (List ℕ) → Option (List ℕ) → TraceValue → TraceValue
    → ServiceValue → ServiceValue → Type 0
StopsReady keep from to before after trace traced start now =
    StopsInFront keep from to before after trace traced start now ⊎ StopsBehind keep from to before after trace traced start now
