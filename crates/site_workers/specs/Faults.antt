-- What a fault of workers says (this project). A history has the oldest entry first.
use Rattle.std.specs.Prelude.{◌≡◌, ◌≢◌, ℕ, ◌+◌, ◌<◌, ◌++◌, List, length, reverse, Option, Some, None, Result, IfOk, IfErr}
use Rattle.std.specs.Global.{Vec}
use Rattle.field_bounds.specs.declared.id.SiteNo.{SiteNo}
use Rattle.field_bounds.specs.declared.entry.Command.{Command}
use Rattle.field_bounds.specs.declared.entry.Entry.{Entry}
use Rattle.field_bounds.specs.Schema.{SchemaValue}
use Rattle.field_bounds.specs.Effects.{fresh}
use Rattle.field_bounds.specs.Owed.{IsRun}
use Rattle.field_bounds.specs.Central.{AreOf}
use Rattle.site_desk.specs.declared.fault.DeskFault.{DeskFault}
use Rattle.site_desk.specs.declared.fault.DeskFault.TheVariants as desk_faults
use Rattle.site_desk.specs.declared.locked.Receipt.{Receipt}
use Rattle.work_faults.specs.declared.receipts.ReceiptFault.{ReceiptFault}
use Rattle.work_faults.specs.declared.receipts.ReceiptFault.TheVariants as receipt_faults
use Rattle.site_desk.specs.ReceiptFaults.{TellsReceipts}
use Rattle.work_faults.specs.declared.workers.WorkFault.{WorkFault}
use Rattle.work_faults.specs.declared.workers.WorkFault.TheVariants.{GateTurns, WentBack, Passes, Receipts, Foreign, Lost, NoMemory}
use Rattle.site_workers.specs.declared.inbox.Letter.{Letter}
use Rattle.site_workers.specs.declared.site_fault.SiteFault.{SiteFault}
use Rattle.site_workers.specs.declared.site_fault.SiteFault.TheVariants.{Worker, Courier, Close}
use Rattle.site_workers.specs.Carried.{commands_of, Carries, StopsShort}
use Rattle.site_workers.specs.Scripts.{AreAccepts, AreWorked, NoneForeign}
use Rattle.site_workers.specs.Crossing.{IsLowestForeign, IsLowestLost}

-- ---- one site

-- How a fault of a desk's call is told of its site.
abbrev pub fault_of_call : SiteNo → DeskFault → WorkFault
fault_of_call site desk_faults.NoMemory = NoMemory
fault_of_call site (desk_faults.WentBack length) = WentBack site length
fault_of_call site desk_faults.GateTurns = GateTurns

-- How a fault of receipts is told; want of memory is told as such.
abbrev pub fault_of_receipts : ReceiptFault → WorkFault
fault_of_receipts receipt_faults.NoMemory = NoMemory
fault_of_receipts fault = Receipts fault

-- How a courier's fault is told of its site: its inbox is closed early only where a thread that couldn't be made has left
-- an End out, so that is told as the same.
abbrev pub fault_of_courier : WorkFault → WorkFault
fault_of_courier (Lost site) = NoMemory
fault_of_courier fault = fault

-- A courier's call of its desk failed: the fault names the desk's site, and there is no gate.
abbrev pub IsCourierFault : SiteNo → WorkFault → Type 0
IsCourierFault site NoMemory = Unit {0}
IsCourierFault site (WentBack named length) = named ≡ site
IsCourierFault site fault = ⊥

-- Lost names the desk's site, and comes only where the letters taken lack an End of some site.
abbrev pub TellsShort : ℕ → SiteNo → List Letter → List Letter → WorkFault → Type 0
TellsShort sites site before after (Lost named) = (named ≡ site) × (receipts : List Receipt) × StopsShort sites before after receipts
TellsShort sites site before after fault = IsCourierFault site fault

-- What a courier answers that began with this way and these calls, and ends with those.
pub record IsCarried (sites : ℕ) (site : SiteNo) (before after : List Letter) (calls made : ℕ)
    (answer : Result (Vec Receipt) WorkFault) : Type 0 where
  pub ok : IfOk answer (λ rs. Carries sites before after rs.items)
  pub asked : IfOk answer (λ rs. made ≡ calls + length rs.items)
  pub fault : IfErr answer (TellsShort sites site before after)

-- A run of owed replies on the site's fresh base, and receipts that aren't its entries for this reason.
pub record Differs (schema : SchemaValue) (site : SiteNo) (fault : ReceiptFault) : Type 0 where
  pub history : List Entry
  pub receipts : List Receipt
  pub run : IsRun schema site.0 (fresh schema site.0) (reverse history)
  pub own : AreOf site.0 history
  pub told : TellsReceipts site history receipts fault
  pub known : fault ≢ receipt_faults.NoMemory

-- No call is turned away.
abbrev pub TurnsNone : SiteNo → ℕ → Type 0
TurnsNone site call = ⊥

-- A fault of one site's worker or courier, or of its close: it names that site, and the gate turns away only what it may.
-- What goes from site to site isn't asked.
abbrev pub IsFaultAt : SchemaValue → SiteNo → (SiteNo → ℕ → Type 0) → WorkFault → Type 0
IsFaultAt schema site Turns GateTurns = (call : ℕ) × Turns site call
IsFaultAt schema site Turns (WentBack named length) = named ≡ site
IsFaultAt schema site Turns (Passes named) = named ≡ site
IsFaultAt schema site Turns (Receipts fault) = Differs schema site fault
IsFaultAt schema site Turns (Foreign named) = ⊥
IsFaultAt schema site Turns (Lost named) = ⊥
IsFaultAt schema site Turns NoMemory = Unit {0}

-- ---- why a site has no history

-- The fault, of whichever thread.
abbrev pub fault_of : SiteFault → WorkFault
fault_of (Worker fault) = fault
fault_of (Courier fault receipts) = fault
fault_of (Close fault receipts) = fault

-- Receipts of a worker, whose commands are the script, whole and in order, and behind them those of a courier, of accepts.
pub record AreOfBoth (script : List Command) (receipts : List Receipt) : Type 0 where
  pub worker : List Receipt
  pub courier : List Receipt
  pub parts : receipts ≡ worker ++ courier
  pub calls : commands_of worker ≡ script
  pub accepts : AreAccepts (commands_of courier)

-- Why a site has no history for its script. Its worker's fault goes first: its courier's comes with receipts of the whole
-- script, that of the close with the courier's besides.
abbrev pub IsFaultOf : SchemaValue → (SiteNo → ℕ → Type 0) → SiteNo → List Command → SiteFault → Type 0
IsFaultOf schema Turns site script (Worker fault) = IsFaultAt schema site Turns fault
IsFaultOf schema Turns site script (Courier fault receipts) = IsCourierFault site fault × (commands_of receipts.items ≡ script)
IsFaultOf schema Turns site script (Close fault receipts) = IsFaultAt schema site TurnsNone fault × AreOfBoth script receipts.items

-- Want of memory for what comes behind these receipts of a worker.
abbrev pub IsWantBehind : List Receipt → SiteFault → Type 0
IsWantBehind own (Worker fault) = ⊥
IsWantBehind own (Courier fault receipts) = (fault ≡ NoMemory) × (receipts.items ≡ own)
IsWantBehind own (Close fault receipts) = ⊥

-- ---- all sites

-- Of some site of the schema.
pub record ShowsDiffers (schema : SchemaValue) (fault : ReceiptFault) : Type 0 where
  pub site : SiteNo
  pub known : site.0 < schema.sites
  pub differs : Differs schema site fault

-- Some call of a site of the schema may be turned away.
abbrev pub TurnsSome : SchemaValue → (SiteNo → ℕ → Type 0) → Type 0
TurnsSome schema Turns = (site : SiteNo) × (site.0 < schema.sites) × (call : ℕ) × Turns site call

-- A fault of some site's threads: one that names a site names one of the schema.
abbrev pub IsSiteFault : SchemaValue → (SiteNo → ℕ → Type 0) → WorkFault → Type 0
IsSiteFault schema Turns GateTurns = TurnsSome schema Turns
IsSiteFault schema Turns (WentBack named length) = named.0 < schema.sites
IsSiteFault schema Turns (Passes named) = named.0 < schema.sites
IsSiteFault schema Turns (Receipts fault) = ShowsDiffers schema fault
IsSiteFault schema Turns (Foreign named) = ⊥
IsSiteFault schema Turns (Lost named) = ⊥
IsSiteFault schema Turns NoMemory = Unit {0}

-- Workers of these scripts may make histories of which this site's, and no lower one's, accepts a statement that wasn't
-- issued.
pub record ShowsForeign (schema : SchemaValue) (scripts : List (List Command)) (site : ℕ) : Type 0 where
  pub histories : List (List Entry)
  pub sites : length histories ≡ schema.sites
  pub worked : AreWorked schema 0 scripts histories
  pub lowest : IsLowestForeign histories site

-- Workers of these scripts may make histories which accept no statement that wasn't issued, and of which this site's, and
-- no lower one's, lacks the accept of a statement that was issued to it.
pub record ShowsLost (schema : SchemaValue) (scripts : List (List Command)) (site : ℕ) : Type 0 where
  pub histories : List (List Entry)
  pub sites : length histories ≡ schema.sites
  pub worked : AreWorked schema 0 scripts histories
  pub none_foreign : NoneForeign histories
  pub lowest : IsLowestLost histories site

-- Foreign comes only of such histories; so does Lost, and Receipts of such receipts.
abbrev pub TellsForeign : SchemaValue → List (List Command) → WorkFault → Type 0
TellsForeign schema scripts (Foreign site) = ShowsForeign schema scripts site.0
TellsForeign schema scripts fault = Unit {0}

abbrev pub TellsLost : SchemaValue → List (List Command) → WorkFault → Type 0
TellsLost schema scripts (Lost site) = ShowsLost schema scripts site.0
TellsLost schema scripts fault = Unit {0}

-- GateTurns comes only where the gate may turn a call away.
abbrev pub TellsTurned : SchemaValue → (SiteNo → ℕ → Type 0) → WorkFault → Type 0
TellsTurned schema Turns GateTurns = TurnsSome schema Turns
TellsTurned schema Turns fault = Unit {0}

abbrev pub TellsDiffers : SchemaValue → WorkFault → Type 0
TellsDiffers schema (Receipts fault) = ShowsDiffers schema fault
TellsDiffers schema fault = Unit {0}

-- The site that a fault names, where it names one.
abbrev pub site_named : WorkFault → Option SiteNo
site_named (WentBack site length) = Some site
site_named (Passes site) = Some site
site_named (Foreign site) = Some site
site_named (Lost site) = Some site
site_named fault = None
