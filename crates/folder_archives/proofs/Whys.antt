-- Why a part isn't one, or doesn't join.
use Rattle.std.proofs.Common.{◌≡◌, ◌⊎◌, ℕ, List, Option, None, Some, string_bytes, refl, sym, subst, inl, inr}
use Rattle.field_bounds.specs.Schema.{SchemaValue}
use Rattle.field_bounds.specs.declared.id.SiteNo.{SiteNo}
use Rattle.site_folder.specs.Identity.{IdentityValue}
use Rattle.log_head.specs.declared.gone.Gone.{Gone}
use Rattle.held_logs.specs.declared.fault.HeldFault.{HeldFault}
use Rattle.held_logs.specs.declared.fault.HeldFault.TheVariants as no_log
use Rattle.log_archives.specs.declared.fault.JointFault.{JointFault}
use Rattle.log_archives.specs.declared.fault.JointFault.TheVariants as apart
use Rattle.log_archives.specs.Joints.{IsJointFault}
use Rattle.folder_archives.specs.declared.beginning.Beginning.{Beginning}
use Rattle.folder_archives.specs.declared.fault.PartWhy.{PartWhy}
use Rattle.folder_archives.specs.declared.fault.PartWhy.TheVariants.{Missing, Other, Changed, Damaged, BadLine, Short, OtherBase, OtherBytes, OtherRecords, OtherHorizon}
use Rattle.folder_archives.specs.declared.fault.VerifyFault.{VerifyFault}
use Rattle.folder_archives.specs.declared.fault.VerifyFault.TheVariants.{Log, Part}
use Rattle.folder_archives.specs.declared.verifying.LogTotals.{LogTotals}
use Rattle.folder_archives.specs.Verified.{part_path, path_of}
use Rattle.folder_archives.specs.Faults.{DoesNotJoin, IsNoPart, IsUnreadThere, IsVerifyFault, TellsWhyNot}
use Rattle.folder_archives.specs.Steps.{IsToldOf, IsFirstLineOf, IsLastFault, IsNextPart, IsUnreadPart, TellsHeldFault, TellsJointFault, TellsPart, TellsUnreadPart}
use Rattle.std.specs.Prelude.{IfNone, IfSome}
use Rattle.log_replay.specs.declared.log_bytes.LogReplayed.{LogReplayed}
use Rattle.log_replay.specs.declared.log_bytes.LogReplayed.TheVariants as came
use Rattle.folder_faults.specs.declared.fault.Why.TheVariants.{BadRecord}
use Rattle.folder_faults.specs.Faults.{IsRefused}
use Rattle.folder_logs.specs.First.{TellsFirst}
use Rattle.held_logs.specs.Behind.{TellsBehind}
use Rattle.folder_faults.specs.declared.fault.Fault.{Fault}
use Rattle.world_folders.specs.declared.reading.PathFault.{PathFault}
use Rattle.world_folders.specs.declared.reading.PathFault.TheVariants.{NotThere, NoFolder, Failed}
use Rattle.world_folders.specs.Logs.{AreOfLog, TellsHeld}
use Rattle.folder_archives.proofs.Firsts.{fault_on}

-- ---- what a call tells

pub as_fault : (identity : IdentityValue) (schema : SchemaValue) (site : SiteNo) (gone : Option Gone) (held line base : List ℕ) (told : Gone)
    (joint : JointFault) → schema ≡ identity.schema → site ≡ identity.number → line ≡ base
    → IsJointFault schema site.0 gone held told line joint → IsJointFault identity.schema identity.number.0 gone held told base joint
as_fault identity schema site gone held line base told joint same own is fault =
    subst (λ (l : List ℕ). IsJointFault identity.schema identity.number.0 gone held told l joint) is
    (subst (λ (s : SiteNo). IsJointFault identity.schema s.0 gone held told line joint) own
    (subst (λ (v : SchemaValue). IsJointFault v site.0 gone held told line joint) same fault))

-- ---- what the body knows of a part

module _ (fails : List ℕ → PathFault → Type 0) (holds : List ℕ → List ℕ → Type 0) (identity : IdentityValue) (path : List ℕ)
    (next : Beginning) where
  abbrev NotFor : List ℕ → PartWhy → Type 0
  NotFor at why = TellsWhyNot fails holds identity path (string_bytes next.path) next.told next.base.items at why

  tells : (at : List ℕ) (why : PartWhy) (fault : VerifyFault) → IsToldOf at why fault → NotFor at why
      → TellsPart fails holds identity path next fault
  tells at why (Log fault) is true_ = inr is
  tells at why (Part place told) is true_ =
      subst (λ (w : PartWhy). NotFor (string_bytes place) w) (sym is.1) (subst (λ (p : List ℕ). NotFor p why) (sym is.0) true_)

  unread_by : (why : PathFault) (fault : VerifyFault) → fails path why → TellsUnreadPart path why fault
      → TellsPart fails holds identity path next fault
  unread_by NotThere fault failed told = tells path Missing fault told (refl, failed)
  unread_by NoFolder fault failed told =
      subst (λ (f : VerifyFault). TellsPart fails holds identity path next f) (sym told.1)
      (inl (record { why = NoFolder; failed = failed; told = told.2 }))
  unread_by (Failed error) fault failed told =
      subst (λ (f : VerifyFault). TellsPart fails holds identity path next f) (sym told.1)
      (inl (record { why = Failed error; failed = failed; told = told.2 }))

  pub unread_tells : (fault : VerifyFault) → IsUnreadPart fails path fault → TellsPart fails holds identity path next fault
  unread_tells fault is = unread_by is.why fault is.failed is.told

  pub held_tells : (held : HeldFault) (fault : VerifyFault) → TellsHeldFault path held fault → IsNoPart holds identity path held
      → TellsPart fails holds identity path next fault
  held_tells no_log.Other fault is isnt = tells path Other fault is (refl, isnt)
  held_tells no_log.Changed fault is isnt = tells path Changed fault is (refl, isnt)
  held_tells (no_log.Damaged line) fault is isnt = tells path (Damaged line) fault is (refl, isnt)
  held_tells no_log.NoMemory fault is isnt = subst (λ (f : VerifyFault). TellsPart fails holds identity path next f) (sym is) (inr refl)

  pub joint_tells : (joint : JointFault) (fault : VerifyFault) → TellsJointFault path (string_bytes next.path) joint fault
      → DoesNotJoin holds identity path next.told next.base.items joint → TellsPart fails holds identity path next fault
  joint_tells (apart.BadLine line) fault is why = tells path (BadLine line) fault is (refl, inl why)
  joint_tells (apart.BreaksRule line) fault is why = tells path (BadLine line) fault is (refl, inr why)
  joint_tells apart.Short fault is why = tells path (Short is.0) fault is.2 (refl, is.1, why)
  joint_tells apart.OtherBase fault is why = tells (string_bytes next.path) (OtherBase is.0) fault is.2 (refl, is.1, why)
  joint_tells apart.OtherBytes fault is why = tells (string_bytes next.path) (OtherBytes is.0) fault is.2 (refl, is.1, why)
  joint_tells apart.OtherRecords fault is why = tells (string_bytes next.path) (OtherRecords is.0) fault is.2 (refl, is.1, why)
  joint_tells apart.OtherHorizon fault is why = tells (string_bytes next.path) (OtherHorizon is.0) fault is.2 (refl, is.1, why)

-- ---- and what is true of the part

module _ (fails : List ℕ → PathFault → Type 0) (holds : List ℕ → List ℕ → Type 0) (identity : IdentityValue) (path : List ℕ) (told : Gone)
    (held line : List ℕ) (first : IsFirstLineOf held line) where
  apart_on : (joint : JointFault) → DoesNotJoin holds identity path told line joint → DoesNotJoin holds identity path told held joint
  apart_on joint is = record {
    gone = is.gone;
    held = is.held;
    log = is.log;
    why = fault_on held line first identity.schema identity.number.0 is.gone is.held told joint is.why;
  }

  why_on : (next at : List ℕ) (why : PartWhy) → TellsWhyNot fails holds identity path next told line at why
      → TellsWhyNot fails holds identity path next told held at why
  why_on next at Missing is = is
  why_on next at Other is = is
  why_on next at Changed is = is
  why_on next at (Damaged number) is = is
  why_on next at (BadLine number) (place, inl is) = (place, inl (apart_on (apart.BadLine number) is))
  why_on next at (BadLine number) (place, inr is) = (place, inr (apart_on (apart.BreaksRule number) is))
  why_on next at (Short of) is = (is.0, is.1, apart_on apart.Short is.2)
  why_on next at (OtherBase of) is = (is.0, is.1, apart_on apart.OtherBase is.2)
  why_on next at (OtherBytes of) is = (is.0, is.1, apart_on apart.OtherBytes is.2)
  why_on next at (OtherRecords of) is = (is.0, is.1, apart_on apart.OtherRecords is.2)
  why_on next at (OtherHorizon of) is = (is.0, is.1, apart_on apart.OtherHorizon is.2)

pub is_fault : (fails : List ℕ → PathFault → Type 0) (holds : List ℕ → List ℕ → Type 0) (log : List ℕ) (identity : IdentityValue)
    (totals : LogTotals) (next : Beginning) (path : List ℕ) (fault : VerifyFault) → IsNextPart holds log identity next totals
    → path ≡ part_path log next.told.bytes → TellsPart fails holds identity path next fault → IsVerifyFault fails holds log identity fault
is_fault fails holds log identity totals next path (Log fault) behind place (inl unread) =
    inr (inr (inl (record {
      told = next.told;
      held = behind.held;
      behind = behind.all;
      unread = subst (λ (p : List ℕ). IsUnreadThere fails p fault) place unread;
    })))
is_fault fails holds log identity totals next path (Log fault) behind place (inr memory) = inl (inr (inr memory))
is_fault fails holds log identity totals next path (Part at why) behind place is =
    let own = string_bytes next.path in
    let line = next.base.items in
    let here = subst (λ (p : List ℕ). TellsWhyNot fails holds identity p own next.told line (string_bytes at) why) place is in
    let asked : List ℕ = part_path log next.told.bytes in
    let there = subst (λ (n : List ℕ). TellsWhyNot fails holds identity asked n next.told line (string_bytes at) why) behind.place here in
    record {
      told = next.told;
      held = behind.held;
      behind = behind.all;
      is = why_on fails holds identity asked next.told behind.held line behind.line (path_of log behind.all.parts) (string_bytes at) why there;
    }

-- ---- and of the log itself

pub last_fault : (fails : List ℕ → PathFault → Type 0) (holds : List ℕ → List ℕ → Type 0) (log : List ℕ) (identity : IdentityValue)
    (gone : Option Gone) (held : List ℕ) (fault : Fault) → AreOfLog holds log identity gone held → IsLastFault log identity gone held fault
    → IsVerifyFault fails holds log identity (Log fault)
last_fault fails holds log identity gone held fault of (inl is) =
    inr (inl (record { gone = gone; records = held; of = of; line = is.0; bad = is.1; told = is.2 }))
last_fault fails holds log identity gone held fault of (inr memory) = inl (inr (inr memory))

pub held_tells_so : (gone : Option Gone) (schema : SchemaValue) (s : ℕ) (records : List ℕ) (replayed : LogReplayed)
    → IfNone gone (TellsFirst schema s records replayed) → IfSome gone (λ _. TellsBehind schema s records replayed)
    → TellsHeld schema s gone records replayed
held_tells_so None schema s records replayed whole behind = whole
held_tells_so (Some gone) schema s records replayed whole behind = behind

bad_line_of : (identity : IdentityValue) (gone : Option Gone) (held : List ℕ) (replayed : LogReplayed) (line : ℕ)
    → TellsHeld identity.schema identity.number.0 gone held replayed → (replayed ≡ came.BadLine line) ⊎ (replayed ≡ came.BreaksRule line)
    → TellsHeld identity.schema identity.number.0 gone held (came.BadLine line)
    ⊎ TellsHeld identity.schema identity.number.0 gone held (came.BreaksRule line)
bad_line_of identity gone held replayed line tells_held (inl is) =
    inl (subst (λ (r : LogReplayed). TellsHeld identity.schema identity.number.0 gone held r) is tells_held)
bad_line_of identity gone held replayed line tells_held (inr is) =
    inr (subst (λ (r : LogReplayed). TellsHeld identity.schema identity.number.0 gone held r) is tells_held)

pub bad_last : (log at : List ℕ) (identity : IdentityValue) (schema : SchemaValue) (site : SiteNo) (gone : Option Gone)
    (held slice : List ℕ) (replayed : LogReplayed) (line : ℕ) (fault : Fault) → at ≡ log → schema ≡ identity.schema
    → site ≡ identity.number → slice ≡ held → IfNone gone (TellsFirst schema site.0 slice replayed)
    → IfSome gone (λ _. TellsBehind schema site.0 slice replayed) → (replayed ≡ came.BadLine line) ⊎ (replayed ≡ came.BreaksRule line)
    → IsRefused at (BadRecord line) fault → IsLastFault log identity gone held fault
bad_last log at identity schema site gone held slice replayed line fault place same own is whole behind bad told =
    let told_here = held_tells_so gone schema site.0 slice replayed whole behind in
    let tells_held : TellsHeld identity.schema identity.number.0 gone held replayed =
    subst (λ (h : List ℕ). TellsHeld identity.schema identity.number.0 gone h replayed) is
    (subst (λ (n : SiteNo). TellsHeld identity.schema n.0 gone slice replayed) own
    (subst (λ (v : SchemaValue). TellsHeld v site.0 gone slice replayed) same told_here)) in
    inl (line, bad_line_of identity gone held replayed line tells_held bad, subst (λ (p : List ℕ). IsRefused p (BadRecord line) fault) place told)
