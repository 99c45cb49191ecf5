-- The log of a site's folder, as its callers see it: what is gone of it, and the batches that are held (this project).
use Rattle.std.specs.Prelude.{◌≡◌, ℕ, List, ◌++◌, ◌⊎◌, ⊤, Bool, true, false, Option, None, Some}
use Rattle.file_medium.specs.Files.{KeepsFront}
use Rattle.file_swap.specs.Heads.{LeavesEither}
use Rattle.named_log.specs.Names.{behind}
use Rattle.sealed_text.specs.Seals.{IsDamagedAt}
use Rattle.sealed_log.specs.Sealed.{SealedBatches, IsEnded, KeepsAll, Opens}
use Rattle.sealed_log.specs.declared.fault.SealFault.{SealFault}
use Rattle.sealed_log.specs.declared.fault.SealFault.TheVariants.{Damaged as BatchDamaged, Ended as WorldEnded, Device as SealDevice, NoMemory as SealNoMemory}
use Rattle.site_folder.specs.Identity.{IdentityValue, log_name, sealed_log_name}
use Rattle.log_head.specs.declared.fault.HeadFault.{HeadFault}
use Rattle.log_head.specs.declared.fault.HeadFault.TheVariants.{Other as HeadOther, Changed as HeadChanged, NoMemory as HeadNoMemory}
use Rattle.log_head.specs.declared.gone.Gone.{Gone}
use Rattle.log_head.specs.Heads.{IsOther, IsChanged, IsGone, shortened_name}
use Rattle.short_files.specs.declared.fault.ShortFault.{ShortFault}
use Rattle.short_files.specs.declared.fault.ShortFault.TheVariants.{Other, Changed, Plain, Damaged, Ended, Device, NoMemory}

-- The log as its callers see it: the batches behind the head; the site; what the head tells to be gone, where something is; and
-- whether it isn't known which of two files is there.
pub record ShortValue : Type 0 where
  pub log : SealedBatches
  pub identity : IdentityValue
  pub gone : Option Gone
  pub in_doubt : Bool

-- What is known, unless it is in doubt.
abbrev pub known_unless : Bool → Option (List ℕ) → Option (List ℕ)
known_unless true known = None
known_unless false known = known

-- What is known to be safe of a log.
abbrev pub safe_of : ShortValue → Option (List ℕ)
safe_of f = known_unless f.in_doubt f.log.safe

-- A log isn't in doubt unless it is lost.
abbrev pub IsSound : Bool → SealedBatches → Type 0
IsSound in_doubt log = in_doubt ≡ true → log.is_lost ≡ true

-- The head of a log of which this is gone: of version 2, where nothing is, and else of version 3.
abbrev pub head_of : IdentityValue → Option Gone → List ℕ
head_of v None = sealed_log_name v
head_of v (Some gone) = shortened_name v gone

-- What a head tells to be gone is in range.
abbrev pub AreGone : Option Gone → Type 0
AreGone None = ⊤
AreGone (Some gone) = IsGone gone

-- The text begins with the head of a log of which this is gone.
abbrev pub BeginsAs : IdentityValue → Option (List ℕ) → Option Gone → Type 0
BeginsAs v None front = ⊤
BeginsAs v (Some text) front = (rest : List ℕ) × (text ≡ head_of v front ++ rest)

-- The text has this behind the head of a log of the site, of version 2 or 3.
pub record HasBehind (v : IdentityValue) (text : List ℕ) (Holds : List ℕ → Type 0) : Type 0 where
  pub gone : Option Gone
  pub rest : List ℕ
  pub text_is : text ≡ head_of v gone ++ rest
  pub holds : Holds rest

-- The text is that of a log of the site, which was opened so.
pub record OpensText (v : IdentityValue) (text : List ℕ) (f : ShortValue) : Type 0 where
  pub rest : List ℕ
  pub text_is : text ≡ head_of v f.gone ++ rest
  pub log : Opens (Some rest) f.log

-- The log was opened so, where the bytes of the file are known.
abbrev pub OpensShort : IdentityValue → Option (List ℕ) → ShortValue → Type 0
OpensShort v None f = ⊤
OpensShort v (Some text) f = OpensText v text f

-- Why a text isn't opened as the log of a site. Of a call of the file that failed, and of want of memory, nothing can be said.
abbrev pub IsRefusedFor : IdentityValue → List ℕ → ShortFault → Type 0
IsRefusedFor v text Other = IsOther v text
IsRefusedFor v text Changed = IsChanged v text
IsRefusedFor v text Plain = (rest : List ℕ) × (text ≡ log_name v ++ rest)
IsRefusedFor v text (Damaged line) = HasBehind v text (λ rest. IsDamagedAt rest line)
IsRefusedFor v text Ended = HasBehind v text IsEnded
IsRefusedFor v text Device = ⊤
IsRefusedFor v text NoMemory = ⊤

-- The log isn't opened for that, where the bytes of the file are known.
abbrev pub Refuses : IdentityValue → Option (List ℕ) → ShortFault → Type 0
Refuses v None fault = ⊤
Refuses v (Some text) fault = IsRefusedFor v text fault

-- The text has batches behind the head of a log of the site; and of the other bytes those that a sum closes are behind so many.
pub record KeepsBatches (v : IdentityValue) (text : List ℕ) (new : Option (List ℕ)) : Type 0 where
  pub gone : Option Gone
  pub rest : List ℕ
  pub text_is : text ≡ head_of v gone ++ rest
  pub place : ℕ
  pub keeps : KeepsAll (Some rest) (behind place new)

-- What is safe still is, or the batches that sums close in what the file held, where that is known.
abbrev pub IsKept : IdentityValue → Option (List ℕ) → Option (List ℕ) → Option (List ℕ) → Type 0
IsKept v None safe new = ⊤
IsKept v (Some text) safe new = KeepsFront safe new ⊎ KeepsBatches v text new

-- What is told of a head, and of the batches behind it.
abbrev pub of_head : HeadFault → ShortFault
of_head HeadOther = Other
of_head HeadChanged = Changed
of_head HeadNoMemory = NoMemory

abbrev pub of_seal : SealFault → ShortFault
of_seal (BatchDamaged line) = Damaged line
of_seal WorldEnded = Ended
of_seal SealDevice = Device
of_seal SealNoMemory = NoMemory

-- It is told of the head: the batches behind it weren't looked at.
abbrev pub IsOfHead : ShortFault → Type 0
IsOfHead Other = ⊤
IsOfHead Changed = ⊤
IsOfHead Plain = ⊤
IsOfHead (Damaged line) = ⊥
IsOfHead Ended = ⊥
IsOfHead Device = ⊥
IsOfHead NoMemory = ⊥

-- It isn't known which file is there, and the log is lost: a stop of the machine leaves what was safe of the old file behind its
-- head, or the new file, whole.
pub record IsInDoubt (old new : ShortValue) (file : List ℕ) : Type 0 where
  pub same : new ≡ record old { log = new.log; in_doubt = true }
  pub lost : new.log.is_lost ≡ true
  pub left : LeavesEither old.log.head old.log.file_safe new.log.head new.log.file_safe file
