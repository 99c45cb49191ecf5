-- The heads of logs (this project).
use Rattle.std.specs.Prelude.{◌≡◌, ◌≢◌, ◌<◌, ◌^◌, ℕ, List, [], ◌∷◌, ◌++◌, length, map, codes}
use Rattle.std.specs.List.{join_with_byte}
use Rattle.std.specs.Fmt.{decimal}
use Rattle.sealed_text.specs.Seals.{sealed_batch}
use Rattle.site_folder.specs.Identity.{IdentityValue, line_then, file_name, log_name, sealed_log_name}
use Rattle.log_head.specs.declared.fault.HeadFault.{HeadFault}
use Rattle.log_head.specs.declared.fault.HeadFault.TheVariants.{Other, Changed, NoMemory}
use Rattle.log_head.specs.declared.gone.Gone.{Gone}
use Rattle.log_head.specs.declared.gone.Head.{Head}
use Rattle.log_head.specs.declared.gone.HeadKind.{HeadKind}
use Rattle.log_head.specs.declared.gone.HeadKind.TheVariants.{Plain, Sealed, Shortened}
use Rattle.log_head.specs.Horizons.{HorizonValue, IsHorizon}

-- A number of 64 bits.
abbrev pub IsU64 : ℕ → Type 0
IsU64 n = n < 2 ^ 64

-- Numbers with one space (32) between them.
abbrev pub numbers_text : List ℕ → List ℕ
numbers_text ns = join_with_byte 32 (map decimal ns)

-- Numbers, each with a space in front of it.
abbrev pub spaced : List ℕ → List ℕ
spaced [] = []
spaced (n ∷ ns) = 32 ∷ decimal n ++ spaced ns

-- What was let go is in range.
pub record IsGone (gone : Gone) : Type 0 where
  pub bytes : IsU64 gone.bytes
  pub records : IsU64 gone.records
  pub horizon : IsHorizon gone.horizon

-- The line that tells how many bytes and how many records were let go.
abbrev pub head_line : Gone → List ℕ
head_line gone = codes "head" ++ spaced (gone.bytes ∷ gone.records ∷ [])

-- The line of a horizon.
abbrev pub horizon_line : HorizonValue → List ℕ
horizon_line h = codes "horizon" ++ spaced (h.epoch ∷ h.number ∷ h.open_then)

-- Both lines, and what stands behind them.
abbrev pub told_then : Gone → List ℕ → List ℕ
told_then gone rest = line_then (head_line gone) (line_then (horizon_line gone.horizon) rest)

-- The first line of a log of version 3.
abbrev pub version_line : List ℕ
version_line = codes "escrow log 3"

-- The first five lines of a log of version 3: of the version, the site, its world, and of what was let go.
abbrev pub shortened_lines : IdentityValue → Gone → List ℕ
shortened_lines v gone = file_name version_line v ++ told_then gone []

-- The head of a log of version 3: those lines, and a sixth that tells their sum.
abbrev pub shortened_name : IdentityValue → Gone → List ℕ
shortened_name v gone = sealed_batch (shortened_lines v gone)

-- The head of a log of a site.
abbrev pub head_text : IdentityValue → HeadKind → List ℕ
head_text v Plain = log_name v
head_text v Sealed = sealed_log_name v
head_text v (Shortened gone) = shortened_name v gone

-- What the head tells is in range.
abbrev pub IsKind : HeadKind → Type 0
IsKind Plain = Unit {0}
IsKind Sealed = Unit {0}
IsKind (Shortened gone) = IsGone gone

-- The bytes begin with this head, which is so long.
pub record BeginsWith (v : IdentityValue) (bytes : List ℕ) (head : Head) : Type 0 where
  pub rest : List ℕ
  pub bytes_are : bytes ≡ head_text v head.kind ++ rest
  pub length_is : head.length ≡ length (head_text v head.kind)
  pub kind : IsKind head.kind

-- The bytes begin with no name of a log of the site: not with one of version 1 or 2, and not with the first three lines of
-- one of version 3.
pub record IsOther (v : IdentityValue) (bytes : List ℕ) : Type 0 where
  pub plain : (rest : List ℕ) → bytes ≢ log_name v ++ rest
  pub sealed : (rest : List ℕ) → bytes ≢ sealed_log_name v ++ rest
  pub shortened : (rest : List ℕ) → bytes ≢ file_name version_line v ++ rest

-- The bytes begin with the first three lines of a log of version 3 of the site, and not with a head of it.
pub record IsChanged (v : IdentityValue) (bytes : List ℕ) : Type 0 where
  pub behind : List ℕ
  pub begins : bytes ≡ file_name version_line v ++ behind
  pub none : (gone : Gone) (rest : List ℕ) → IsGone gone → bytes ≢ shortened_name v gone ++ rest

-- Why bytes begin with no head. Of want of memory nothing can be said.
abbrev pub IsRefused : IdentityValue → List ℕ → HeadFault → Type 0
IsRefused v bytes Other = IsOther v bytes
IsRefused v bytes Changed = IsChanged v bytes
IsRefused v bytes NoMemory = Unit {0}

-- Why bytes begin with no head of version 3. Of want of memory nothing can be said.
abbrev pub IsNotShortened : IdentityValue → List ℕ → HeadFault → Type 0
IsNotShortened v bytes Other = (rest : List ℕ) → bytes ≢ file_name version_line v ++ rest
IsNotShortened v bytes Changed = IsChanged v bytes
IsNotShortened v bytes NoMemory = Unit {0}
