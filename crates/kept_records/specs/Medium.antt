-- What the calls of a medium do, and when they fail.
use Rattle.std.specs.Prelude.{◌≡◌, ℕ, ◌+◌, ◌-◌, List, ◌++◌, length, take, drop, Option, Some, None, Result, Ok, Err, IsOk, IsErr, IsOkUnless}
use Rattle.kept_records.specs.declared.medium.Mishap.{Mishap}
use Rattle.kept_records.specs.declared.medium.Mishap.TheVariants.{Never, Append, Cut, Read}
use Rattle.kept_records.specs.declared.medium.MediumFault.{MediumFault}
use Rattle.kept_records.specs.declared.medium.MediumFault.TheVariants as faults

-- The last so many bytes, or all where there are no more.
abbrev pub last_bytes : ℕ → List ℕ → List ℕ
last_bytes most bytes = drop (length bytes - most) bytes

-- The old bytes and behind them some front of the piece, which may be none of it or all.
abbrev pub IsCutShort : List ℕ → List ℕ → List ℕ → Type 0
IsCutShort old piece new = (kept : ℕ) × (new ≡ old ++ take kept piece)

-- The count of failures rises by one at a fault of the device, and not otherwise.
abbrev pub Counts : {T E : Type 0} → Result T E → ℕ → ℕ → Type 0
Counts (Ok x) before after = after ≡ before
Counts (Err e) before after = after ≡ before + 1

-- The same for a call that can want memory too, which is no failure of the device.
abbrev pub CountsRead : {T : Type 0} → Result T MediumFault → ℕ → ℕ → Type 0
CountsRead (Ok x) before after = after ≡ before
CountsRead (Err faults.Device) before after = after ≡ before + 1
CountsRead (Err faults.NoMemory) before after = after ≡ before

-- An append under a mishap. One for appends makes it fail, keeps so many bytes of the piece and is used up;
-- under any other it succeeds, and the mishap is still to come.
abbrev pub AppendGoes : {E : Type 0} → Mishap → List ℕ → List ℕ → Result Unit E → List ℕ → Option Mishap → Type 0
AppendGoes (Append kept) old piece result new left = IsErr result × (new ≡ old ++ take kept piece) × (left ≡ Some Never)
AppendGoes Never old piece result new left = IsOk result × (left ≡ Some Never)
AppendGoes Cut old piece result new left = IsOk result × (left ≡ Some Cut)
AppendGoes Read old piece result new left = IsOk result × (left ≡ Some Read)

-- An append, where the mishap may be unknown: it then stays so, and nothing more is said.
abbrev pub AppendFate : {E : Type 0} → Option Mishap → List ℕ → List ℕ → Result Unit E → List ℕ → Option Mishap → Type 0
AppendFate None old piece result new left = left ≡ None
AppendFate (Some mishap) old piece result new left = AppendGoes mishap old piece result new left

-- A cut under a mishap: one for cuts makes it fail and is used up.
abbrev pub CutFate : {T E : Type 0} → Option Mishap → Result T E → Option Mishap → Type 0
CutFate None result left = left ≡ None
CutFate (Some Cut) result left = IsErr result × (left ≡ Some Never)
CutFate (Some Never) result left = IsOk result × (left ≡ Some Never)
CutFate (Some (Append kept)) result left = IsOk result × (left ≡ Some (Append kept))
CutFate (Some Read) result left = IsOk result × (left ≡ Some Read)

-- A read under a mishap: one for reads makes it fail and is used up; under any other it fails for want of memory alone.
abbrev pub ReadFate : {T : Type 0} → Option Mishap → Result T MediumFault → Option Mishap → Type 0
ReadFate None result left = left ≡ None
ReadFate (Some Read) result left = (result ≡ Err faults.Device) × (left ≡ Some Never)
ReadFate (Some Never) result left = IsOkUnless result faults.NoMemory × (left ≡ Some Never)
ReadFate (Some Cut) result left = IsOkUnless result faults.NoMemory × (left ≡ Some Cut)
ReadFate (Some (Append kept)) result left = IsOkUnless result faults.NoMemory × (left ≡ Some (Append kept))
