-- What a site does with its medium.
use Rattle.std.specs.Prelude.{◌≡◌, ◌⊎◌, ℕ, ◌+◌, ◌<◌, Bool, false, not, List, [], ◌∷◌, ◌++◌, length, take, drop, Option, Some, None, is_some, Result, Ok, Err, IsOk, IsErr}
use Rattle.kept_records.specs.declared.medium.Mishap.{Mishap}
use Rattle.kept_records.specs.declared.medium.Mishap.TheVariants.{Never, Append, Cut, Read}
use Rattle.kept_records.specs.declared.record.Record.{Record}
use Rattle.kept_records.specs.Summary.{SummaryValue, summary_record}
use Rattle.kept_records.specs.Kinds.{restart_told}
use Rattle.kept_records.specs.Medium.{IsCutShort}
use Rattle.kept_records.specs.Logs.{IsLog}

-- The bytes are the texts of some records, and behind them a rest in which no line ends (this project).
abbrev pub IsKept : List ℕ → Type 0
IsKept bytes = (rs : List Record) × (rest : List ℕ) × IsLog bytes rs rest

-- ---- what a record's line leaves (this project)

-- A record, and the summary behind it where one is due: they are added in one piece.
abbrev pub with_due : Record → Option SummaryValue → List Record
with_due r None = r ∷ []
with_due r (Some v) = r ∷ summary_record v ∷ []

-- A line was added whole, or the device failed and left some front of it.
abbrev pub Appends : {T E : Type 0} → Result T E → List ℕ → List ℕ → List ℕ → ℕ → ℕ → Type 0
Appends (Ok x) old line new before after = (new ≡ old ++ line) × (after ≡ before)
Appends (Err e) old line new before after = IsCutShort old line new × (after ≡ before + 1)

-- The same behind the first so many bytes; a cut that failed leaves all of them.
abbrev pub CutsAndAppends : {T E : Type 0} → Result T E → ℕ → List ℕ → List ℕ → List ℕ → ℕ → ℕ → Type 0
CutsAndAppends (Ok x) whole old line new before after = (new ≡ take whole old ++ line) × (after ≡ before)
CutsAndAppends (Err e) whole old line new before after = ((new ≡ old) ⊎ IsCutShort (take whole old) line new) × (after ≡ before + 1)

-- A mishap for cuts strikes where there is something to cut, and else is still to come.
abbrev pub StrikesCut : {E : Type 0} → ℕ → List ℕ → Result Unit E → List ℕ → Option Mishap → Type 0
StrikesCut whole old result new left =
    (whole < length old → IsErr result × (new ≡ old) × (left ≡ Some Never))
    × (whole ≡ length old → IsOk result × (left ≡ Some Cut))

-- A cut and an append under a mishap, which strikes the call of its kind.
abbrev pub CutAndAppendGo : {E : Type 0} → Mishap → ℕ → List ℕ → List ℕ → Result Unit E → List ℕ → Option Mishap → Type 0
CutAndAppendGo (Append kept) whole old line result new left =
    IsErr result × (new ≡ take whole old ++ take kept line) × (left ≡ Some Never)
CutAndAppendGo Cut whole old line result new left = StrikesCut whole old result new left
CutAndAppendGo Never whole old line result new left = IsOk result × (left ≡ Some Never)
CutAndAppendGo Read whole old line result new left = IsOk result × (left ≡ Some Read)

-- The same, where the mishap may be unknown: it then stays so, and nothing more is said.
abbrev pub CutAndAppendFate : {E : Type 0} → Option Mishap → ℕ → List ℕ → List ℕ → Result Unit E → List ℕ → Option Mishap → Type 0
CutAndAppendFate None whole old line result new left = left ≡ None
CutAndAppendFate (Some mishap) whole old line result new left = CutAndAppendGo mishap whole old line result new left

-- ---- what stands behind so many records (this project)

abbrev pub is_restart : Record → Bool
is_restart r = is_some (restart_told r)

abbrev pub starts_with_no_restart : List Record → Bool
starts_with_no_restart [] = false
starts_with_no_restart (r ∷ rs) = not (is_restart r)

-- A record stands behind so many, and it is no restart.
abbrev pub is_record_behind : ℕ → List Record → Bool
is_record_behind n rs = starts_with_no_restart (drop n rs)
