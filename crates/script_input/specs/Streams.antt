-- How the calls of a source or a sink end, and how often they fail (this project).
use Rattle.std.specs.Prelude.{◌≡◌, ℕ, ◌+◌, ◌%◌, ◌^◌, List, take, Option, Result, Ok, Err}
use Rattle.std.specs.Io.KnownBytes.{Appends}
use Rattle.script_input.specs.declared.streams.CallEnd.{CallEnd}
use Rattle.script_input.specs.declared.streams.CallEnd.TheVariants.{NotCalled, Moved, Nothing, Failed}

-- The last call answered an error.
abbrev pub HasFailed : CallEnd → Type 0
HasFailed last = last ≡ Failed

-- The last call answered 0, for room or for bytes that weren't none.
abbrev pub GaveNothing : CallEnd → Type 0
GaveNothing last = last ≡ Nothing

-- The last call was a write that failed, or took none of the bytes that it was given.
abbrev pub HasRefused : CallEnd → Type 0
HasRefused NotCalled = ⊥
HasRefused Moved = ⊥
HasRefused Nothing = Unit {0}
HasRefused Failed = Unit {0}

-- A count of failures with one more: a u64, which begins again at 0.
abbrev pub one_more : ℕ → ℕ
one_more count = (count + 1) % 2 ^ 64

-- The count of failures has one more where the call answers an error, and else is as before.
abbrev pub Counts : {T E : Type 0} → Result T E → ℕ → ℕ → Type 0
Counts (Ok x) before after = after ≡ before
Counts (Err e) before after = after ≡ one_more before

-- The bytes that a sink holds grow by a front of bs.
abbrev pub AppendsPrefix : Option (List ℕ) → Option (List ℕ) → List ℕ → Type 0
AppendsPrefix old new bs = (n : ℕ) × Appends old new (take n bs)
