-- What the calls of a file do to its bytes, where those are known (this project).
use Rattle.std.specs.Prelude.{◌≡◌, ◌≤◌, ◌<◌, ℕ, List, length, take, drop, min, ⊤, Option, None, Some, Result, MatchResult}
use Rattle.std.specs.Io.KnownBytes.{append_known}

-- The first so many of the known bytes.
abbrev pub cut_known : ℕ → Option (List ℕ) → Option (List ℕ)
cut_known kept None = None
cut_known kept (Some xs) = Some (take kept xs)

-- So many bytes are there, where they are known.
abbrev pub AreThere : ℕ → Option (List ℕ) → Type 0
AreThere kept None = ⊤
AreThere kept (Some xs) = kept ≤ length xs

-- The known bytes are cut to the first so many, and stay where the cut failed.
abbrev pub CutsTo : {T E : Type 0} → ℕ → Option (List ℕ) → Option (List ℕ) → Result T E → Type 0
CutsTo kept old new result = MatchResult result (λ _. new ≡ cut_known kept old) (λ _. new ≡ old)

-- The known bytes that were there are a front of those that are: none is lost, and more may stand behind them.
abbrev pub KeepsFront : Option (List ℕ) → Option (List ℕ) → Type 0
KeepsFront None new = ⊤
KeepsFront (Some xs) None = ⊥
KeepsFront (Some xs) (Some ys) = xs ≡ take (length xs) ys

-- The fewest bytes that a cut has left, behind one that leaves so many: the lesser of the two, where it is known.
abbrev pub least_known : ℕ → Option ℕ → Option ℕ
least_known kept None = None
least_known kept (Some least) = Some (min kept least)

-- The fewest bytes that a cut has left are lowered so, and stay where the cut failed.
abbrev pub LowersTo : {T E : Type 0} → ℕ → Option ℕ → Option ℕ → Result T E → Type 0
LowersTo kept old new result = MatchResult result (λ _. new ≡ least_known kept old) (λ _. new ≡ old)

-- Each cut so far has left so many bytes, as far as that is known.
abbrev pub IsSpared : ℕ → Option ℕ → Type 0
IsSpared front None = ⊤
IsSpared front (Some least) = front ≤ least

-- From the one moment to the other no cut went in front of the first n bytes: each front of them that every cut had left before is
-- one that every cut has left still.
abbrev pub SparesFront : ℕ → Option ℕ → Option ℕ → Type 0
SparesFront n old new = (front : ℕ) → front ≤ n → IsSpared front old → IsSpared front new

-- The known bytes grow by the n bytes that were taken from the front of the piece, and by none where the write failed.
abbrev pub AddsTo : {E : Type 0} → Option (List ℕ) → Option (List ℕ) → Result ℕ E → List ℕ → Type 0
AddsTo old new result piece = MatchResult result (λ n. new ≡ append_known old (take n piece)) (λ _. new ≡ old)

-- The first n bytes of the buffer are those that stand behind the first so many; none only at the end, or where there is no room.
abbrev pub ReadsAt : Option (List ℕ) → ℕ → ℕ → List ℕ → Type 0
ReadsAt None at n buffer = ⊤
ReadsAt (Some xs) at n buffer = (take n buffer ≡ take n (drop at xs)) × (n ≡ 0 → 0 < length buffer → length xs ≤ at)
