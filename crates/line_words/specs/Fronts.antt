-- What a line begins with, and what its numbers are made of (this project).
use Rattle.std.specs.Prelude.{ℕ, ℤ, pos, negsuc, ◌-◌, ◌+◌, ◌^◌, List, Option, Some, None, ◌≡◌, ◌==◌, false, if◌then◌else◌, nat_lt, position, take, drop}
use Rattle.std.specs.List.{All}
use Rattle.line_words.specs.Reading.{◌>>=◌, number_of}

-- No byte is a space (32).
abbrev pub IsSpaceFree : List ℕ → Type 0
IsSpaceFree w = All (λ b. (b == 32) ≡ false) w

-- The i64 that is so far below 0.
abbrev pub below_zero_of : ℕ → Option ℤ
below_zero_of n = if n == 0 then None else (if nat_lt (2 ^ 63) n then None else Some (negsuc (n - 1)))

-- The i64 that is so far above 0, or 0.
abbrev pub from_zero_of : ℕ → Option ℤ
from_zero_of n = if nat_lt (2 ^ 63 - 1) n then None else Some (pos n)

-- The two numbers that a word spells with a dot (46) between them.
unfoldable pub dotted_of : List ℕ → Option (ℕ × ℕ)
dotted_of w = do
  at ← position (λ b. b == 46) w
  first ← number_of (2 ^ 64) (take at w)
  second ← number_of (2 ^ 64) (drop (at + 1) w)
  Some (first, second)
