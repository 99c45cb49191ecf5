-- A line as a list of words (this project).
use Rattle.std.specs.Prelude.{ℕ, List, [], Option, Some, None, ◌==◌}
use Rattle.std.specs.List.{slice_split, join_with_byte}
use denote.Ref.{Bor}

-- The line cut at each space (32).
abbrev pub words : List ℕ → List (List ℕ)
words line = slice_split (λ b. b == 32) line

-- The words of a line of which nothing, or a rest, is left.
abbrev pub words_of : Option (Bor (List ℕ)) → List (List ℕ)
words_of None = []
words_of (Some line) = words line.now

-- Words with one space between them.
abbrev pub line : List (List ℕ) → List ℕ
line ws = join_with_byte 32 ws
