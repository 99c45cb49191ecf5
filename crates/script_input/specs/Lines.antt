-- The lines of an input (this project).
use Rattle.std.specs.Prelude.{ℕ, List, [], ◌∷◌, ◌++◌, ◌+◌, ◌==◌, if◌then◌else◌}

-- The lines that LF (10) ends, the first of which begins with `front`.
abbrev pub whole_lines_after : List ℕ → List ℕ → List (List ℕ)
whole_lines_after front [] = []
whole_lines_after front (b ∷ bs) =
    if b == 10 then front ∷ whole_lines_after [] bs else whole_lines_after (front ++ b ∷ []) bs

-- What follows the last LF, with `front` before the bytes.
abbrev pub last_part_after : List ℕ → List ℕ → List ℕ
last_part_after front [] = front
last_part_after front (b ∷ bs) =
    if b == 10 then last_part_after [] bs else last_part_after (front ++ b ∷ []) bs

-- How many bytes stand before the first LF; all of them where there is none.
abbrev pub until_break : List ℕ → ℕ
until_break [] = 0
until_break (b ∷ bs) = if b == 10 then 0 else until_break bs + 1

-- The lines that LF ends, without it.
abbrev pub whole_lines : List ℕ → List (List ℕ)
whole_lines bs = whole_lines_after [] bs

-- What follows the last LF.
abbrev pub last_part : List ℕ → List ℕ
last_part bs = last_part_after [] bs

-- A last line that no LF ends, where it has a byte.
abbrev pub last_line : List ℕ → List (List ℕ)
last_line [] = []
last_line (b ∷ bs) = (b ∷ bs) ∷ []

-- The lines: a last one that no LF ends counts where it has a byte.
abbrev pub lines_of : List ℕ → List (List ℕ)
lines_of bs = whole_lines bs ++ last_line (last_part bs)

-- There is always a header line: where there is no line at all, it is empty.
abbrev pub with_header : List (List ℕ) → List (List ℕ)
with_header [] = [] ∷ []
with_header (line ∷ lines) = line ∷ lines

-- The lines of a script, the header line first.
abbrev pub script_lines : List ℕ → List (List ℕ)
script_lines bs = with_header (lines_of bs)
