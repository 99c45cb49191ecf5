-- How many entries there are at most (this project).
use Rattle.std.specs.Prelude.{ℕ}

-- An entry takes 80 bytes at least, and memory has at most 2^64: so no count of entries comes to more.
abbrev pub most_entries : ℕ
most_entries = 230584300921369395
