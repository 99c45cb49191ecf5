-- What was read of files by their paths (this project).
use Rattle.std.specs.Prelude.{◌≡◌, ℕ, Bool, List}

-- These bytes were read of the file at this path: where it is known which it holds, it holds them.
abbrev pub IsRead : (List ℕ → List ℕ → Type 0) → List ℕ → List ℕ → Type 0
IsRead holds path bytes = (known : List ℕ) → holds path known → bytes ≡ known

-- It was seen whether there is a file at this path: where that is known, it is so.
abbrev pub IsSeen : (List ℕ → Bool → Type 0) → List ℕ → Bool → Type 0
IsSeen stands path there = (known : Bool) → stands path known → there ≡ known
