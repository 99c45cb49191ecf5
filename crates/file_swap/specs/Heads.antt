-- A head, and the log behind it, in one file (this project).
use Rattle.std.specs.Prelude.{◌≡◌, ◌⊎◌, ℕ, List, ◌++◌, Option, None, Some}
use Rattle.file_medium.specs.Copies.{IsCopyOf}

-- A head and what stands behind it, where both are known.
abbrev pub joined : Option (List ℕ) → Option (List ℕ) → Option (List ℕ)
joined None rest = None
joined (Some head) None = None
joined (Some head) (Some rest) = Some (head ++ rest)

-- Of a file that another was to take the place of, a stop of the machine leaves the head and the log as they were safe before, or the
-- other file, whole.
abbrev pub LeavesEither : Option (List ℕ) → Option (List ℕ) → Option (List ℕ) → Option (List ℕ) → List ℕ → Type 0
LeavesEither head safe new_head new_safe file = ((new_head ≡ head) × (new_safe ≡ safe)) ⊎ IsCopyOf (joined new_head new_safe) file
