-- What is seen of a file between its calls (this project).
use Rattle.std.specs.Prelude.{◌≡◌, ◌⊎◌, ℕ, List, [], ◌∷◌, ⊤, Option}
use Rattle.file_medium.specs.Files.{KeepsFront, cut_known, least_known}

-- Between two calls of a file: what is safe of it, and the fewest bytes that a cut of it has left, each where it is known.
pub record Moment : Type 0 where
  pub safe : Option (List ℕ)
  pub least : Option ℕ

-- A call that makes no cut: what was safe still is.
pub record IsUncut (old new : Moment) : Type 0 where
  pub kept : KeepsFront old.safe new.safe
  pub least : new.least ≡ old.least

-- A cut that went well, and left so many bytes.
pub record IsCutTo (old new : Moment) : Type 0 where
  pub left : ℕ
  pub safe : new.safe ≡ cut_known left old.safe
  pub least : new.least ≡ least_known left old.least

-- One call of a file, as the law of `LogFile` has it.
abbrev pub IsCall : Moment → Moment → Type 0
IsCall old new = IsUncut old new ⊎ IsCutTo old new

-- The moments behind the first one, each one call later.
abbrev pub AreCalls : Moment → List Moment → Type 0
AreCalls first [] = ⊤
AreCalls first (next ∷ rest) = IsCall first next × AreCalls next rest

-- The last of the moments, or the first one where none is behind it.
abbrev pub last_moment : Moment → List Moment → Moment
last_moment first [] = first
last_moment first (next ∷ rest) = last_moment next rest
