-- What is read of the lines of a head (this project).
use Rattle.std.specs.Prelude.{◌≡◌, ◌≢◌, ℕ, List, ◌∷◌, ◌++◌, All}
use Rattle.site_folder.specs.Identity.{IsOneLine, line_then}
use Rattle.log_head.specs.Heads.{IsU64, numbers_text}

-- The first line is a word and these numbers, one space between them, and the rest stands behind it.
pub record TellsNumbers (bytes word ns rest : List ℕ) : Type 0 where
  pub text : bytes ≡ line_then (word ++ numbers_text ns) rest
  pub line : IsOneLine (word ++ numbers_text ns)
  pub fit : All IsU64 ns

-- The first line isn't a word and one number or more.
abbrev pub TellsNoNumbers : List ℕ → List ℕ → Type 0
TellsNoNumbers bytes word = (n : ℕ) (ns rest : List ℕ) → All IsU64 (n ∷ ns) → bytes ≢ line_then (word ++ numbers_text (n ∷ ns)) rest
