-- A file in memory (this project).
use Rattle.std.specs.Prelude.{ℕ, List, Option}
use Rattle.file_medium.specs.declared.memory_file.FileMishap.{FileMishap}

-- The file as its callers see it: the bytes that it holds, and those that are safe; the fewest that a cut has left; how many a
-- write takes at most, and how many it can hold; and which call fails, if one is to.
pub record HeldFile : Type 0 where
  pub bytes : List ℕ
  pub safe : List ℕ
  pub least : ℕ
  pub at_once : ℕ
  pub capacity : ℕ
  pub mishap : Option FileMishap
