-- A file that begins with a name, and the log behind it (this project).
use Rattle.std.specs.Prelude.{◌≡◌, ◌≢◌, ℕ, List, length, take, drop, ⊤, Bool, true, false, Option, None, Some, option_map, bytes_eq, ◌-◌}
use Rattle.file_medium.specs.Files.{AreThere}
use Rattle.file_swap.specs.Heads.{LeavesEither}

-- The log behind a name as its callers see it: the bytes behind the name, those of them that are safe, each where it is
-- known; the fewest of them that a cut has left, where that is; whether a sync has failed; how many bytes the name has; and the
-- name, as it stands safe in front of them, where that is known.
pub record LogBehind : Type 0 where
  pub bytes : Option (List ℕ)
  pub safe : Option (List ℕ)
  pub least : Option ℕ
  pub lost : Bool
  pub name_size : ℕ
  pub name : Option (List ℕ)

-- What stands behind the first so many of the known bytes.
abbrev pub behind : ℕ → Option (List ℕ) → Option (List ℕ)
behind name known = option_map (drop name) known

-- Of so many known bytes, how many stand behind the first ones.
abbrev pub count_behind : ℕ → Option ℕ → Option ℕ
count_behind name known = option_map (λ count. count - name) known

-- What holds of every named log that isn't lost: a name's length of bytes is there, and is safe.
pub record HasName (name : ℕ) (lost : Bool) (bytes safe : Option (List ℕ)) : Type 0 where
  pub there : lost ≡ false → AreThere name bytes
  pub safe_too : lost ≡ false → AreThere name safe

-- The known bytes begin with the name exactly where that was told.
abbrev pub StartsAs : Bool → Option (List ℕ) → List ℕ → Type 0
StartsAs starts None name = ⊤
StartsAs starts (Some xs) name = starts ≡ bytes_eq (take (length name) xs) name

-- The known bytes begin with the name.
abbrev pub BeginsWith : Option (List ℕ) → List ℕ → Type 0
BeginsWith None name = ⊤
BeginsWith (Some xs) name = take (length name) xs ≡ name

-- The known bytes begin otherwise.
abbrev pub IsNot : Option (List ℕ) → List ℕ → Type 0
IsNot None name = ⊤
IsNot (Some xs) name = take (length name) xs ≢ name

-- The file begins with the name, which is safe, and the log is what stands behind it, all of it safe.
pub record Opens (file : Option (List ℕ)) (name : List ℕ) (log : LogBehind) : Type 0 where
  pub own : BeginsWith file name
  pub bytes : log.bytes ≡ behind (length name) file
  pub safe : log.safe ≡ behind (length name) file
  pub sound : log.lost ≡ false
  pub size : log.name_size ≡ length name
  pub name_is : log.name ≡ option_map (λ _. name) file

-- The first so many of the known bytes are those of the name.
abbrev pub HasMet : Option (List ℕ) → ℕ → List ℕ → Type 0
HasMet None seen name = ⊤
HasMet (Some xs) seen name = take seen xs ≡ take seen name

-- It isn't known which file is there, and the log is lost: a stop of the machine leaves what was safe behind the name that it had,
-- or the new file, whole.
pub record IsInDoubt (old new : LogBehind) (file : List ℕ) : Type 0 where
  pub lost : new.lost ≡ true
  pub left : LeavesEither old.name old.safe new.name new.safe file
