-- A medium that holds a copy of a file (this project).
use Rattle.std.specs.Prelude.{◌≡◌, ◌<◌, ◌-◌, ◌^◌, ℕ, List, length, take, drop, Bool, true, false, ⊤, Option, None, Some, Result, IsErr}
use Rattle.file_medium.specs.declared.medium.Durability.{Durability}
use Rattle.file_medium.specs.declared.medium.Durability.TheVariants.{EachAppend, Caller}

-- The medium as its callers see it: the bytes of the copy; how many can be added without memory; how many calls failed;
-- whether a sync has; when an append is safe; and the bytes that the file holds, those that are safe, and the fewest that a cut of
-- it has left, where they are known.
pub record FileCopy : Type 0 where
  pub bytes : List ℕ
  pub room : ℕ
  pub failures : ℕ
  pub lost : Bool
  pub durability : Durability
  pub file : Option (List ℕ)
  pub safe : Option (List ℕ)
  pub least : Option ℕ

-- The copy is these bytes, where they are known.
abbrev pub IsCopyOf : Option (List ℕ) → List ℕ → Type 0
IsCopyOf None held = ⊤
IsCopyOf (Some xs) held = xs ≡ held

-- The copy is what the file holds, unless a sync has failed.
abbrev pub IsTrueCopy : Bool → Option (List ℕ) → List ℕ → Type 0
IsTrueCopy lost file held = lost ≡ false → IsCopyOf file held

-- Where each append is to be safe at once: the copy is what a stop of the machine leaves, unless a sync has failed.
abbrev pub IsSafeCopy : Durability → Bool → Option (List ℕ) → List ℕ → Type 0
IsSafeCopy EachAppend lost safe held = lost ≡ false → IsCopyOf safe held
IsSafeCopy Caller lost safe held = ⊤

-- What was read so far is the front of what the file holds.
abbrev pub IsFrontOf : Option (List ℕ) → List ℕ → Type 0
IsFrontOf None held = ⊤
IsFrontOf (Some xs) held = held ≡ take (length held) xs

-- What was read is the front of the file where there may be more, and else the whole file.
abbrev pub ReadsOn : Option (List ℕ) → List ℕ → Bool → Type 0
ReadsOn file held true = IsFrontOf file held
ReadsOn file held false = IsCopyOf file held

-- What holds of every medium: its copy is true, it is safe where each append is to be, and there is memory for a piece of the file.
pub record IsSoundCopy (durability : Durability) (lost : Bool) (file safe : Option (List ℕ)) (held : List ℕ) (piece : ℕ)
    : Type 0 where
  pub is_true : IsTrueCopy lost file held
  pub is_safe : IsSafeCopy durability lost safe held
  pub some : 0 < piece

-- Where each append is to be safe at once, all bytes are, unless the count of failures could not rise any more.
abbrev pub IsSafeAtOnce : FileCopy → FileCopy → Type 0
IsSafeAtOnce old new = old.durability ≡ EachAppend → old.failures < 2 ^ 64 - 1 → IsCopyOf new.safe new.bytes

-- After a sync that failed a call fails, unless the count of failures can't rise any more.
abbrev pub MayNotAnswer : {T E : Type 0} → FileCopy → Result T E → Type 0
MayNotAnswer old result = old.lost ≡ true → old.failures < 2 ^ 64 - 1 → IsErr result

-- No sync failed in a call that was answered, unless the count of failures could not rise any more: where none had, none has.
abbrev pub StaysSound : FileCopy → FileCopy → Type 0
StaysSound old new = old.lost ≡ false → old.failures < 2 ^ 64 - 1 → new.lost ≡ false

-- The file holds these bytes behind the first so many, and no others, where that is known.
abbrev pub EndsAs : Option (List ℕ) → ℕ → List ℕ → Type 0
EndsAs None from held = ⊤
EndsAs (Some xs) from held = drop from xs ≡ held

-- Behind the first so many bytes, the next so many of the file are those of the copy.
abbrev pub HasSeen : Option (List ℕ) → ℕ → ℕ → List ℕ → Type 0
HasSeen None from seen held = ⊤
HasSeen (Some xs) from seen held = take seen (drop from xs) ≡ take seen held
