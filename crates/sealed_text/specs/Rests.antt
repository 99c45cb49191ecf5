-- What a reading of a text meets at each step (this project).
use Rattle.std.specs.Prelude.{◌≡◌, ◌≢◌, ℕ, true, false, List, ◌∷◌, ◌++◌, All}
use Rattle.std.specs.List.{concat}
use Rattle.sealed_text.specs.declared.rest.Rest.{Rest}
use Rattle.sealed_text.specs.declared.rest.Rest.TheVariants.{Records, Ended, Torn, Damaged}
use Rattle.sealed_text.specs.Seals.{IsRecords, IsEnd, IsDamaged, BeginsWith, sealed_batch}

-- No lower-case `s` (115) is among the bytes: so no line that tells a sum begins there.
abbrev pub IsClear : List ℕ → Type 0
IsClear bytes = All (λ b. b ≢ 115) bytes

-- The bytes begin with a lower-case `s`.
pub record BeginsWithS (bytes : List ℕ) : Type 0 where
  pub more : List ℕ
  pub is : bytes ≡ 115 ∷ more

-- The text begins with closed batches of records, which are these, and the rest stands behind them.
pub record Taken (text rest records : List ℕ) : Type 0 where
  pub batches : List (List ℕ)
  pub begins : BeginsWith text batches rest
  pub records_are : records ≡ concat batches

-- What the bytes begin with.
abbrev pub IsRest : List ℕ → Rest → Type 0
IsRest bytes (Records batch behind) = IsRecords batch.now × (bytes ≡ sealed_batch batch.now ++ behind.now)
IsRest bytes Ended = IsEnd true bytes
IsRest bytes Torn = IsEnd false bytes
IsRest bytes Damaged = IsDamaged bytes
