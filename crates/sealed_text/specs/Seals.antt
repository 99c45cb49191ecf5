-- Texts of batches that sums close (this project).
use Rattle.std.specs.Prelude.{◌≡◌, ◌≢◌, ◌<◌, ◌+◌, ◌==◌, ◌&&◌, ◌||◌, nat_le, ℕ, Bool, true, false, List, [], ◌∷◌, ◌++◌, length, take, All, codes, count_by, slice_index, slice_set, ◌*◌, ◌%◌, ◌^◌}
use Rattle.std.specs.List.{AllPass, concat, sum}
use Rattle.hex.specs.Hex.{encode_lower}
use Rattle.std.specs.Int.{w32, to_be_bytes}
use Rattle.sealed_text.specs.declared.fault.TextFault.{TextFault}
use Rattle.sealed_text.specs.declared.fault.TextFault.TheVariants.{Damaged, NoMemory}
use Rattle.sealed_text.specs.declared.reading.Unsealed.{Unsealed}

-- Each byte as often as there are bytes from it to the last one, the last one once: the sum of the sums of all fronts.
abbrev pub weighted : List ℕ → ℕ
weighted [] = 0
weighted (b ∷ bs) = (1 + length bs) * b + weighted bs

-- A number modulo 2^32, as 8 hexadecimal digits of lower case.
abbrev pub digits_of : ℕ → List ℕ
digits_of n = encode_lower (to_be_bytes w32 (n % 2 ^ 32))

-- The sum of bytes: what they add up to, and what they add up to weighted so (Fletcher 1982, over bytes, modulo 2^32).
unfoldable pub sum_of : List ℕ → List ℕ
sum_of bytes = digits_of (sum bytes) ++ digits_of (weighted bytes)

-- The line that closes a batch: it tells the sum of the batch.
abbrev pub sum_line : List ℕ → List ℕ
sum_line batch = codes "sum " ++ sum_of batch ++ 10 ∷ []

-- A batch and the line that closes it.
abbrev pub sealed_batch : List ℕ → List ℕ
sealed_batch batch = batch ++ sum_line batch

-- The text of batches, each closed by its sum.
abbrev pub sealed_text : List (List ℕ) → List ℕ
sealed_text [] = []
sealed_text (batch ∷ batches) = sealed_batch batch ++ sealed_text batches

-- The batch that ends a world: `X` and a line feed (10).
abbrev pub end_batch : List ℕ
end_batch = codes "X" ++ 10 ∷ []

-- One of the bytes `A-Z`, `0-9`, space, `-`, line feed, `a`, `g`, `l`, `r` and `t`: all that records are spelled with.
unfoldable pub is_batch_byte : ℕ → Bool
is_batch_byte b =
    (nat_le 65 b && nat_le b 90) || (nat_le 48 b && nat_le b 57) || (b == 32) || (b == 45) || (b == 10)
    || (b == 97) || (b == 103) || (b == 108) || (b == 114) || (b == 116)

-- The bytes end in a line feed.
pub record EndsInLineFeed (bytes : List ℕ) : Type 0 where
  pub before : List ℕ
  pub ends : bytes ≡ before ++ 10 ∷ []

-- The bytes are a batch: one or more lines, of those bytes alone.
pub record IsBatch (bytes : List ℕ) : Type 0 where
  pub letters : AllPass is_batch_byte bytes
  pub last : EndsInLineFeed bytes

-- The bytes are a batch of records: not the one that ends a world.
pub record IsRecords (bytes : List ℕ) : Type 0 where
  pub batch : IsBatch bytes
  pub other : bytes ≢ end_batch

-- The bytes are what a stop leaves of a batch that is being written: the front of a batch with the line that closes it, not all
-- of it.
pub record IsTorn (rest : List ℕ) : Type 0 where
  pub batch : List ℕ
  pub is_batch : IsBatch batch
  pub front : rest ≡ take (length rest) (sealed_batch batch)
  pub less : length rest < length (sealed_batch batch)

-- What may stand behind the closed batches of records: the end of the world alone (true), or what a stop leaves (false).
abbrev pub IsEnd : Bool → List ℕ → Type 0
IsEnd true rest = rest ≡ sealed_batch end_batch
IsEnd false rest = IsTorn rest

-- The text of the closed batches: those of records, and the end of the world where it was ended.
abbrev pub closed_text : Bool → List (List ℕ) → List ℕ
closed_text true batches = sealed_text batches ++ sealed_batch end_batch
closed_text false batches = sealed_text batches

-- The text begins with these closed batches of records, and the rest stands behind them.
pub record BeginsWith (text : List ℕ) (batches : List (List ℕ)) (rest : List ℕ) : Type 0 where
  pub records : All IsRecords batches
  pub text_is : text ≡ sealed_text batches ++ rest

-- The text was unsealed: the records are those of its closed batches, one behind another; `whole` is the length of all that sums
-- close; and what stands behind is the end of the world, or what a stop leaves.
pub record Unseals (text : List ℕ) (u : Unsealed) : Type 0 where
  pub batches : List (List ℕ)
  pub rest : List ℕ
  pub begins : BeginsWith text batches rest
  pub end : IsEnd u.is_ended rest
  pub records_are : u.records.items ≡ concat batches
  pub whole_is : u.whole ≡ length (closed_text u.is_ended batches)

-- The rest is damaged: it is no end, no stop leaves it, and it doesn't begin with a closed batch of records.
pub record IsDamaged (rest : List ℕ) : Type 0 where
  pub no_end : IsEnd true rest → ⊥
  pub not_torn : IsEnd false rest → ⊥
  pub not_closed : (batch more : List ℕ) → IsRecords batch → rest ≢ sealed_batch batch ++ more

-- How many lines the bytes have: their line feeds.
abbrev pub lines_of : List ℕ → ℕ
lines_of bytes = count_by (λ b. b == 10) bytes

-- What stands behind the closed batches of records is damaged, and begins at this line, counted from 1.
pub record IsDamagedAt (text : List ℕ) (line : ℕ) : Type 0 where
  pub batches : List (List ℕ)
  pub rest : List ℕ
  pub begins : BeginsWith text batches rest
  pub damaged : IsDamaged rest
  pub line_is : line ≡ 1 + lines_of (sealed_text batches)

-- Why a text isn't unsealed. Of want of memory nothing can be said.
abbrev pub IsRefused : List ℕ → TextFault → Type 0
IsRefused text (Damaged line) = IsDamagedAt text line
IsRefused text NoMemory = Unit {0}

-- A front of the text of these batches is that of a front of them, and what a stop leaves of the next.
pub record LeavesFront (batches : List (List ℕ)) (front : List ℕ) : Type 0 where
  pub count : ℕ
  pub torn : List ℕ
  pub text_is : front ≡ sealed_text (take count batches) ++ torn
  pub is_torn : IsTorn torn

-- The bytes were changed in one byte: at this place there is another byte now.
pub record ChangesByte (before after : List ℕ) : Type 0 where
  pub place : ℕ
  pub byte : ℕ
  pub within : place < length before
  pub fits : byte < 256
  pub other : byte ≢ slice_index before place
  pub after_is : after ≡ slice_set before place byte
