-- Numbers at many places, in blocks that are made when a number is put first (Briggs and Torczon 1993 for sets that need not be
-- cleared, this project for the blocks).
use Rattle.std.specs.Prelude.{◌≡◌, ℕ, ◌<◌, ◌/◌, ◌%◌, nat_lt, ◌==◌, Bool, true, false, ◌&&◌, if◌then◌else◌, length, slice_get, slice_index_or, Option, Some, None}
use Rattle.central_machine.specs.declared.spread.Spread.{Spread}
use Rattle.central_machine.specs.declared.spread.Block.{Block}

-- Whether what lies at a spot is a block's.
abbrev pub is_of : ℕ → Option Block → Bool
is_of block None = false
is_of block (Some x) = x.owner == block

-- The number at an offset of a block, if the numbers are the block's.
abbrev pub number_in : ℕ → ℕ → Option Block → ℕ
number_in block offset None = 0
number_in block offset (Some x) = if x.owner == block then slice_index_or x.numbers offset 0 else 0

-- The number at an offset of a block.
abbrev pub number_of : Spread → ℕ → ℕ → ℕ
number_of a block offset = number_in block offset (slice_get a.blocks.items (slice_index_or a.spots.items block 0))

-- The number at a place.
abbrev pub number_at : Spread → ℕ → ℕ
number_at a g = number_of a (g / 16) (g % 16)

-- A place lies in a block that has a spot.
abbrev pub has_place : Spread → ℕ → Bool
has_place a g = nat_lt (g / 16) (length a.spots.items)

-- A number is put at an offset of a block.
pub record IsPutIn (before after : Spread) (block offset n : ℕ) : Type 0 where
  pub put : (b p : ℕ) → b < length before.spots.items
      → number_of after b p ≡ (if (block == b) && (offset == p) then n else number_of before b p)
  pub spots : length after.spots.items ≡ length before.spots.items

-- A number is put at a place, or nothing where there is none.
pub record IsPutAt (before after : Spread) (place n : ℕ) : Type 0 where
  pub put : (g : ℕ) → has_place before g ≡ true → number_at after g ≡ (if place == g then n else number_at before g)
  pub places : (g : ℕ) → has_place after g ≡ has_place before g
