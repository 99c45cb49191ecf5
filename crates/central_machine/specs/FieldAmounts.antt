-- Amounts of both kinds, by number.
use Rattle.std.specs.Prelude.{◌≡◌, ℕ, nat_lt, ◌==◌, min, Bool, true, ◌&&◌, if◌then◌else◌, length, slice_index_or}
use Rattle.field_bounds.specs.declared.kind.Kind.{Kind}
use Rattle.field_bounds.specs.declared.kind.Kind.TheVariants.{Lower, Raise}
use Rattle.field_bounds.specs.Kind.{same_kind}
use Rattle.central_machine.specs.declared.amounts.FieldAmounts.{FieldAmounts}

abbrev pub amount : FieldAmounts → ℕ → Kind → ℕ
amount a g Lower = slice_index_or a.lower.items g 0
amount a g Raise = slice_index_or a.raise.items g 0

abbrev pub has_slot : FieldAmounts → ℕ → Bool
has_slot a g = nat_lt g (length a.lower.items) && nat_lt g (length a.raise.items)

-- A number is put at a place, or nothing where there is none.
pub record IsPut (before after : FieldAmounts) (place : ℕ) (kind : Kind) (n : ℕ) : Type 0 where
  pub put : (g : ℕ) (k : Kind) → has_slot before g ≡ true
      → amount after g k ≡ (if (place == g) && same_kind kind k then n else amount before g k)
  pub places : (g : ℕ) → has_slot after g ≡ has_slot before g

-- A sum that stops at the greatest number that fits.
abbrev pub capped_sum : ℕ → ℕ
capped_sum n = min n 18446744073709551615
