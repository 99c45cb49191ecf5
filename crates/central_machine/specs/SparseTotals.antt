-- Totals of both kinds by number, most of which stay 0 (this project).
use Rattle.std.specs.Prelude.{◌≡◌, ℕ, ◌==◌, Bool, true, ◌&&◌, if◌then◌else◌}
use Rattle.field_bounds.specs.declared.kind.Kind.{Kind}
use Rattle.field_bounds.specs.declared.kind.Kind.TheVariants.{Lower, Raise}
use Rattle.field_bounds.specs.Kind.{same_kind}
use Rattle.central_machine.specs.declared.ledger.SparseTotals.{SparseTotals}
use Rattle.central_machine.specs.Spread.{number_at, has_place}

abbrev pub told : SparseTotals → ℕ → Kind → ℕ
told a g Lower = number_at a.lower g
told a g Raise = number_at a.raise g

abbrev pub has_spot : SparseTotals → ℕ → Bool
has_spot a g = has_place a.lower g && has_place a.raise g

-- A total is put at a place, or nothing where there is none.
pub record IsTold (before after : SparseTotals) (place : ℕ) (kind : Kind) (n : ℕ) : Type 0 where
  pub put : (g : ℕ) (k : Kind) → has_spot before g ≡ true
      → told after g k ≡ (if (place == g) && same_kind kind k then n else told before g k)
  pub places : (g : ℕ) → has_spot after g ≡ has_spot before g
