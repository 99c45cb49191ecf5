use Rattle.std.proofs.Common.{◌≡◌, ◌≤◌, ◌*◌, ℕ}
use Rattle.field_bounds.specs.Schema.{SchemaValue}
use Rattle.field_bounds.specs.Parts.{sum_below}
use Rattle.field_bounds.specs.Effects.{fresh, total_accepted}
use Rattle.reaching_steps.proofs.totals.gained_in.Given as goal

abbrev pub invariant-loop-from : goal.invariant-loop-from
invariant-loop-from l =
    ((schema : SchemaValue) (s : ℕ) → l.all ≡ sum_below l.from (λ (from : ℕ). total_accepted (fresh schema s) from l.field.0 l.kind l.told))
    × (l.all ≤ l.from * 18446744073709551616)
