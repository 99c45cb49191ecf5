use Rattle.std.proofs.Common.{◌≡◌, ◌≤◌, ◌*◌, ℕ, reverse, take}
use Rattle.field_bounds.specs.Schema.{SchemaValue}
use Rattle.field_bounds.specs.Effects.{gains, fresh}
use Rattle.central_rules.proofs.afresh.gains.Given as goal

abbrev pub invariant-loop-i : goal.invariant-loop-i
invariant-loop-i l = record {
  value : (schema : SchemaValue) (site : ℕ) → l.sum ≡ gains (fresh schema site) l.field.0 l.kind (reverse (take l.i l.effects));
  small : l.sum ≤ l.i * 18446744073709551616;
}
