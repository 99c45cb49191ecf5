use Rattle.std.proofs.Common.{◌≡◌, max, ℕ, drop}
use Rattle.field_bounds.specs.Schema.{SchemaValue}
use Rattle.field_bounds.specs.Effects.{fresh, total_accepted}
use Rattle.reaching_steps.proofs.totals.accepted_in.Given as goal

abbrev pub invariant-loop-effect : goal.invariant-loop-effect
invariant-loop-effect l =
    (schema : SchemaValue) (s : ℕ) → max l.most (total_accepted (fresh schema s) l.from.0 l.field.0 l.kind (drop l.effect-index l.told))
    ≡ total_accepted (fresh schema s) l.from.0 l.field.0 l.kind l.told
