use Rattle.std.proofs.Common.{◌≡◌, ℕ, reverse, take}
use Rattle.field_bounds.specs.Schema.{SchemaValue}
use Rattle.field_bounds.specs.Effects.{total_accepted, fresh}
use Rattle.central_rules.proofs.afresh.total_accepted.Given as goal

abbrev pub invariant-loop-effect : goal.invariant-loop-effect
invariant-loop-effect l = (schema : SchemaValue) (site : ℕ)
    → l.total ≡ total_accepted (fresh schema site) l.from.0 l.field.0 l.kind (reverse (take l.effect-index l.effects))
