use Rattle.std.proofs.Common.{◌≡◌, ◌≤◌, ◌*◌, reverse, take}
use Rattle.field_bounds.specs.Effects.{granted_sizes}
use Rattle.central_rules.specs.Fates.{passes}
use Rattle.central_rules.proofs.afresh.granted_sizes.Given as goal

abbrev pub invariant-loop-effect : goal.invariant-loop-effect
invariant-loop-effect l = record {
  value : l.sum ≡ granted_sizes (passes l.which (reverse l.effects)) l.field.0 l.kind (reverse (take l.effect-index l.effects));
  small : l.sum ≤ l.effect-index * 9223372036854775808;
}
