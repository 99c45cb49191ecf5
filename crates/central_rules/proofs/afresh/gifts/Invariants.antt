use Rattle.std.proofs.Common.{◌≡◌, ◌≤◌, ◌*◌, reverse, take}
use Rattle.field_bounds.specs.Effects.{gifts}
use Rattle.central_rules.specs.Fates.{goes_to}
use Rattle.central_rules.proofs.afresh.gifts.Given as goal

abbrev pub invariant-loop-effect : goal.invariant-loop-effect
invariant-loop-effect l = record {
  value : l.sum ≡ gifts (goes_to l.whom) l.field.0 l.kind (reverse (take l.effect-index l.effects));
  small : l.sum ≤ l.effect-index * 18446744073709551616;
}
