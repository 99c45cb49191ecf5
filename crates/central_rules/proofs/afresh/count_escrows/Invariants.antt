use Rattle.std.proofs.Common.{◌≡◌, ◌≤◌, reverse, take, length}
use Rattle.field_bounds.specs.Effects.{escrows_of}
use Rattle.central_rules.proofs.afresh.count_escrows.Given as goal

abbrev pub invariant-loop-effect : goal.invariant-loop-effect
invariant-loop-effect l = record {
  value : l.count ≡ length (escrows_of l.id (reverse (take l.effect-index l.effects)));
  small : l.count ≤ l.effect-index;
}
