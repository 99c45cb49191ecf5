use Rattle.std.proofs.Common.{◌≡◌, ◌≤◌, reverse, take, length, filter}
use Rattle.field_bounds.specs.Effects.{is_open, begun_txns}
use Rattle.central_rules.proofs.afresh.count_open.Given as goal

abbrev pub invariant-loop-effect : goal.invariant-loop-effect
invariant-loop-effect l = record {
  value : l.count ≡ length (filter (λ id. is_open id (reverse l.effects)) (begun_txns (reverse (take l.effect-index l.effects))));
  small : l.count ≤ l.effect-index;
}
