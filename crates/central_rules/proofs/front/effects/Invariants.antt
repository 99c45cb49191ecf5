use Rattle.std.proofs.Common.{◌≡◌, ◌≤◌, reverse, take, drop, length}
use Rattle.field_bounds.specs.Effects.{effects, fresh, doubt_kept_in}
use Rattle.field_bounds.specs.Central.{own}
use Rattle.central_rules.proofs.front.effects.Given as goal

abbrev pub invariant-loop-i : goal.invariant-loop-i
invariant-loop-i l = record {
  value : reverse l.made.items ≡ effects (fresh l.schema l.site.0) (doubt_kept_in l.site.0 (drop l.i l.front))
      (own l.site.0 (reverse (take l.i l.front)));
  few : length l.made.items ≤ l.i;
}
