use Rattle.std.proofs.Common.{◌≡◌, reverse, take}
use Rattle.field_bounds.specs.Effects.{is_begun, is_committed, is_dropped}
use Rattle.central_rules.proofs.afresh.fate_of.Given as goal

abbrev pub invariant-loop-effect : goal.invariant-loop-effect
invariant-loop-effect l = record {
  begun : l.fate.begun ≡ is_begun l.id (reverse (take l.effect-index l.effects));
  committed : l.fate.committed ≡ is_committed l.id (reverse (take l.effect-index l.effects));
  dropped : l.fate.dropped ≡ is_dropped l.id (reverse (take l.effect-index l.effects));
}
