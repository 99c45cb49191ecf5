use Rattle.std.proofs.Common.{◌≡◌, ◌≤◌, ◌*◌, ◌+◌, drop}
use Rattle.field_bounds.specs.Effects.{gifts}
use Rattle.reaching_steps.specs.Told.{passes}
use Rattle.reaching_steps.proofs.totals.gifts_in.Given as goal

abbrev pub invariant-loop-effect : goal.invariant-loop-effect
invariant-loop-effect l =
    (l.all + gifts (passes l.receivers) l.field.0 l.kind (drop l.effect-index l.told) ≡ gifts (passes l.receivers) l.field.0 l.kind l.told)
    × (l.all ≤ l.effect-index * 18446744073709551616)
