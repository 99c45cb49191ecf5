use Rattle.std.proofs.Common.{◌≡◌, ◌≤◌, ◌+◌, drop}
use Rattle.field_bounds.specs.declared.kind.Kind.TheVariants.{Lower, Raise}
use Rattle.reaching_steps.specs.FieldHoldings.{is_of, held_sizes}
use Rattle.reaching_steps.proofs.standing.held_by.Given as goal

abbrev pub invariant-loop-row : goal.invariant-loop-row
invariant-loop-row l =
    (held_sizes (is_of l.holder) Lower l.held ≤ 340282366920938463463374607431768211455
    → l.lower + held_sizes (is_of l.holder) Lower (drop l.row-index l.held) ≡ held_sizes (is_of l.holder) Lower l.held)
    × (held_sizes (is_of l.holder) Raise l.held ≤ 340282366920938463463374607431768211455
    → l.raise + held_sizes (is_of l.holder) Raise (drop l.row-index l.held) ≡ held_sizes (is_of l.holder) Raise l.held)
