use Rattle.std.proofs.Common.{◌≡◌, ◌∙◌, ap, arith, rules}
use Rattle.std.specs.Prelude.{ℤ}
use Rattle.std.proofs.lemmas.Int.{ints}
use Rattle.world_logs.specs.declared.field_state.FieldRange.{FieldRange}
use Rattle.world_logs.specs.Lost.{range_of}
use Rattle.world_logs.proofs.lost_sums.range_of.Goals as goal

same_range : (a b : FieldRange) → a.least ≡ b.least → a.greatest ≡ b.greatest → a ≡ b
same_range a b least greatest = ap (λ (x : ℤ). record a { least = x }) least ∙ ap (λ (x : ℤ). record b { greatest = x }) greatest

pub returns-clause-range : goal.returns-clause-range
returns-clause-range c = λ known is.
    let field = c.bounds-floor.ensures.limits in
    let floor_is = ap (λ (b : ℤ × ℤ × ℤ). b.0) c.bounds-floor.ensures.value in
    let ceiling_is = ap (λ (b : ℤ × ℤ × ℤ). b.1) c.bounds-floor.ensures.value in
    same_range _ (range_of c.args.schema.now known c.args.field.0)
    (omega (arith, ints, field, floor_is, ceiling_is, c.abs_diff-width.ensures, c.if-lower-width.false, c.rights_known-lower.ensures.value known is))
    (omega (arith, ints, field, floor_is, ceiling_is, c.abs_diff-width.ensures, c.if-raise-width.false, c.rights_known-raise.ensures.value known is))

pub returns-clause-room : goal.returns-clause-room
returns-clause-room c = search rules
