use Rattle.std.proofs.Common.{reverse, ap, ◌∙◌, ◌&&◌, w64}
use Rattle.std.proofs.lemmas.Int.{to_z-of_z}
use Rattle.std.specs.Prelude.{ℤ, int_le}
use Rattle.central_rules.proofs.Across.{value_is}
use Rattle.central_rules.proofs.front.between.Goals as goal

pub returns : goal.returns
returns c =
    let whole = value_is c.args.schema.now (reverse c.args.front.now) c.args.field.0 c.bounds_of-bounds.result c.in_ok-raised.raised
    c.in_ok-lowered.lowered 0 0 0 c.in_ok-raised.ensures.value c.in_ok-lowered.ensures.value c.bounds_of-bounds.ensures.value in
    let low = to_z-of_z w64 c.args.lo c.ranges.lo in
    let high = to_z-of_z w64 c.args.hi c.ranges.hi in
    let told = rw (low, high) at c.lies_between.ensures in
    told ∙ ap (λ (v : ℤ). int_le c.args.lo v && int_le v c.args.hi) whole
