use Rattle.std.proofs.Common.{◌≡◌, ◌<◌, Bool, true, false, ap, sym, refl, ◌∙◌, ◌&&◌, ◌||◌, leb, length, w64, arith, ℕ}
use Rattle.std.proofs.lemmas.Bool.{leb-true, ltb-true}
use Rattle.std.proofs.lemmas.Int.{to_z-of_z, ints}
use Rattle.std.specs.Prelude.{ℤ, pos, ◌+ℤ◌, ◌-ℤ◌, int_le}
use Rattle.field_bounds.specs.Central.{committed_value}
use Rattle.central_machine.proofs.field_sums.FieldSums.holds_between.Goals as goal

-- of a field of the schema the test tells
on_it : (n f : ℕ) (b : Bool) → f < n → b ≡ (leb n f || b)
on_it n f b less = at (leb n f) refl
  where
    at : (x : Bool) → leb n f ≡ x → b ≡ (x || b)
    at true past = absurd (let most = leb-true n f past in omega (arith, most, less))
    at false past = refl

pub returns : goal.returns
returns c = λ t is.
    let schema = c.args.schema.now in
    let below : c.args.field.0 < length schema.fields =
    ltb-true c.args.field.0 (length schema.fields) (sym c.has.ensures ∙ c.if-not-has.false) in
    let room = is.low c.args.field.0 below in
    let floor = c.at_floor-from_floor.ensures.value ∙ c.bounds_of.ensures.floor in
    let place = rw (c.from.ensures) at c.at.ensures in
    let whole : (c.at_floor-from_floor.result.value +ℤ (pos c.from-above.result -ℤ pos 0)) ≡ committed_value schema t c.args.field.0 =
    omega (arith, ints, floor, room, c.from-above.ensures, place) in
    let low = to_z-of_z w64 c.args.lo c.ranges.lo in
    let high = to_z-of_z w64 c.args.hi c.ranges.hi in
    let told = rw (low, high) at c.lies_between.ensures in
    told ∙ ap (λ (v : ℤ). int_le c.args.lo v && int_le v c.args.hi) whole ∙ on_it (length schema.fields) c.args.field.0 _ below
