use Rattle.std.proofs.Common.{◌≡◌, ◌∙◌, ap, sym, Some, ℕ, ◌<◌, ◌≤◌, ◌+◌, ◌-◌, List, arith}
use Rattle.kept_records.specs.Reading.{rights_from}
use Rattle.kept_records.proofs.SummaryLoops.{rights_step, rights_none_lower, rights_none_raise, rights_none_sum, rights_end}
use Rattle.kept_records.proofs.summary_reading.take_rights.Goals as goal

pub returns-in_default : goal.returns-in_default
returns-in_default c =
    let some : 0 < c.loop-left.left = omega arith in
    rights_none_lower c.loop-left.left c.loop-left.held.items c.loop-left.words _ some c.in_default.ensures.value c.loop-left.invariant

pub returns-in_default-take_number : goal.returns-in_default-take_number
returns-in_default-take_number c =
    let some : 0 < c.loop-left.left = omega arith in
    rights_none_raise c.loop-left.left c.loop-left.held.items c.loop-left.words c.take_number.new.words c.in-Some.lower _ some
    c.in-Some.ensures.value c.in_default-take_number.ensures.value c.loop-left.invariant

pub returns-then-lower-raise-gt-MAX_CHANGE : goal.returns-then-lower-raise-gt-MAX_CHANGE
returns-then-lower-raise-gt-MAX_CHANGE c =
    let some : 0 < c.loop-left.left = omega arith in
    let many : 2_000_000_000_000_000 < c.in-Some.lower + c.in-Some-take_number.raise = omega arith in
    rights_none_sum c.loop-left.left c.loop-left.held.items c.loop-left.words c.take_number.new.words c.take_number-in-loop-left.new.words
    c.in-Some.lower c.in-Some-take_number.raise _ some c.in-Some.ensures.value c.in-Some-take_number.ensures.value many
    c.loop-left.invariant

pub loop-left-preserved : goal.loop-left-preserved
loop-left-preserved c =
    let some : 0 < c.loop-left.left = omega arith in
    let few : c.in-Some.lower + c.in-Some-take_number.raise ≤ 2_000_000_000_000_000 = omega arith in
    ap (λ (l : List (ℕ × ℕ)). rights_from (c.loop-left.left - 1) l c.take_number-in-loop-left.new.words) c.in_ok-push.ensures.items
    ∙ rights_step c.loop-left.left c.loop-left.held.items c.loop-left.words c.take_number.new.words c.take_number-in-loop-left.new.words
    c.in-Some.lower c.in-Some-take_number.raise _ some c.in-Some.ensures.value c.in-Some-take_number.ensures.value few
    c.loop-left.invariant

pub returns : goal.returns
returns c =
    let none : c.loop-left.left ≡ 0 = omega arith in
    rights_end c.loop-left.left c.loop-left.held.items c.loop-left.words _ none c.loop-left.invariant
    ∙ ap (λ (l : List (ℕ × ℕ)). Some (l, c.loop-left.words)) (sym c.new.ensures.all)
