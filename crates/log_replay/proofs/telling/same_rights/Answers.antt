use Rattle.std.proofs.Common.{◌≡◌, ◌≢◌, ◌∙◌, sym, length}
use Rattle.std.proofs.lemmas.Bool.{eqb-true, eqb-false}
use Rattle.log_replay.proofs.Told.{rights_over}
use Rattle.log_replay.proofs.telling.same_rights.Goals as goal
use Rattle.log_replay.proofs.telling.same_rights.Goals.{then-loop-left-test+else-not-is_empty, else-loop-left-test}

pub returns-else-is_empty : goal.returns-else-is_empty
returns-else-is_empty c =
    let left = c.loop-left.left.now in
    let right = c.loop-left.right.now in
    let some : length left ≢ 0 = eqb-false (length left) 0 (sym c.if-is_empty.ensures) in
    let none : length right ≡ 0 =
    elim c.loop-left-test.branch [
      | then-loop-left-test+else-not-is_empty w ↦ eqb-true (length right) 0 (sym w.is_empty-in-loop-left.ensures ∙ w.if-not-is_empty.false)
      | else-loop-left-test w ↦ absurd (some (eqb-true (length left) 0 (sym c.is_empty.ensures ∙ w.loop-left-test.false)))
    ] in
    c.if-is_empty.false ∙ rights_over left right some none ∙ c.loop-left.invariant
