use Rattle.std.proofs.lemmas.Grind.{common_steps}
use Rattle.std.proofs.Common.{◌≡◌, ◌-◌, ◌+◌, ℕ, length, Option, Some, sym, ap, subst, ◌∙◌, arith, rules}
use Rattle.kept_records.specs.Logs.{AreGoodRecords}
use Rattle.kept_records.proofs.Walks.{bad_at_line, end_at_line, begins_size, ends_there, bad_there}
use Rattle.kept_records.proofs.log.read_front.Goals as goal
use Rattle.kept_records.proofs.log.read_front.Goals.{in-NoRecord, in-End}

pub returns-clause-front : goal.returns-clause-front
returns-clause-front c =
    let bytes = c.args.bytes.now in
    let left = c.lines.lines.left in
    let records = c.lines.records.items in
    let so_far = c.lines.invariant.front in
    let size : ℕ = length bytes - c.left.result in
    elim c.match-branch-4.branch [
      | in-NoRecord w ↦
          let bad = bad_at_line _ c.in_default.ensures.handed c.in_ok-next.ensures.handed w.in-NoRecord.is in
          let line : length records + 1 ≡ w.len.result + 1 = omega (arith, w.len.ensures, c.lines.records.ok.0) in
          subst (λ (found : Option ℕ). AreGoodRecords bytes records size found) (ap (λ (n : ℕ). Some n) line ∙ sym w.bad_line-is)
          (bad_there bytes records left size so_far bad.0)
      | in-End w ↦
          let none = end_at_line _ c.in_default.ensures.handed c.in_ok-next.ensures.handed w.in-End.is in
          subst (λ (found : Option ℕ). AreGoodRecords bytes records size found) (sym w.bad_line-is)
          (ends_there bytes records left size so_far none.0
          (omega (arith, c.left.ensures.value, ap length none.1, begins_size bytes records left so_far)))
    ]

pub lines-preserved-in-Some : goal.lines-preserved-in-Some
lines-preserved-in-Some c = grind (arith, common_steps)

pub overflow_add-bad_line : goal.overflow_add-bad_line
overflow_add-bad_line c = search rules
