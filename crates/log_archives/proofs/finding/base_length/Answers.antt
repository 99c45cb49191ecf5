use Rattle.std.proofs.Common.{◌≡◌, ◌-◌, ◌∷◌, [], ℕ, length, ap, inr, arith}
use Rattle.kept_records.specs.Stands.{plain}
use Rattle.kept_records.proofs.Walks.{at_line, bad_at_line}
use Rattle.log_archives.proofs.Finds.{base_size, missing_first}
use Rattle.log_archives.proofs.finding.base_length.Goals as goal

pub returns-in-NoRecord-clause-none : goal.returns-in-NoRecord-clause-none
returns-in-NoRecord-clause-none c =
    let bad = bad_at_line _ c.new-lines.ensures.all c.in_ok-first.ensures.handed c.in-NoRecord.is in
    missing_first c.args.bytes.now (inr bad.0)

pub returns-clause-some : goal.returns-clause-some
returns-clause-some c =
    let left = c.next_line.new.self.left in
    let at = at_line _ c.new-lines.ensures.all c.in_ok-first.ensures.handed c.in-Record.is in
    let none : length (plain (c.in-Record.first ∷ [])) ≡ 0 = omega (arith, c.if-plain_count-gt0.false, c.plain_count.ensures.value) in
    base_size c.args.bytes.now left c.in-Record.first at none (length c.args.bytes.now - c.left.result)
    (ap (λ (n : ℕ). length c.args.bytes.now - n) c.left.ensures.value)
