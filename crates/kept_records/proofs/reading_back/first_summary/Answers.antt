use Rattle.std.proofs.Common.{◌-◌, List, ℕ, length, ap, subst}
use Rattle.kept_records.specs.Cursor.{HandsSummary}
use Rattle.kept_records.proofs.Cursors.{handed_left}
use Rattle.kept_records.proofs.reading_back.first_summary.Goals as goal

pub returns-clause-handed : goal.returns-clause-handed
returns-clause-handed c =
    let bytes = c.args.bytes.now in
    let left = c.next_summary.new.self in
    handed_left bytes left c.in_ok-summary.summary (length bytes - c.left.result)
    (subst (λ (l : List ℕ). HandsSummary l c.in_ok-summary.summary left) c.new-cursor.ensures.all c.in_ok-summary.ensures.handed)
    (ap (λ (n : ℕ). length bytes - n) c.left.ensures.value)
