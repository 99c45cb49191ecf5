use Rattle.std.proofs.Common.{ℕ, get_or, refl}
use Rattle.kept_records.proofs.Spaced.{rights_pushed}
use Rattle.kept_records.proofs.writing.push_rights.Goals as goal

pub loop-row-preserved : goal.loop-row-preserved
loop-row-preserved c =
    let none : ℕ × ℕ = (0, 0) in
    let rs = c.args.rights.now in
    let i = c.loop-row.row-index in
    let r : ℕ × ℕ = get_or rs i none in
    rights_pushed c.args.line.now.items c.loop-row.line.items c.push_number.new.line.items c.push_number-in-loop-row.new.line.items rs i r
    none c.loop-row-test.true refl c.loop-row.invariant c.in_ok-push_number.ensures c.in_ok-push_number-2.ensures
