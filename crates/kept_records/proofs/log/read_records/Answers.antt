use Rattle.std.proofs.Common.{◌≡◌, ℕ, Option, subst, Some}
use Rattle.kept_records.specs.Logs.{AreGoodRecords}
use Rattle.kept_records.proofs.Lines.{no_log}
use Rattle.kept_records.proofs.log.read_records.Goals as goal

pub returns-in-Some-clause-no_log : goal.returns-in-Some-clause-no_log
returns-in-Some-clause-no_log c =
    let front = c.in_ok-front.front in
    let is : front.bad_line ≡ Some c.in-Some.line = cc in
    let bad : AreGoodRecords c.args.bytes.now front.records.items front.length (Some c.in-Some.line) =
    subst (λ (found : Option ℕ). AreGoodRecords c.args.bytes.now front.records.items front.length found) is c.in_ok-front.ensures.front in
    no_log c.args.bytes.now c.in-Some.line bad.0
