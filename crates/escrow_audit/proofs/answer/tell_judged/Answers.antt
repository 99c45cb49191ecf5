use Rattle.std.proofs.Common.{◌≡◌, ℕ, List, length, ap, ◌∙◌, subst}
use Rattle.std.specs.Prelude.{IfOk, string_bytes}
use Rattle.central_rules.specs.declared.verdict.Verdict.{Verdict}
use Rattle.escrow_audit.specs.Audit.{verdict_text}
use Rattle.escrow_audit.proofs.Judged.{text_read}
use Rattle.escrow_audit.proofs.answer.tell_judged.Goals as goal

pub returns-clause-text : goal.returns-clause-text
returns-clause-text c = λ schema entries are.
    let verdict = c.in_ok-verdict.ensures.verdict schema entries are in
    let count = c.in_ok-verdict.ensures.count schema entries are in
    subst (λ (l : List ℕ). IfOk c.tell.result (λ told. string_bytes told.1 ≡ l))
    (
    ap (verdict_text c.in_ok-verdict.verdict) count ∙ text_read c.in_ok-verdict.verdict (length entries)
    ∙ ap (λ (v : Verdict). verdict_text v (length entries)) verdict
    )
    c.tell.ensures.text
