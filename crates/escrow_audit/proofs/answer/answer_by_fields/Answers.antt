use Rattle.std.proofs.Common.{true}
use Rattle.std.proofs.lemmas.Result.{err_from_is_err_and}
use Rattle.escrow_audit.proofs.Entries.{faults_no_memory}
use Rattle.escrow_audit.proofs.Told.{wants_found}
use Rattle.escrow_audit.proofs.answer.answer_by_fields.Goals as goal

pub returns-in_err-judge_kept-in-Entries-clause-fault : goal.returns-in_err-judge_kept-in-Entries-clause-fault
returns-in_err-judge_kept-in-Entries-clause-fault g c =
    let p = err_from_is_err_and c.from_residual-in_err-judge_kept-in-Entries.result c.from_residual-in_err-judge_kept-in-Entries.ensures.1 in
    rw (p.1, p.2) (faults_no_memory true _ _ _ c.in_ok-schema.ensures.no_further)

pub returns-in_err-bad_entry-in-BadEntry-clause-fault : goal.returns-in_err-bad_entry-in-BadEntry-clause-fault
returns-in_err-bad_entry-in-BadEntry-clause-fault g c =
    let p = err_from_is_err_and c.from_residual-in_err-bad_entry-in-BadEntry.result
    c.from_residual-in_err-bad_entry-in-BadEntry.ensures.1 in
    rw (p.1, p.2) (faults_no_memory true _ _ _ c.in_ok-schema.ensures.no_further)

pub returns-in_err-judge_kept-in-Entries-clause-memory : goal.returns-in_err-judge_kept-in-Entries-clause-memory
returns-in_err-judge_kept-in-Entries-clause-memory g c =
    let p = err_from_is_err_and c.from_residual-in_err-judge_kept-in-Entries.result c.from_residual-in_err-judge_kept-in-Entries.ensures.1 in
    rw (p.1, p.2) (λ e. wants_found _ true _ _ _ _ c.in_ok-schema.ensures.ok)

pub returns-in_err-bad_entry-in-BadEntry-clause-memory : goal.returns-in_err-bad_entry-in-BadEntry-clause-memory
returns-in_err-bad_entry-in-BadEntry-clause-memory g c =
    let p = err_from_is_err_and c.from_residual-in_err-bad_entry-in-BadEntry.result c.from_residual-in_err-bad_entry-in-BadEntry.ensures.1 in
    rw (p.1, p.2) (λ e. wants_found _ true _ _ _ _ c.in_ok-schema.ensures.ok)
