use Rattle.std.proofs.Common.{rules}
use Rattle.std.proofs.lemmas.Result.{err_from_is_err_and}
use Rattle.escrow_audit.proofs.Told.{Fails-write}
use Rattle.escrow_audit.proofs.answer.audit_text.Goals as goal

pub returns-in_err-write_out-clause-fault : goal.returns-in_err-write_out-clause-fault
returns-in_err-write_out-clause-fault g c =
    let p = err_from_is_err_and c.from_residual-in_err-write_out.result c.from_residual-in_err-write_out.ensures.1 in
    rw (p.1, p.2, c.in_err-write_out.ensures.fault)
    (Fails-write _ _ _ _ _ _ _ _ c.in_ok-end.ensures.ok c.as_bytes.ensures.value c.in_err-write_out.ensures.front)

pub returns-clause-fault : goal.returns-clause-fault
returns-clause-fault g c = tt

pub returns-clause-read : goal.returns-clause-read
returns-clause-read g c = tt

pub returns-clause-write : goal.returns-clause-write
returns-clause-write g c = tt

pub returns-clause-reads : goal.returns-clause-reads
returns-clause-reads g c = search rules

pub returns-clause-writes : goal.returns-clause-writes
returns-clause-writes g c = search rules
