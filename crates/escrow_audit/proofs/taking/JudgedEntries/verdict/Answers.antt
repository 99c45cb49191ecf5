use Rattle.escrow_audit.proofs.Judged.{none_legal}
use Rattle.escrow_audit.proofs.taking.JudgedEntries.verdict.Goals as goal

pub returns-in-Fresh-clause-verdict : goal.returns-in-Fresh-clause-verdict
returns-in-Fresh-clause-verdict c = λ schema entries are. none_legal schema entries c.args.self.now c.in-Fresh.is are
