use Rattle.std.proofs.Common.{rules, refl}
use Rattle.statement_set.proofs.Told.{filed_first}
use Rattle.statement_set.proofs.rows.Rows.open.Goals as goal

pub returns-in_ok-self-clause-filed : goal.returns-in_ok-self-clause-filed
returns-in_ok-self-clause-filed c = filed_first c.args.self.now _ c.requires.filed (search rules) refl
