use Rattle.kept_records.proofs.Lines.{begins}
use Rattle.kept_records.proofs.laws.no_text_begins_another.Goals as goal

pub returns-clause-same : goal.returns-clause-same
returns-clause-same c = λ r s more p q e. (begins r s more p q e).0

pub returns-clause-whole : goal.returns-clause-whole
returns-clause-whole c = λ r s more p q e. (begins r s more p q e).1
