use Rattle.kept_records.proofs.Told.{lawful_tells}
use Rattle.kept_records.proofs.laws.summary_tells_what_stands.Goals as goal

pub returns : goal.returns
returns c = record { tells = λ schema s rs v may. lawful_tells schema s rs v may }
