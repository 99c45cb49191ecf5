use Rattle.escrow_audit.proofs.OneAnswer.{only_answer}
use Rattle.escrow_audit.proofs.laws.one_answer.Goals as goal

pub returns : goal.returns
returns c = record { only = λ read end other text again a b. only_answer read (Unit {0}) end other text again a b }
