use Rattle.escrow_run.proofs.OneText.{only_text}
use Rattle.escrow_run.proofs.laws.one_text.Goals as goal

pub returns : goal.returns
returns c = record {
  only = λ schema other steps others lines text again has had.
      only_text schema other steps others lines text again has had;
}
