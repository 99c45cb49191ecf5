use Rattle.std.proofs.Common.{◌++◌, ◌∷◌}
use Rattle.kept_records.specs.Summary.{summary_record}
use Rattle.log_bases.proofs.Alike.{alike_base, behind_pasts}
use Rattle.log_bases.proofs.laws.pasts_answer_alike.Goals as goal

pub returns : goal.returns
returns c = record {
  base = λ schema s told p q rs up is_p is_q lawful.
      alike_base schema s (p ++ summary_record told ∷ rs) (q ++ summary_record told ∷ rs) (behind_pasts schema s told p q is_p is_q rs lawful).alike up;
  follow = λ schema s told p q rs is_p is_q lawful. (behind_pasts schema s told p q is_p is_q rs lawful).lawful;
}
