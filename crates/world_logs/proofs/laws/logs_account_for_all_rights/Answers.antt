use Rattle.world_logs.proofs.Conserved.{is_conserved, bounded}
use Rattle.world_logs.proofs.laws.logs_account_for_all_rights.Goals as goal

pub returns : goal.returns
returns c = record {
  conserved = λ schema logs good lawful within. is_conserved schema good logs lawful within;
  bounded = λ schema logs good lawful within f field_in. bounded schema logs (is_conserved schema good logs lawful within) f field_in;
}
