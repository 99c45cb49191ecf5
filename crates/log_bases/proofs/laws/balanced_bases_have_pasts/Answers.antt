use Rattle.log_bases.proofs.AllFields.{past_is}
use Rattle.log_bases.proofs.Needed.{past_balances}
use Rattle.log_bases.proofs.laws.balanced_bases_have_pasts.Goals as goal

pub returns : goal.returns
returns c = record {
  some = λ schema s base good site_in is. past_is schema good s site_in base is;
  only = λ schema s base past good site_in is. past_balances schema good s site_in base past is;
}
