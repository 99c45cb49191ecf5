use Rattle.sealed_text.proofs.Stops.{one_list, end_not_torn}
use Rattle.sealed_text.proofs.laws.no_two_lists_have_one_text.Goals as goal

pub returns : goal.returns
returns c = record { batches = one_list; ends = end_not_torn }
