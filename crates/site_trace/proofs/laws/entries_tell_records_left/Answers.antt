use Rattle.site_trace.proofs.Counting.{count_left, cut_leaves}
use Rattle.site_trace.proofs.laws.entries_tell_records_left.Goals as goal

pub returns : goal.returns
returns c = record { left = count_left; cut = cut_leaves }
