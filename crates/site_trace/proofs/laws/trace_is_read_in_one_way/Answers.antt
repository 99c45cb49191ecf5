use Rattle.site_trace.proofs.Longest.{one_trace, never_refused}
use Rattle.site_trace.proofs.laws.trace_is_read_in_one_way.Goals as goal

pub returns : goal.returns
returns c = record { one = one_trace; never = never_refused }
