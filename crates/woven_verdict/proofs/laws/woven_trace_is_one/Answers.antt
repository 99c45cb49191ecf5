use Rattle.woven_verdict.proofs.One.{one_trace}
use Rattle.woven_verdict.proofs.laws.woven_trace_is_one.Goals as goal

pub returns : goal.returns
returns c = record { only = one_trace }
