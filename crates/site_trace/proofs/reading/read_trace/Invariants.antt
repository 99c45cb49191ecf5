use Rattle.std.proofs.Common.{length}
use Rattle.site_trace.proofs.Traced.{IsReadTo}
use Rattle.site_trace.proofs.reading.read_trace.Given as goal

abbrev pub invariant-loop-line : goal.invariant-loop-line
invariant-loop-line l = IsReadTo l.schema l.bytes l.rest l.entries.items l.length l.number

abbrev pub decreases-loop-line : goal.decreases-loop-line
decreases-loop-line l = length l.rest
