use Rattle.std.proofs.Common.{length}
use Rattle.site_trace.proofs.KeptFronts.{HoldTo}
use Rattle.site_trace.proofs.keeping.read_entries.Given as goal

abbrev pub invariant-loop-line : goal.invariant-loop-line
invariant-loop-line l = HoldTo l.schema l.bytes l.rest l.entries.items l.number

abbrev pub decreases-loop-line : goal.decreases-loop-line
decreases-loop-line l = length l.rest
