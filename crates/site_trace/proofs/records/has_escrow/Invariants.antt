use Rattle.std.proofs.Common.{◌≡◌, length, map, reverse}
use Rattle.site_trace.specs.Records.{has_escrow}
use Rattle.site_trace.proofs.records.has_escrow.Given as goal

abbrev pub invariant-loop-last : goal.invariant-loop-last
invariant-loop-last g l =
    has_escrow l.txn (reverse (map g.T.TellsEntry.told l.before)) ≡ has_escrow l.txn (reverse (map g.T.TellsEntry.told l.left))

abbrev pub decreases-loop-last : goal.decreases-loop-last
decreases-loop-last g l = length l.left
