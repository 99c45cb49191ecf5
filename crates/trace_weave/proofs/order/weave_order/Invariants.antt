use Rattle.std.proofs.Common.{◌≡◌, vec_len, length}
use Rattle.trace_weave.specs.Weave.{lists_of}
use Rattle.trace_weave.specs.Turn.{left_of}
use Rattle.trace_weave.proofs.Orders.{IsOrdered}
use Rattle.trace_weave.proofs.order.weave_order.Given as goal

abbrev pub invariant-loop-site : goal.invariant-loop-site
invariant-loop-site l = record {
  len : vec_len l.counts ≡ length l.histories;
  ordered : IsOrdered (lists_of l.histories) l.counts.items l.order.items l.issued l.from;
}

abbrev pub decreases-loop-site : goal.decreases-loop-site
decreases-loop-site l = left_of (lists_of l.histories) l.counts.items
