use Rattle.std.proofs.Common.{sym, ap}
use Rattle.trace_weave.specs.Weave.{lists_of}
use Rattle.trace_weave.specs.Order.{taken_from}
use Rattle.trace_weave.proofs.Orders.{zeros_of}
use Rattle.trace_weave.proofs.walk.WovenEntries.new.Goals as goal

pub returns : goal.returns
returns c = record {
  all =
      ap (λ counts. taken_from (lists_of c.args.histories.now) counts c.args.order.items)
      (sym (zeros_of c.args.histories.now c.in_ok-counts.counts.items (c.in_ok-counts.ensures.items_if_clones_equal (λ y is. is))));
}
