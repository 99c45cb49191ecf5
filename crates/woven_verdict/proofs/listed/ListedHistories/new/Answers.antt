use Rattle.std.proofs.Common.{refl}
use Rattle.trace_weave.proofs.Orders.{zeros_of}
use Rattle.woven_verdict.proofs.listed.ListedHistories.new.Goals as goal

pub returns : goal.returns
returns c = record {
  all = record {
    all = refl;
    taken = zeros_of c.args.histories.now c.in_ok-counts.counts.items (c.in_ok-counts.ensures.items_if_clones_equal (λ y is. is));
  };
}
