use Rattle.std.proofs.Common.{refl, sym, ◌∙◌, reverse, rules}
use Rattle.std.proofs.lemmas.List.{length-map}
use Rattle.trace_weave.specs.Weave.{lists_of}
use Rattle.trace_weave.specs.Order.{taken_by}
use Rattle.trace_weave.proofs.Turns.{fewer_left, ends_whole, ends_stuck, seen_reached}
use Rattle.trace_weave.proofs.Orders.{none_taken, zeros_of, taken_each, begins_order, orders_more}
use Rattle.trace_weave.proofs.order.weave_order.Goals as goal

pub loop-site-init : goal.loop-site-init
loop-site-init c = record {
  len = search rules;
  ordered =
      begins_order (lists_of c.args.histories.now) c.in_ok-counts.counts.items c.new-order.result.items c.new-issued.result
      (zeros_of c.args.histories.now c.in_ok-counts.counts.items (c.in_ok-counts.ensures.items_if_clones_equal (λ y is. is)))
      c.new-order.ensures.items
      c.new-issued.ensures.none;
}

pub loop-site-smaller : goal.loop-site-smaller
loop-site-smaller c =
    fewer_left (lists_of c.args.histories.now) c.loop-site.counts.items _ _ c.in-Some.site _ _
    (sym c.loop-site.counts.ok.0 ∙ (c.loop-site.invariant.len ∙ sym (length-map c.args.histories.now _))) c.as_slice.ensures.value
    c.index_mut.ensures.value
    (c.in-Some.ensures.some (reverse (taken_by (lists_of c.args.histories.now) c.loop-site.order.items))
    (seen_reached _ _ _ _ _ _ c.as_slice.ensures.value c.loop-site.invariant.ordered.reached))

pub loop-site-preserved : goal.loop-site-preserved
loop-site-preserved c = record {
  len = c.loop-site.invariant.len;
  ordered =
      orders_more (lists_of c.args.histories.now) c.loop-site.counts.items _ c.loop-site.order.items _ _ _ c.in-Some.site _ _ _ _
      (sym c.loop-site.counts.ok.0 ∙ (c.loop-site.invariant.len ∙ sym (length-map c.args.histories.now _)))
      c.as_slice.ensures.value
      c.in_ok-push.ensures.items
      c.index_mut.ensures.value
      (c.in-Some.ensures.some (reverse (taken_by (lists_of c.args.histories.now) c.loop-site.order.items))
      (seen_reached _ _ _ _ _ _ c.as_slice.ensures.value c.loop-site.invariant.ordered.reached))
      c.in_ok-insert_issued.ensures.ok
      c.next_look-from.ensures
      c.loop-site.invariant.ordered;
}

pub returns-in-Some-first_left-clause-stuck : goal.returns-in-Some-first_left-clause-stuck
returns-in-Some-first_left-clause-stuck c =
    let hs = lists_of c.args.histories.now in
    ends_stuck hs c.loop-site.counts.items _ _ (taken_by hs c.loop-site.order.items) _ c.in-Some-first_left.site _
    (sym c.loop-site.counts.ok.0 ∙ (c.loop-site.invariant.len ∙ sym (length-map c.args.histories.now _))) c.as_slice.ensures.value
    c.as_slice-2.ensures.value
    refl
    c.index.ensures
    c.in-Some-first_left.ensures.some
    (c.in_default.ensures.none (reverse (taken_by hs c.loop-site.order.items))
    (seen_reached _ _ _ _ _ _ c.as_slice.ensures.value c.loop-site.invariant.ordered.reached))
    c.loop-site.invariant.ordered.woven

pub returns-clause-each : goal.returns-clause-each
returns-clause-each c =
    let hs = lists_of c.args.histories.now in
    taken_each hs (none_taken hs) c.loop-site.order.items c.loop-site.counts.items c.loop-site.invariant.ordered.taken

pub returns-clause-lowest : goal.returns-clause-lowest
returns-clause-lowest c = ends_whole (lists_of c.args.histories.now) c.loop-site.counts.items _ _ c.as_slice-2.ensures.value
    c.in-None.ensures.none c.loop-site.invariant.ordered.woven

pub returns-clause-woven : goal.returns-clause-woven
returns-clause-woven c =
    let made = ends_whole (lists_of c.args.histories.now) c.loop-site.counts.items _ _ c.as_slice-2.ensures.value c.in-None.ensures.none
    c.loop-site.invariant.ordered.woven in
    (made.picks, made.picked, made.whole)
