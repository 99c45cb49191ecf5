use Rattle.std.proofs.Common.{refl, sym, ◌∙◌, reverse}
use Rattle.std.proofs.lemmas.List.{length-map}
use Rattle.trace_weave.specs.Weave.{lists_of}
use Rattle.trace_weave.proofs.Turns.{turns_at, fewer_left, ends_whole, ends_stuck, seen_reached, reaches}
use Rattle.trace_weave.proofs.weaving.weave.Goals as goal

pub loop-site-smaller : goal.loop-site-smaller
loop-site-smaller c =
    fewer_left (lists_of c.args.histories.now) c.loop-site.counts.items _ _ c.in-Some.site _ _
    (sym c.loop-site.counts.ok.0 ∙ (c.loop-site.invariant.len ∙ sym (length-map c.args.histories.now _))) c.as_slice.ensures.value
    c.index_mut.ensures.value
    (c.in-Some.ensures.some (reverse c.loop-site.trace.items)
    (seen_reached _ _ _ _ _ _ c.as_slice.ensures.value c.loop-site.invariant.reached))

pub loop-site-preserved : goal.loop-site-preserved
loop-site-preserved c =
    let turned = c.in-Some.ensures.some (reverse c.loop-site.trace.items)
    (seen_reached _ _ _ _ _ _ c.as_slice.ensures.value c.loop-site.invariant.reached) in record {
      len = c.loop-site.invariant.len;
      reached =
          reaches (lists_of c.args.histories.now) c.loop-site.counts.items _ _ _ c.loop-site.trace.items _ c.in-Some.site _ _ _
          c.as_slice.ensures.value c.in_ok-push.ensures.items turned c.loop-site.invariant.reached.knows
          c.in_ok-insert_issued.ensures.ok
          c.next_look-from.ensures;
      woven =
          turns_at (lists_of c.args.histories.now) c.loop-site.counts.items _ c.loop-site.trace.items _ _ c.in-Some.site _ _
          (sym c.loop-site.counts.ok.0 ∙ (c.loop-site.invariant.len ∙ sym (length-map c.args.histories.now _))) c.as_slice.ensures.value
          refl
          c.in_ok-push.ensures.items
          c.index_mut.ensures.value
          turned
          c.loop-site.invariant.woven;
    }

pub returns-in-Some-first_left-clause-stuck : goal.returns-in-Some-first_left-clause-stuck
returns-in-Some-first_left-clause-stuck c =
    ends_stuck (lists_of c.args.histories.now) c.loop-site.counts.items _ _ c.loop-site.trace.items _ c.in-Some-first_left.site _
    (sym c.loop-site.counts.ok.0 ∙ (c.loop-site.invariant.len ∙ sym (length-map c.args.histories.now _))) c.as_slice.ensures.value
    c.as_slice-2.ensures.value
    refl
    c.index.ensures
    c.in-Some-first_left.ensures.some
    (c.in_default.ensures.none (reverse c.loop-site.trace.items)
    (seen_reached _ _ _ _ _ _ c.as_slice.ensures.value c.loop-site.invariant.reached))
    c.loop-site.invariant.woven

pub returns-clause-lowest : goal.returns-clause-lowest
returns-clause-lowest c = ends_whole (lists_of c.args.histories.now) c.loop-site.counts.items _ _ c.as_slice-2.ensures.value
    c.in-None.ensures.none c.loop-site.invariant.woven

pub returns-clause-woven : goal.returns-clause-woven
returns-clause-woven c =
    let made = ends_whole (lists_of c.args.histories.now) c.loop-site.counts.items _ _ c.as_slice-2.ensures.value c.in-None.ensures.none
    c.loop-site.invariant.woven in
    (made.picks, made.picked, made.whole)
