use Rattle.std.proofs.Common.{◌≡◌, List, reverse, length, get_or, true, false, sym, ap, ◌∙◌, arith}
use Rattle.std.proofs.lemmas.List.{reverse-reverse}
use Rattle.field_bounds.specs.declared.entry.Entry.{Entry}
use Rattle.site_desk.proofs.Checks.{differs_at, twice_at, checks_next, missing_at, seen_at}
use Rattle.site_desk.proofs.receipts.check_receipts.Goals as goal

oldest_first : (shown h : List Entry) → reverse shown ≡ h → shown ≡ reverse h
oldest_first shown h e = sym (reverse-reverse shown) ∙ ap (λ (l : List Entry). reverse l) e

pub returns-in_default-place_of-clause-fault : goal.returns-in_default-place_of-clause-fault
returns-in_default-place_of-clause-fault g c =
    differs_at _ _ _ _ c.args.receipts.now c.loop-receipt.receipt-index _ c.loop-receipt.seen.items _ _ c.site-own.ensures.value
    (oldest_first _ _ c.history-history.ensures.value) c.loop-receipt-test.true c.site-site.ensures.value c.number-number.ensures.value
    c.in_default-place_of.ensures.none c.loop-receipt.invariant.checked

pub returns-then-index-clause-fault : goal.returns-then-index-clause-fault
returns-then-index-clause-fault g c =
    let a = c.in-Some.ensures.some in
    let sizes : length c.loop-receipt.seen.items ≡ length c.history-history.result.now =
    sym c.loop-receipt.seen.ok.0 ∙ c.loop-receipt.invariant.len in
    let marked : get_or c.loop-receipt.seen.items c.in-Some.place false ≡ true =
    seen_at c.loop-receipt.seen.items c.in-Some.place c.index.result.now (omega arith) c.index.ensures ∙ c.if-index.true in
    twice_at _ _ _ _ c.args.receipts.now c.loop-receipt.receipt-index _ c.loop-receipt.seen.items _ _ c.in-Some.place
    c.site-own.ensures.value (oldest_first _ _ c.history-history.ensures.value) c.loop-receipt-test.true c.site-site.ensures.value
    c.number-number.ensures.value a.0 a.1 marked c.loop-receipt.invariant.checked

pub loop-receipt-preserved : goal.loop-receipt-preserved
loop-receipt-preserved g c =
    let a = c.in-Some.ensures.some in
    let sizes : length c.loop-receipt.seen.items ≡ length c.history-history.result.now =
    sym c.loop-receipt.seen.ok.0 ∙ c.loop-receipt.invariant.len in
    let unmarked : get_or c.loop-receipt.seen.items c.in-Some.place false ≡ false =
    seen_at c.loop-receipt.seen.items c.in-Some.place c.index.result.now (omega arith) c.index.ensures ∙ c.if-index.false in
    record {
      len = c.loop-receipt.invariant.len;
      checked = checks_next _ _ c.args.receipts.now c.loop-receipt.receipt-index _ c.loop-receipt.seen.items c.in-Some.place
          c.loop-receipt-test.true (omega arith) a.1 a.0 unmarked c.loop-receipt.invariant.checked;
    }

pub returns-in-Some-first_unmarked-clause-fault : goal.returns-in-Some-first_unmarked-clause-fault
returns-in-Some-first_unmarked-clause-fault g c =
    missing_at _ _ _ _ c.args.receipts.now c.loop-receipt.receipt-index c.loop-receipt.seen.items _ _ c.site-own.ensures.value
    (oldest_first _ _ c.history-history.ensures.value) c.loop-receipt-test.false c.as_slice.ensures.value
    (sym c.loop-receipt.seen.ok.0 ∙ c.loop-receipt.invariant.len) c.in-Some-first_unmarked.ensures.some
    c.loop-receipt.invariant.checked
