use Rattle.std.proofs.Common.{◌≡◌, ◌<◌, ◌≤◌, ◌-◌, ◌+◌, ◌^◌, ℕ, List, length, take, drop, sym, ap, subst, ◌∙◌, arith}
use Rattle.std.proofs.lemmas.List.{length-take, length-drop}
use Rattle.kept_records.specs.Cursor.{HandsSummary}
use Rattle.kept_records.proofs.Windows.{place_in, behind_in, kept_start, lines_are, last_from, kept_behind, stand_behind, whole_is}
use Rattle.kept_records.proofs.reading_back.take_end.Goals as goal

skipped : (place size len window : ℕ) → place ≤ size → len ≡ window → place - (size - len) ≤ window
skipped place size len window placed same = omega (arith, placed, same)

inside : (window : List ℕ) (start size : ℕ) → start ≤ length window → size ≤ length (take (length window - start) (drop start window))
    → start + size ≤ length window
inside window start size within few = omega (arith, within, few, length-take (length window - start) (drop start window), length-drop start window)

pub first_summary-requires : goal.first_summary-requires
first_summary-requires c =
    let held = c.requires.ends in
    let end = c.args.end in
    let window = c.deref-2.result.now in
    let from : ℕ = end.length - c.len.result in
    let long : length window ≡ length end.bytes.items = ap length c.deref-2.ensures.value in
    let from_is : from ≡ end.length - length window = omega (arith, c.len.ensures, end.bytes.ok, long) in
    let few : end.length < 2 ^ 64 = omega arith in
    let same : window ≡ c.deref.result.now = c.deref-2.ensures.value ∙ sym c.deref.ensures.value in
    record {
      log = kept_start held.0 window held.1 c.args.place from end.length
          (c.deref-2.ensures.value ∙ held.2.window) held.2.size from_is few held.2.parts c.in-Some.start
          (rw (sym same) at c.in-Some.ensures.start);
    }

pub read_log_bytes-requires : goal.read_log_bytes-requires
read_log_bytes-requires c =
    let held = c.requires.ends in
    let end = c.args.end in
    let window = c.deref-3.result.now in
    let from : ℕ = end.length - c.len.result in
    let long : length window ≡ length end.bytes.items = ap length c.deref-3.ensures.value in
    let from_is : from ≡ end.length - length window = omega (arith, c.len.ensures, end.bytes.ok, long) in
    let few : end.length < 2 ^ 64 = omega arith in
    record {
      log = kept_behind held.0 window held.1 c.args.place from end.length
          (c.deref-3.ensures.value ∙ held.2.window) held.2.size from_is few held.2.parts c.if-place-from.false;
    }

pub returns-clause-reads : goal.returns-clause-reads
returns-clause-reads c = λ bytes most is.
    let end = c.args.end in
    let window = c.deref-2.result.now in
    let other = c.deref-3.result.now in
    let start = c.in-Some.start in
    let size = c.in_ok-summary.size in
    let summary = c.in_ok-summary.summary in
    let from : ℕ = end.length - c.len.result in
    let long : length window ≡ length end.bytes.items = ap length c.deref-2.ensures.value in
    let from_is : from ≡ end.length - length window = omega (arith, c.len.ensures, end.bytes.ok, long) in
    let long_other : length other ≡ length end.bytes.items = ap length c.deref-3.ensures.value in
    let from_other : from ≡ end.length - length other = omega (arith, c.len.ensures, end.bytes.ok, long_other) in
    let few : end.length < 2 ^ 64 = omega arith in
    let same : window ≡ c.deref.result.now = c.deref-2.ensures.value ∙ sym c.deref.ensures.value in
    let within = c.if-place-from.false in
    let at_window = c.deref-2.ensures.value ∙ is.window in
    let at_other = c.deref-3.ensures.value ∙ is.window in
    let which = rw (sym same) at c.in-Some.ensures.start in
    let slice = take (length window - start) (drop start window) in
    let lines : drop size slice ≡ drop (start + size) end.bytes.items =
    lines_are bytes window most c.args.place from end.length at_window is.size from_is few is.parts start which size
    ∙ ap (λ (l : List ℕ). drop (start + size) l) c.deref-2.ensures.value in
    record {
      last = last_from bytes window most c.args.place from end.length at_window is.size from_is few is.parts start which summary
          (drop (start + size) end.bytes.items)
          (rw (sym same) at c.in-Some.ensures.within) (rw (sym same) at c.in-Some.ensures.last)
          (subst (λ (l : List ℕ). HandsSummary slice summary l) lines c.in_ok-summary.ensures.handed);
      behind = stand_behind bytes other most c.args.place from end.length at_other is.size from_other few is.parts within
          c.in_ok-behind.behind.items c.in_ok-behind.length c.in_ok-behind.ensures.only;
      whole = whole_is bytes other most c.args.place from end.length at_other is.size from_other few is.parts within
          c.in_ok-behind.behind.items c.in_ok-behind.length c.in_ok-behind.ensures.only
          c.in_ok-behind.ensures.whole;
      present = is.size;
      within = behind_in bytes other most c.args.place from end.length at_other is.size from_other few is.parts c.in_ok-behind.length within
          c.in_ok-behind.ensures.within;
    }

pub slice_bounds-read_log_bytes-start : goal.slice_bounds-read_log_bytes-start
slice_bounds-read_log_bytes-start c =
    let held = c.requires.ends in
    let end = c.args.end in
    let window = c.deref-3.result.now in
    let from : ℕ = end.length - c.len.result in
    let long : length window ≡ length end.bytes.items = ap length c.deref-3.ensures.value in
    let from_is : from ≡ end.length - length window = omega (arith, c.len.ensures, end.bytes.ok, long) in
    let few : end.length < 2 ^ 64 = omega arith in
    let at_window = c.deref-3.ensures.value ∙ held.2.window in
    let placed = place_in held.0 window held.1 c.args.place from end.length at_window held.2.size from_is few held.2.parts in
    skipped c.args.place end.length c.len.result (length window) placed (omega (arith, c.len.ensures, end.bytes.ok, long))

pub overflow_add-whole : goal.overflow_add-whole
overflow_add-whole c =
    let held = c.requires.ends in
    let end = c.args.end in
    let window = c.deref-3.result.now in
    let from : ℕ = end.length - c.len.result in
    let long : length window ≡ length end.bytes.items = ap length c.deref-3.ensures.value in
    let from_is : from ≡ end.length - length window = omega (arith, c.len.ensures, end.bytes.ok, long) in
    let few : end.length < 2 ^ 64 = omega arith in
    let at_window = c.deref-3.ensures.value ∙ held.2.window in
    let within = behind_in held.0 window held.1 c.args.place from end.length at_window held.2.size from_is few held.2.parts
    c.in_ok-behind.length c.if-place-from.false c.in_ok-behind.ensures.within in
    omega (arith, within, few)

pub overflow_add-lines_start : goal.overflow_add-lines_start
overflow_add-lines_start c =
    let end = c.args.end in
    let window = c.deref-2.result.now in
    let long : length window ≡ length end.bytes.items = ap length c.deref-2.ensures.value in
    let same : window ≡ c.deref.result.now = c.deref-2.ensures.value ∙ sym c.deref.ensures.value in
    let in_window = inside window c.in-Some.start c.in_ok-summary.size (rw (sym same) at c.in-Some.ensures.within)
    c.in_ok-summary.ensures.within in
    omega (arith, in_window, long, end.bytes.ok)

pub invariant_of-lines : goal.invariant_of-lines
invariant_of-lines c =
    let end = c.args.end in
    let window = c.deref-2.result.now in
    let long : length window ≡ length end.bytes.items = ap length c.deref-2.ensures.value in
    let same : window ≡ c.deref.result.now = c.deref-2.ensures.value ∙ sym c.deref.ensures.value in
    let in_window = inside window c.in-Some.start c.in_ok-summary.size (rw (sym same) at c.in-Some.ensures.within)
    c.in_ok-summary.ensures.within in
    omega (arith, in_window, long)

pub overflow_sub-from : goal.overflow_sub-from
overflow_sub-from c =
    let held = c.requires.ends in
    omega (
      arith,
      c.len.ensures,
      c.args.end.bytes.ok,
      ap length held.2.window,
      length-drop (length held.0 - held.1) held.0,
      held.2.size,
    )

pub slice_bounds-first_summary-start : goal.slice_bounds-first_summary-start
slice_bounds-first_summary-start c =
    let same : c.deref-2.result.now ≡ c.deref.result.now = c.deref-2.ensures.value ∙ sym c.deref.ensures.value in
    rw (sym same) at c.in-Some.ensures.within
