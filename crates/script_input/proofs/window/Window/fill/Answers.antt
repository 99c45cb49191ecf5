use Rattle.std.proofs.Common.{◌≡◌, ◌+◌, ◌-◌, ◌≤◌, ◌++◌, length, take, slice_range, sym, ap, ◌∙◌, arith}
use Rattle.std.proofs.lemmas.List.{with_items_is}
use borrow.Rule.Slice.PartMut.{post_of}
use Rattle.script_input.proofs.WindowLemmas.{rest_size, rest_grown, rest_kept, grown_size}
use Rattle.script_input.proofs.window.Window.fill.Goals as goal

pub returns-in-Ok-clause-ok : goal.returns-in-Ok-clause-ok
returns-in-Ok-clause-ok g c =
    let w = c.make_room.new.self in
    let bytes = c.deref_mut.result.now in
    let count = c.in-Ok.count in
    let buffer = c.read.new.buffer in
    let bound = c.in-Ok.ensures.bound in
    let after = post_of w.end (w.end + 65536 - w.end) bytes in
    let fits : w.end + 65536 ≤ length bytes = omega (arith, c.make_room.ensures.room, c.deref_mut.ensures.len, w.size) in
    let size : length buffer ≡ 65536 = omega (arith, c.read.auto.buffer, rest_size bytes w.end (w.end + 65536) fits) in
    let items = with_items_is w.bytes (take w.end bytes ++ (buffer ++ after))
    (grown_size bytes buffer w.end 65536 fits size ∙ c.deref_mut.ensures.len) in (
      take count buffer,
      (
        sym bound.1,
        (
          omega (arith, bound.0, size),
          (
            ap (λ xs. slice_range xs w.start (w.end + count)) items
                ∙ rest_grown bytes buffer after w.start w.end count w.ordered (omega (arith, fits)) bound.0
                ∙ ap (λ xs. slice_range xs w.start w.end ++ take count buffer) c.deref_mut.ensures.value
                ∙ ap (λ l. l ++ take count buffer) c.make_room.ensures.rest,
            c.in-Ok.ensures.bytes.0,
          ),
        ),
      ),
    )

pub returns-in-Err-clause-kept : goal.returns-in-Err-clause-kept
returns-in-Err-clause-kept g c =
    let w = c.make_room.new.self in
    let bytes = c.deref_mut.result.now in
    let buffer = c.read.new.buffer in
    let after = post_of w.end (w.end + 65536 - w.end) bytes in
    let fits : w.end + 65536 ≤ length bytes = omega (arith, c.make_room.ensures.room, c.deref_mut.ensures.len, w.size) in
    let size : length buffer ≡ 65536 = omega (arith, c.read.auto.buffer, rest_size bytes w.end (w.end + 65536) fits) in
    let items = with_items_is w.bytes (take w.end bytes ++ (buffer ++ after))
    (grown_size bytes buffer w.end 65536 fits size ∙ c.deref_mut.ensures.len) in (
      ap (λ xs. slice_range xs w.start w.end) items ∙ rest_kept bytes buffer after w.start w.end w.ordered (omega (arith, fits))
          ∙ ap (λ xs. slice_range xs w.start w.end) c.deref_mut.ensures.value ∙ c.make_room.ensures.rest,
      c.in-Err.ensures.bytes,
    )
