-- What a window tells.
use Rattle.std.proofs.Common.{◌≡◌, ℕ, ◌+◌, ◌<◌, ◌≤◌, List, [], ◌∷◌, ◌++◌, length, take, get_or, Option, Some, None, refl, sym, ap, subst, ◌∙◌, arith}
use Rattle.std.specs.Prelude.{slice_get}
use Rattle.std.proofs.lemmas.List.{get_or-append-add, get_or-map, get_or-take, length-append, length-map, length-take, length-take-le}
use Rattle.std.proofs.lemmas.Option.{slice_get-get_or, slice_get_past}
use Rattle.field_bounds.specs.Schema.{SchemaValue}
use Rattle.field_bounds.specs.Limits.{IsSchema}
use Rattle.field_bounds.specs.declared.entry.Entry.{Entry}
use Rattle.script_input.specs.Lines.{whole_lines_after, whole_lines, last_part}
use Rattle.script_input.proofs.LineLemmas.{whole_lines_after-append}
use Rattle.site_trace.specs.declared.reading.TracedEntry.{TracedEntry}
use Rattle.site_trace.specs.Traces.{entries_of}
use Rattle.trace_windows.specs.declared.window.TraceWindow.{TraceWindow}
use Rattle.trace_windows.specs.Texts.{AreFirst}
use Rattle.trace_windows.specs.Windows.{IsFilled}
use Rattle.trace_windows.proofs.Lines.{have_at}

module _ {F : Type 0} (bytes : F → Option (List ℕ)) (schema : SchemaValue) (limits : IsSchema schema) (text : List ℕ) (count n : ℕ)
    (entries : List Entry) (w : TraceWindow F) (is : IsFilled bytes schema text count n w) (first : AreFirst schema text count entries) where
  sized : length entries ≡ count
  sized = ap length first.first ∙ length-take-le count first.all first.enough

  -- none is left
  pub told_all : w.left ≡ 0 → slice_get entries n ≡ None
  told_all none = slice_get_past entries n (omega (arith, sized, none, is.on.left))

  -- the next one
  pub told_next : (t : TracedEntry) → n < count → get_or w.window.items w.place t ≡ t → slice_get entries n ≡ Some t.entry
  told_next t less at =
      let on = is.on in
      let inside = is.next less in
      let later = whole_lines_after (last_part on.front) on.back in
      let lines : first.front ++ first.behind ≡ whole_lines on.front ++ later =
      sym first.parts ∙ ap whole_lines on.file.parts ∙ whole_lines_after-append [] on.front on.back in
      let size = length-append on.before (entries_of w.window.items) in
      let sized_window = length-map w.window.items (λ (t : TracedEntry). t.entry) in
      let same : get_or first.all n t.entry ≡ get_or (on.before ++ entries_of w.window.items) n t.entry =
      have_at schema limits first.front first.behind (whole_lines on.front) later first.all (on.before ++ entries_of w.window.items) lines
      first.have on.have n t.entry (omega (arith, less, first.enough)) (omega (arith, size, sized_window, on.counted, inside)) in
      let here : get_or (on.before ++ entries_of w.window.items) n t.entry ≡ t.entry =
      ap (λ (k : ℕ). get_or (on.before ++ entries_of w.window.items) k t.entry) on.counted
      ∙ get_or-append-add on.before (entries_of w.window.items) w.place t.entry
      ∙ get_or-map (λ (t : TracedEntry). t.entry) w.window.items w.place t t.entry inside ∙ ap (λ (t : TracedEntry). t.entry) at in
      let told : get_or entries n t.entry ≡ t.entry =
      ap (λ (l : List Entry). get_or l n t.entry) first.first ∙ get_or-take count first.all n t.entry less ∙ same ∙ here in
      slice_get-get_or entries n t.entry (omega (arith, less, sized)) ∙ ap Some told
