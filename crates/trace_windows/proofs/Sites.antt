-- What the windows of many sites tell.
use Rattle.std.proofs.Common.{◌≡◌, ◌≢◌, ℕ, ◌+◌, ◌<◌, ◌≤◌, zero, suc, eqb, List, [], ◌∷◌, length, get_or, set, Option, Some, None, refl, sym, ap, subst, ◌∙◌, arith, inl, inr}
use Rattle.std.specs.Prelude.{slice_get}
use Rattle.std.proofs.lemmas.List.{get_or-set_same, get_or-set_other, length-map, length-set, length-take-le, get_or-map}
use Rattle.std.proofs.lemmas.Bool.{eqb-true, eqb-false, cases_Bool}
use Rattle.std.proofs.lemmas.Option.{slice_get_within}
use Rattle.field_bounds.specs.Schema.{SchemaValue}
use Rattle.field_bounds.specs.Limits.{IsSchema}
use Rattle.field_bounds.specs.declared.entry.Entry.{Entry}
use Rattle.trace_weave.specs.Weave.{history_at}
use Rattle.trace_weave.specs.Turn.{upcoming}
use Rattle.woven_verdict.specs.Woven.{none_taken}
use Rattle.trace_windows.specs.declared.window.TraceWindow.{TraceWindow}
use Rattle.trace_windows.specs.declared.windows.TraceWindows.{TraceWindows}
use Rattle.trace_windows.specs.Texts.{AreFirst}
use Rattle.trace_windows.specs.Windows.{IsFilled}
use Rattle.trace_windows.specs.Told.{AreTold, TellEach, Tells}

-- past the last history there is none
past : (hs : List (List Entry)) (s : ℕ) → length hs ≤ s → history_at hs s ≡ []
past [] s far = refl
past (h ∷ hs) zero far = absurd (omega (arith, far))
past (h ∷ hs) (suc s) far = past hs s (omega (arith, far))

pub none_past : (hs : List (List Entry)) (counts : List ℕ) (s : ℕ) → length hs ≤ s → upcoming hs counts s ≡ None
none_past hs counts s far = ap (λ (l : List Entry). slice_get l (get_or counts s 0)) (past hs s far)

pub within : (hs : List (List Entry)) (counts : List ℕ) (s : ℕ) (e : Entry) → upcoming hs counts s ≡ Some e → s < length hs
within [] counts s e next = absurd cc
within (h ∷ hs) counts zero e next = omega arith
within (h ∷ hs) [] (suc s) e next = let more = within hs [] s e next in omega (arith, more)
within (h ∷ hs) (n ∷ counts) (suc s) e next = let more = within hs counts s e next in omega (arith, more)

zeros : (hs : List (List Entry)) (s : ℕ) → get_or (none_taken hs) s 0 ≡ 0
zeros [] s = refl
zeros (h ∷ hs) zero = refl
zeros (h ∷ hs) (suc s) = zeros hs s

module _ {F : Type 0} (bytes : F → Option (List ℕ)) (hs : List (List Entry)) where
  pub begin : (w : TraceWindows F) → TellEach bytes w.schema.now hs w.traces.items → AreTold bytes hs (none_taken hs) w
  begin w each = record {
    limits = each.limits;
    sites = each.sites;
    sized = length-map hs (λ h. 0);
    each = λ s d inside.
        subst (λ (n : ℕ). Tells bytes w.schema.now (history_at hs s) n (get_or w.traces.items s d)) (sym (zeros hs s)) (each.each s d inside);
  }

  -- the next entry of a history is one that counts
  pub counts_yet : (schema : SchemaValue) (entries : List Entry) (n : ℕ) (e : Entry) (w : TraceWindow F)
      → (is : Tells bytes schema entries n w) → slice_get entries n ≡ Some e → n < is.count
  counts_yet schema entries n e w is next =
      let size : length entries ≡ is.count = ap length is.first.first ∙ length-take-le is.count is.first.all is.first.enough in
      omega (arith, slice_get_within entries n e next, size)

  -- what the window of a site tells
  pub tells_at : (counts : List ℕ) (w : TraceWindows F) (s k : ℕ) (t : TraceWindow F) → AreTold bytes hs counts w → k ≡ s
      → get_or w.traces.items k t ≡ t → s < length hs → Tells bytes w.schema.now (history_at hs s) (get_or counts s 0) t
  tells_at counts w s k t told is here inside =
      subst (λ x. Tells bytes w.schema.now (history_at hs s) (get_or counts s 0) x)
      (ap (λ j. get_or w.traces.items j t) (sym is) ∙ here) (told.each s t inside)

  -- one entry was taken
  pub take_one : (counts : List ℕ) (w now : TraceWindows F) (s : ℕ) (e : Entry) (old new : TraceWindow F) → AreTold bytes hs counts w
      → upcoming hs counts s ≡ Some e → now.schema.now ≡ w.schema.now → now.traces.items ≡ set w.traces.items s new
      → get_or w.traces.items s old ≡ old
      → ((text : List ℕ) (count n : ℕ) → n < count → IsFilled bytes w.schema.now text count n old
      → IsFilled bytes w.schema.now text count (n + 1) new)
      → AreTold bytes hs (set counts s (get_or counts s 0 + 1)) now
  take_one counts w now s e old new told next schema traces here takes =
      let inside = within hs counts s e next in
      let is : Tells bytes w.schema.now (history_at hs s) (get_or counts s 0) old =
      subst (λ (t : TraceWindow F). Tells bytes w.schema.now (history_at hs s) (get_or counts s 0) t) here (told.each s old inside) in
      let less = counts_yet w.schema.now (history_at hs s) (get_or counts s 0) e old is next in
      let one : Tells bytes w.schema.now (history_at hs s) (get_or counts s 0 + 1) new =
      record { text = is.text; count = is.count; first = is.first; at = takes is.text is.count (get_or counts s 0) less is.at } in
      let told_in = w.schema.now in
      let v = get_or counts s 0 + 1 in
      let ts = w.traces.items in
      let in_counts : s < length counts = omega (arith, inside, told.sized) in
      let in_traces : s < length ts = omega (arith, inside, told.sites) in
      let At : SchemaValue → List (TraceWindow F) → ℕ → TraceWindow F → Type 0 =
      λ schema l k d. Tells bytes schema (history_at hs k) (get_or (set counts s v) k 0) (get_or l k d) in
      let each : (k : ℕ) (d : TraceWindow F) → k < length hs → At told_in (set ts s new) k d = λ k d low.
      elim (cases_Bool (eqb k s)) [
        | inl same ↦
            subst (λ j. At told_in (set ts s new) j d) (sym (eqb-true k s same))
            (subst (λ n. Tells bytes told_in (history_at hs s) n (get_or (set ts s new) s d)) (sym (get_or-set_same counts s v 0 in_counts))
            (subst (λ t. Tells bytes told_in (history_at hs s) v t) (sym (get_or-set_same ts s new d in_traces)) one))
        | inr apart ↦
            subst (λ n. Tells bytes told_in (history_at hs k) n (get_or (set ts s new) k d))
            (sym (get_or-set_other counts s k v 0 (eqb-false k s apart)))
            (subst (λ t. Tells bytes told_in (history_at hs k) (get_or counts k 0) t) (sym (get_or-set_other ts s k new d (eqb-false k s apart)))
            (told.each k d low))
      ] in
      record {
        limits = subst (λ x. IsSchema x) (sym schema) told.limits;
        sites = told.sites ∙ sym (ap length traces ∙ length-set ts s new);
        sized = length-set counts s v ∙ told.sized;
        each = λ k d low.
            subst (λ x. At x now.traces.items k d) (sym schema) (subst (λ l. At told_in l k d) (sym traces) (each k d low));
      }
