-- The entries that are kept of a trace.
use Rattle.std.proofs.Common.{◌≡◌, ◌≢◌, ℕ, ◌+◌, ◌<◌, ◌≤◌, List, [], ◌∷◌, ◌++◌, length, take, reverse, refl, sym, ap, subst, ◌∙◌, arith, inl, inr}
use Rattle.std.specs.List.{All}
use Rattle.std.proofs.lemmas.List.{map-append, take-map}
use Rattle.field_bounds.specs.Schema.{SchemaValue}
use Rattle.field_bounds.specs.Limits.{IsSchema}
use Rattle.field_bounds.specs.declared.entry.Entry.{Entry}
use Rattle.script_input.specs.Lines.{whole_lines}
use Rattle.site_trace.specs.declared.reading.TracedEntry.{TracedEntry}
use Rattle.site_trace.specs.declared.reading.Trace.{Trace}
use Rattle.site_trace.specs.declared.cutting.TraceEnd.{TraceEnd}
use Rattle.site_trace.specs.Traces.{entries_of, AreTraced, IsTrace}
use Rattle.site_trace.specs.Reading.{Adds}
use Rattle.site_trace.specs.Records.{records_left}
use Rattle.site_trace.specs.Ends.{left_by, IsEnd}
use Rattle.site_trace.specs.Kept.{IsCutAt, AreKept, LeaveFewer}
use Rattle.site_trace.specs.Keeping.{AddsEntry, HoldEntries, IsCutBehind}
use Rattle.site_trace.proofs.Traced.{IsReadTo, line_read, whole_read}
use Rattle.site_trace.proofs.Cuts.{cut_traced}
use Rattle.site_trace.proofs.Longest.{one_traced}

-- ---- one line more

-- the same line, with where it begins
entry_adds : (schema : SchemaValue) (line : List ℕ) (at : ℕ) (old new : List Entry) (traced : List TracedEntry) → entries_of traced ≡ old
    → AddsEntry schema line old new → (more : List TracedEntry) × (Adds schema line at traced more × (entries_of more ≡ new))
entry_adds schema line at old new traced same (inl (none, (remark, is))) = (traced, (inl (none, (remark, refl)), same ∙ sym is))
entry_adds schema line at old new traced same (inr (e, (entry, is))) =
    let t : TracedEntry = record { entry = e; start = at } in (
      traced ++ t ∷ [],
      (
        inr (e, (entry, refl)),
        map-append (λ (x : TracedEntry). x.entry) traced (t ∷ []) ∙ ap (λ (l : List Entry). l ++ e ∷ []) same ∙ sym is,
      ),
    )

-- These entries are those of the lines in front of the rest, which are so many.
pub record HoldTo (schema : SchemaValue) (bytes rest : List ℕ) (entries : List Entry) (number : ℕ) : Type 0 where
  pub at : ℕ
  pub traced : List TracedEntry
  pub read : IsReadTo schema bytes rest traced at number
  pub same : entries_of traced ≡ entries

pub entry_read : (schema : SchemaValue) (bytes rest line behind : List ℕ) (old new : List Entry) (number : ℕ)
    → All (λ b. b ≢ 10) line → rest ≡ line ++ 10 ∷ behind → AddsEntry schema line old new → HoldTo schema bytes rest old number
    → HoldTo schema bytes behind new (number + 1)
entry_read schema bytes rest line behind old new number one parts adds is =
    let now = entry_adds schema line is.at old new is.traced is.same adds in
    record {
      at = is.at + (length line + 1);
      traced = now.0;
      read = line_read schema bytes rest line behind is.traced now.0 is.at number one parts now.1.0 is.read;
      same = now.1.1;
    }

-- the end
pub all_read : (schema : SchemaValue) (bytes rest : List ℕ) (entries : List Entry) (number : ℕ) → All (λ b. b ≢ 10) rest
    → HoldTo schema bytes rest entries number → HoldEntries schema bytes entries
all_read schema bytes rest entries number none is = record {
  traced = is.traced;
  read = subst (λ (lines : List (List ℕ)). AreTraced schema 0 lines is.traced)
      (sym (whole_read schema bytes rest is.traced is.at number none is.read)) is.read.front;
  same = is.same;
}

-- ---- the cut

pub cut_kept : (schema : SchemaValue) (bytes : List ℕ) (kept n : ℕ) (all entries : List Entry) → HoldEntries schema bytes all
    → IsCutBehind all kept n → entries ≡ take n all → AreKept schema bytes kept entries
cut_kept schema bytes kept n all entries hold cut is = record {
  traced = hold.traced;
  read = hold.read;
  count = n;
  cut = cut_traced hold.traced kept n (subst (λ (l : List Entry). IsCutBehind l kept n) (sym hold.same) cut);
  same = is ∙ ap (take n) (sym hold.same) ∙ take-map (λ (t : TracedEntry). t.entry) n hold.traced;
}

pub all_fewer : (schema : SchemaValue) (bytes : List ℕ) (kept : ℕ) (all : List Entry) → HoldEntries schema bytes all
    → records_left (reverse all) < kept → LeaveFewer schema bytes kept
all_fewer schema bytes kept all hold few = record {
  traced = hold.traced;
  read = hold.read;
  fewer = subst (λ (l : List Entry). records_left (reverse l) < kept) (sym hold.same) few;
}

-- ---- the cut tells the same

one_cut : (ts : List TracedEntry) (kept n m : ℕ) → IsCutAt ts kept n → m ≤ length ts → left_by ts m ≡ kept
    → ((k : ℕ) → m < k → k ≤ length ts → kept < left_by ts k) → n ≡ m
one_cut ts kept n m cut within leaves longest =
    let below : n < m → ⊥ = λ (less : n < m). let more = cut.longest m less within in omega (arith, more, leaves) in
    let above : m < n → ⊥ = λ (less : m < n). let more = longest n less cut.within in omega (arith, more, cut.leaves) in
    grind arith

pub kept_are_cut : (schema : SchemaValue) (bytes : List ℕ) (trace : Trace) (kept : ℕ) (end : TraceEnd) (entries : List Entry) → IsSchema schema
    → IsTrace schema bytes trace → IsEnd trace kept end → AreKept schema bytes kept entries
    → entries ≡ entries_of (take end.entries trace.entries.items)
kept_are_cut schema bytes trace kept end entries limits is cut are =
    let ts = trace.entries.items in
    let same : are.traced ≡ ts = one_traced schema limits 0 (whole_lines bytes) are.traced ts are.read is.entries in
    let here : IsCutAt ts kept are.count = subst (λ (l : List TracedEntry). IsCutAt l kept are.count) same are.cut in
    let at : are.count ≡ end.entries = one_cut ts kept are.count end.entries here cut.within cut.leaves cut.longest in
    are.same ∙ ap (λ (l : List TracedEntry). entries_of (take are.count l)) same ∙ ap (λ (n : ℕ). entries_of (take n ts)) at

pub fewer_left : (schema : SchemaValue) (bytes : List ℕ) (trace : Trace) (kept : ℕ) → IsSchema schema → IsTrace schema bytes trace
    → LeaveFewer schema bytes kept → records_left (reverse (entries_of trace.entries.items)) < kept
fewer_left schema bytes trace kept limits is few =
    let same : few.traced ≡ trace.entries.items =
    one_traced schema limits 0 (whole_lines bytes) few.traced trace.entries.items few.read is.entries in
    subst (λ (l : List TracedEntry). records_left (reverse (entries_of l)) < kept) same few.fewer
