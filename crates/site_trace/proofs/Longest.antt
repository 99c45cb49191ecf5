-- A trace is read in one way, and is cut at the end of its longest front that leaves no more records.
use Rattle.std.proofs.Common.{◌≡◌, ℕ, zero, suc, ◌+◌, ◌<◌, ◌≤◌, List, [], ◌∷◌, ◌++◌, length, take, drop, reverse, Some, refl, sym, ap, subst, ◌∙◌, arith, inl, inr}
use Rattle.std.proofs.lemmas.List.{take-append-drop, length-take, length-append}
use Rattle.field_bounds.specs.declared.entry.Entry.{Entry}
use Rattle.field_bounds.specs.Schema.{SchemaValue}
use Rattle.field_bounds.specs.Limits.{IsSchema}
use Rattle.entry_text.specs.Entries.{entry_of}
use Rattle.entry_text.proofs.Entries.{entry_says}
use Rattle.script_input.specs.Lines.{whole_lines_after, whole_lines, last_part}
use Rattle.script_input.proofs.LineLemmas.{whole_lines_after-append}
use Rattle.site_trace.specs.declared.reading.TracedEntry.{TracedEntry}
use Rattle.site_trace.specs.declared.reading.Trace.{Trace}
use Rattle.site_trace.specs.declared.cutting.TraceEnd.{TraceEnd}
use Rattle.site_trace.specs.Lines.{IsEntry, IsOtherLine}
use Rattle.site_trace.specs.Traces.{entries_of, lines_length, AreTraced, IsTrace, IsFirstOther}
use Rattle.site_trace.specs.Records.{records_left}
use Rattle.site_trace.specs.Ends.{front_length, IsEnd}
use Rattle.site_trace.proofs.Traced.{lines_first}
use Rattle.site_trace.proofs.Fronts.{cut_whole, joined, joined_length, front_none}

-- ---- a trace is read in one way

-- a line is the text of one entry at most
one_entry : (schema : SchemaValue) → IsSchema schema → (line : List ℕ) (e f : Entry) → IsEntry schema line e → IsEntry schema line f → e ≡ f
one_entry schema limits line e f is also =
    let says = entry_says schema limits line (entry_of schema line) refl in
    let same : Some e ≡ Some f = sym (says.only e is.fits is.text) ∙ says.only f also.fits also.text in
    cc

traced_of : Entry → ℕ → TracedEntry
traced_of e at = record { entry = e; start = at }

pub one_traced : (schema : SchemaValue) → IsSchema schema → (at : ℕ) (lines : List (List ℕ)) (ts us : List TracedEntry)
    → AreTraced schema at lines ts → AreTraced schema at lines us → ts ≡ us
unfolding traced_of
one_traced schema limits at [] ts us is also = is ∙ sym also
one_traced schema limits at (line ∷ lines) ts us (inl (none, (remark, rest))) (inl (never, (too, more))) =
    one_traced schema limits (at + (length line + 1)) lines ts us rest more
one_traced schema limits at (line ∷ lines) ts us (inl (none, (remark, rest))) (inr (f, (more, (also, (left, parts))))) =
    absurd (none f also.fits also.text)
one_traced schema limits at (line ∷ lines) ts us (inr (e, (later, (is, (rest, same))))) (inl (never, (too, more))) =
    absurd (never e is.fits is.text)
one_traced schema limits at (line ∷ lines) ts us (inr (e, (later, (is, (rest, same))))) (inr (f, (more, (also, (left, parts))))) =
    let entry = one_entry schema limits line e f is also in
    let others = one_traced schema limits (at + (length line + 1)) lines later more rest left in
    same ∙ ap (λ (x : Entry). traced_of x at ∷ later) entry ∙ ap (λ (l : List TracedEntry). traced_of f at ∷ l) others ∙ sym parts

-- among the lines of a trace none is another line
no_other : (schema : SchemaValue) (at : ℕ) (before behind : List (List ℕ)) (line : List ℕ) (ts : List TracedEntry)
    → AreTraced schema at (before ++ line ∷ behind) ts → IsOtherLine schema line → ⊥
no_other schema at [] behind line ts (inl (none, (remark, rest))) other = other.no_remark remark
no_other schema at [] behind line ts (inr (e, (later, (is, (rest, same))))) other = other.no_entry e is.fits is.text
no_other schema at (first ∷ before) behind line ts (inl (none, (remark, rest))) other =
    no_other schema (at + (length first + 1)) before behind line ts rest other
no_other schema at (first ∷ before) behind line ts (inr (e, (later, (is, (rest, same))))) other =
    no_other schema (at + (length first + 1)) before behind line later rest other

pub never_refused : (schema : SchemaValue) (bytes : List ℕ) (trace : Trace) (n : ℕ) → IsTrace schema bytes trace → IsFirstOther schema bytes n → ⊥
never_refused schema bytes trace n is first =
    no_other schema 0 first.before first.behind first.line trace.entries.items
    (subst (λ (l : List (List ℕ)). AreTraced schema 0 l trace.entries.items) first.parts is.entries) first.bad

pub one_trace : (schema : SchemaValue) (bytes : List ℕ) (trace other : Trace) → IsSchema schema → IsTrace schema bytes trace
    → IsTrace schema bytes other → (trace.entries.items ≡ other.entries.items) × (trace.length ≡ other.length)
one_trace schema bytes trace other limits is also = (
  one_traced schema limits 0 (whole_lines bytes) trace.entries.items other.entries.items is.entries also.entries,
  is.length ∙ sym also.length,
)

-- ---- the longest front

-- no entry of lines that begin behind so many bytes has its line before them
starts_late : (schema : SchemaValue) (at : ℕ) (lines : List (List ℕ)) (ts : List TracedEntry) (all k : ℕ) → AreTraced schema at lines ts
    → all ≡ at + lines_length lines → at ≤ front_length ts all k
starts_late schema at [] ts all k traced is = omega (arith, front_none ts all k traced, is)
starts_late schema at (line ∷ lines) ts all k (inl (none, (remark, rest))) is =
    let more = starts_late schema (at + (length line + 1)) lines ts all k rest (omega (arith, is, lines_first line lines)) in
    omega (arith, more)
starts_late schema at (line ∷ lines) ts all zero (inr (e, (later, (traced, (rest, same))))) is =
    let here : front_length ts all zero ≡ at = ap (λ (l : List TracedEntry). front_length l all zero) same in
    omega (arith, here)
starts_late schema at (line ∷ lines) ts all (suc k) (inr (e, (later, (traced, (rest, same))))) is =
    let more = starts_late schema (at + (length line + 1)) lines later all k rest (omega (arith, is, lines_first line lines)) in
    let here : front_length ts all (suc k) ≡ front_length later all k = ap (λ (l : List TracedEntry). front_length l all (suc k)) same in
    omega (arith, more, here)

-- the first lines hold the first entries, and are no longer than the front with these and any more
record IsHeld (schema : SchemaValue) (at : ℕ) (front : List (List ℕ)) (ts : List TracedEntry) (all : ℕ) : Type 0 where
  pub count : ℕ
  pub within : count ≤ length ts
  pub traced : AreTraced schema at front (take count ts)
  pub bound : (k : ℕ) → count ≤ k → at + lines_length front ≤ front_length ts all k

entry_bound : (ts later : List TracedEntry) (t : TracedEntry) (all size n k : ℕ) → ts ≡ t ∷ later
    → ((k : ℕ) → n ≤ k → size ≤ front_length later all k) → suc n ≤ k → size ≤ front_length ts all k
entry_bound ts later t all size n zero same bound le = absurd (omega (arith, le))
entry_bound ts later t all size n (suc k) same bound le =
    let here : front_length ts all (suc k) ≡ front_length later all k = ap (λ (l : List TracedEntry). front_length l all (suc k)) same in
    let late = bound k (omega (arith, le)) in
    omega (arith, late, here)

held : (schema : SchemaValue) (at : ℕ) (front back : List (List ℕ)) (ts : List TracedEntry) (all : ℕ) → AreTraced schema at (front ++ back) ts
    → all ≡ at + lines_length (front ++ back) → IsHeld schema at front ts all
unfolding traced_of
held schema at [] back ts all traced is = record {
  count = 0;
  within = omega arith;
  traced = refl;
  bound = λ k le. let late = starts_late schema at back ts all k traced is in omega (arith, late);
}
held schema at (line ∷ front) back ts all (inl (none, (remark, rest))) is =
    let more = held schema (at + (length line + 1)) front back ts all rest (omega (arith, is, lines_first line (front ++ back))) in
    record {
      count = more.count;
      within = more.within;
      traced = inl (none, (remark, more.traced));
      bound = λ k le. let late = more.bound k le in omega (arith, late, lines_first line front);
    }
held schema at (line ∷ front) back ts all (inr (e, (later, (entry, (rest, same))))) is =
    let more = held schema (at + (length line + 1)) front back later all rest (omega (arith, is, lines_first line (front ++ back))) in
    record {
      count = suc more.count;
      within = omega (arith, more.within, ap length same);
      traced = inr (e, (take more.count later, (entry, (more.traced, ap (λ (l : List TracedEntry). take (suc more.count) l) same))));
      bound = λ k le.
          let size = at + (length line + 1) + lines_length front in
          let late : size ≤ front_length ts all k =
          entry_bound ts later (traced_of e at) all size more.count k same more.bound le in
          omega (arith, late, lines_first line front);
    }

beyond : (count n front size : ℕ) → (count ≤ n → size ≤ front) → front < size → n < count
beyond count n front size bound less = grind arith

-- a longer front of whole lines leaves more records
pub longest : (schema : SchemaValue) (bytes : List ℕ) (trace : Trace) (kept : ℕ) (end : TraceEnd) (m : ℕ) (ts : List TracedEntry)
    → IsSchema schema → IsTrace schema bytes trace → IsEnd trace kept end → end.length < m → m ≤ length bytes → last_part (take m bytes) ≡ []
    → AreTraced schema 0 (whole_lines (take m bytes)) ts → kept < records_left (reverse (entries_of ts))
longest schema bytes trace kept end m ts limits is cut longer within none traced =
    let items = trace.entries.items in
    let front = whole_lines (take m bytes) in
    let back = whole_lines_after [] (drop m bytes) in
    let lines : whole_lines bytes ≡ front ++ back =
    ap whole_lines (sym (take-append-drop m bytes)) ∙ whole_lines_after-append [] (take m bytes) (drop m bytes)
    ∙ ap (λ (l : List ℕ). front ++ whole_lines_after l (drop m bytes)) none in
    let size : m ≡ lines_length front = omega (
      arith,
      within,
      length-take m bytes,
      ap length (cut_whole [] (take m bytes)),
      length-append (joined front) (last_part (take m bytes)),
      ap length none,
      joined_length front,
    ) in
    let h = held schema 0 front back items trace.length (subst (λ (l : List (List ℕ)). AreTraced schema 0 l items) lines is.entries)
    (omega (arith, is.length, ap lines_length lines)) in
    let same : ts ≡ take h.count items = one_traced schema limits 0 front ts (take h.count items) traced h.traced in
    let more : end.entries < h.count =
    beyond h.count end.entries (front_length items trace.length end.entries) (0 + lines_length front) (h.bound end.entries)
    (omega (arith, size, cut.bytes, longer)) in
    subst (λ (l : List TracedEntry). kept < records_left (reverse (entries_of l))) (sym same) (cut.longest h.count more h.within)
