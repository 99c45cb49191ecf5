-- The lines of a text that is read piece by piece, and their entries.
use Rattle.std.proofs.Common.{◌≡◌, ◌≢◌, ℕ, zero, suc, ◌+◌, ◌<◌, ◌≤◌, cond, eqb, List, [], ◌∷◌, ◌++◌, length, drop, get_or, Some, refl, sym, ap, subst, ◌∙◌, arith, inl, inr}
use Rattle.std.specs.List.{All}
use Rattle.std.proofs.lemmas.Bool.{eqb-true, eqb-false, cases_Bool}
use Rattle.std.proofs.lemmas.List.{drop_at, length-append}
use Rattle.std.proofs.lemmas.List.Elements.{All-nil, All-push}
use Rattle.field_bounds.specs.Schema.{SchemaValue}
use Rattle.field_bounds.specs.Limits.{IsSchema}
use Rattle.field_bounds.specs.declared.entry.Entry.{Entry}
use Rattle.entry_text.specs.Entries.{entry_of}
use Rattle.entry_text.proofs.Entries.{entry_says}
use Rattle.script_input.specs.Lines.{whole_lines_after, last_part_after, whole_lines, last_part}
use Rattle.script_input.proofs.LineLemmas.{whole_lines_after-append, last_part_after-append, whole_lines_after-unbroken, last_part_after-unbroken}
use Rattle.site_trace.specs.declared.reading.TracedEntry.{TracedEntry}
use Rattle.site_trace.specs.Lines.{IsEntry}
use Rattle.site_trace.specs.Traces.{entries_of, lines_length, AreTraced}
use Rattle.site_trace.proofs.Fronts.{cut_whole, joined, joined_length}
use Rattle.trace_windows.specs.Texts.{HaveEntries}

-- ---- lines

-- no byte of the front of a line is an LF
clean_last : (front bs : List ℕ) → All (λ b. b ≢ 10) front → All (λ b. b ≢ 10) (last_part_after front bs)
clean_last front [] clean = clean
clean_last front (b ∷ bs) clean =
    let P : _ → Type 0 = λ v. All (λ b. b ≢ 10) (cond v (last_part_after [] bs) (last_part_after (front ++ b ∷ []) bs)) in
    elim (cases_Bool (eqb b 10)) [
      | inl same ↦ subst P (sym same) (clean_last [] bs (All-nil (λ b. b ≢ 10)))
      | inr apart ↦ subst P (sym apart) (clean_last (front ++ b ∷ []) bs (All-push (λ b. b ≢ 10) front b clean (eqb-false b 10 apart)))
    ]

pub clean_end : (read : List ℕ) → All (λ b. b ≢ 10) (last_part read)
clean_end read = clean_last [] read (All-nil (λ b. b ≢ 10))

-- the lines of what was read and of a piece behind it
pub lines_more : (read piece : List ℕ) → whole_lines (read ++ piece) ≡ whole_lines read ++ whole_lines (last_part read ++ piece)
lines_more read piece =
    let front = last_part read in
    let none : whole_lines front ≡ [] = whole_lines_after-unbroken [] front (clean_end read) in
    let all : last_part front ≡ front = last_part_after-unbroken [] front (clean_end read) in
    let later : whole_lines (front ++ piece) ≡ whole_lines_after front piece =
    whole_lines_after-append [] front piece ∙ ap (λ (l : List (List ℕ)). l ++ whole_lines_after (last_part front) piece) none
    ∙ ap (λ (l : List ℕ). whole_lines_after l piece) all in
    whole_lines_after-append [] read piece ∙ ap (λ (l : List (List ℕ)). whole_lines read ++ l) (sym later)

pub last_more : (read piece : List ℕ) → last_part (read ++ piece) ≡ last_part (last_part read ++ piece)
last_more read piece =
    let front = last_part read in
    let all : last_part front ≡ front = last_part_after-unbroken [] front (clean_end read) in
    last_part_after-append [] read piece
    ∙ sym (last_part_after-append [] front piece ∙ ap (λ (l : List ℕ). last_part_after l piece) all)

-- behind the whole lines stands the front of a line
pub drop_lines : (bytes : List ℕ) (size : ℕ) → size ≡ lines_length (whole_lines bytes) → drop size bytes ≡ last_part bytes
drop_lines bytes size is =
    let parts : bytes ≡ joined (whole_lines bytes) ++ last_part bytes = cut_whole [] bytes in
    ap (drop size) parts ∙ drop_at (joined (whole_lines bytes)) (last_part bytes) size (joined_length (whole_lines bytes) ∙ sym is)

pub lines_within : (bytes : List ℕ) → lines_length (whole_lines bytes) ≤ length bytes
lines_within bytes =
    let parts : bytes ≡ joined (whole_lines bytes) ++ last_part bytes = cut_whole [] bytes in
    omega (arith, ap (length {A = ℕ}) parts, length-append (joined (whole_lines bytes)) (last_part bytes), joined_length (whole_lines bytes))

-- ---- the entries of lines

-- wherever the lines begin
shift : (schema : SchemaValue) (at from : ℕ) (lines : List (List ℕ)) (ts : List TracedEntry) → AreTraced schema from lines ts
    → (us : List TracedEntry) × (AreTraced schema at lines us × (entries_of us ≡ entries_of ts))
shift schema at from [] ts traced = ([], (refl, ap entries_of (sym traced)))
shift schema at from (line ∷ lines) ts (inl (none, (remark, rest))) =
    let more = shift schema (at + (length line + 1)) (from + (length line + 1)) lines ts rest in
    (more.0, (inl (none, (remark, more.1.0)), more.1.1))
shift schema at from (line ∷ lines) ts (inr (e, (later, (is, (rest, same))))) =
    let more = shift schema (at + (length line + 1)) (from + (length line + 1)) lines later rest in
    let t : TracedEntry = record { entry = e; start = at } in
    (t ∷ more.0, (inr (e, (more.0, (is, (more.1.0, refl)))), ap (λ (l : List Entry). e ∷ l) more.1.1 ∙ sym (ap entries_of same)))

traced_both : (schema : SchemaValue) (at from : ℕ) (lines others : List (List ℕ)) (ts us : List TracedEntry) → AreTraced schema at lines ts
    → AreTraced schema from others us
    → (vs : List TracedEntry) × (AreTraced schema at (lines ++ others) vs × (entries_of vs ≡ entries_of ts ++ entries_of us))
traced_both schema at from [] others ts us traced also =
    let more = shift schema at from others us also in
    (more.0, (more.1.0, more.1.1 ∙ ap (λ (l : List TracedEntry). entries_of l ++ entries_of us) (sym traced)))
traced_both schema at from (line ∷ lines) others ts us (inl (none, (remark, rest))) also =
    let more = traced_both schema (at + (length line + 1)) from lines others ts us rest also in
    (more.0, (inl (none, (remark, more.1.0)), more.1.1))
traced_both schema at from (line ∷ lines) others ts us (inr (e, (later, (is, (rest, same))))) also =
    let more = traced_both schema (at + (length line + 1)) from lines others later us rest also in
    let t : TracedEntry = record { entry = e; start = at } in (
      t ∷ more.0,
      (
        inr (e, (more.0, (is, (more.1.0, refl)))),
        ap (λ (l : List Entry). e ∷ l) more.1.1 ∙ ap (λ (l : List TracedEntry). entries_of l ++ entries_of us) (sym same),
      ),
    )

pub have_both : (schema : SchemaValue) (lines others : List (List ℕ)) (es fs : List Entry) → HaveEntries schema lines es
    → HaveEntries schema others fs → HaveEntries schema (lines ++ others) (es ++ fs)
have_both schema lines others es fs have also =
    let more = traced_both schema 0 0 lines others have.traced also.traced have.read also.read in
    record {
      traced = more.0;
      read = more.1.0;
      same = more.1.1 ∙ ap (λ (l : List Entry). l ++ entries_of also.traced) have.same ∙ ap (λ (l : List Entry). es ++ l) also.same;
    }

-- a line is the text of one entry at most
one_entry : (schema : SchemaValue) → IsSchema schema → (line : List ℕ) (e f : Entry) → IsEntry schema line e → IsEntry schema line f → e ≡ f
one_entry schema limits line e f is also =
    let says = entry_says schema limits line (entry_of schema line) refl in
    let same : Some e ≡ Some f = sym (says.only e is.fits is.text) ∙ says.only f also.fits also.text in
    cc

-- of two fronts of the same lines, each entry of the one is that of the other
traced_at : (schema : SchemaValue) → IsSchema schema → (at from : ℕ) (a b c d : List (List ℕ)) (ts us : List TracedEntry) → a ++ b ≡ c ++ d
    → AreTraced schema at a ts → AreTraced schema from c us → (i : ℕ) (e : Entry) → i < length (entries_of ts) → i < length (entries_of us)
    → get_or (entries_of ts) i e ≡ get_or (entries_of us) i e
traced_at schema limits at from [] b c d ts us same traced also i e first second =
    absurd (omega (arith, first, ap (λ (l : List TracedEntry). length (entries_of l)) traced))
traced_at schema limits at from (x ∷ a) b [] d ts us same traced also i e first second =
    absurd (omega (arith, second, ap (λ (l : List TracedEntry). length (entries_of l)) also))
traced_at schema limits at from (x ∷ a) b (y ∷ c) d ts us same (inl (none, (remark, rest))) (inl (never, (too, more))) i e first second =
    let tails : a ++ b ≡ c ++ d = cc in
    traced_at schema limits (at + (length x + 1)) (from + (length y + 1)) a b c d ts us tails rest more i e first second
traced_at schema limits at from (x ∷ a) b (y ∷ c) d ts us same (inl (none, (remark, rest))) (inr (f, (more, (is, (left, parts))))) i e first second =
    let heads : x ≡ y = cc in
    absurd (none f is.fits (heads ∙ is.text))
traced_at schema limits at from (x ∷ a) b (y ∷ c) d ts us same (inr (f, (later, (is, (rest, parts))))) (inl (never, (too, more))) i e first second =
    let heads : x ≡ y = cc in
    absurd (never f is.fits (sym heads ∙ is.text))
traced_at schema limits at from (x ∷ a) b (y ∷ c) d ts us same (inr (f, (later, (is, (rest, parts))))) (inr (g, (more, (has, (left, others)))))
    zero e first second =
    let heads : x ≡ y = cc in
    let one : f ≡ g = one_entry schema limits y f g (subst (λ (l : List ℕ). IsEntry schema l f) heads is) has in
    ap (λ (l : List TracedEntry). get_or (entries_of l) 0 e) parts ∙ one ∙ sym (ap (λ (l : List TracedEntry). get_or (entries_of l) 0 e) others)
traced_at schema limits at from (x ∷ a) b (y ∷ c) d ts us same (inr (f, (later, (is, (rest, parts))))) (inr (g, (more, (has, (left, others)))))
    (suc i) e first second =
    let tails : a ++ b ≡ c ++ d = cc in
    let within = ap (λ (l : List TracedEntry). length (entries_of l)) parts in
    let inside = ap (λ (l : List TracedEntry). length (entries_of l)) others in
    ap (λ (l : List TracedEntry). get_or (entries_of l) (suc i) e) parts
    ∙ traced_at schema limits (at + (length x + 1)) (from + (length y + 1)) a b c d later more tails rest left i e
    (omega (arith, first, within)) (omega (arith, second, inside))
    ∙ sym (ap (λ (l : List TracedEntry). get_or (entries_of l) (suc i) e) others)

pub have_at : (schema : SchemaValue) → IsSchema schema → (a b c d : List (List ℕ)) (es fs : List Entry) → a ++ b ≡ c ++ d
    → HaveEntries schema a es → HaveEntries schema c fs → (i : ℕ) (e : Entry) → i < length es → i < length fs
    → get_or es i e ≡ get_or fs i e
have_at schema limits a b c d es fs same have also i e first second =
    let within : length (entries_of have.traced) ≡ length es = ap length have.same in
    let inside : length (entries_of also.traced) ≡ length fs = ap length also.same in
    ap (λ (l : List Entry). get_or l i e) (sym have.same)
    ∙ traced_at schema limits 0 0 a b c d have.traced also.traced same have.read also.read i e
    (omega (arith, first, within)) (omega (arith, second, inside))
    ∙ ap (λ (l : List Entry). get_or l i e) also.same
