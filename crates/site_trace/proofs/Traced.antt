-- The lines of a trace, one after another.
use Rattle.std.proofs.Common.{◌≡◌, ◌≢◌, ℕ, ◌+◌, ◌≤◌, List, [], ◌∷◌, ◌++◌, length, refl, sym, ap, subst, ◌∙◌, arith, append_assoc, append-nil, inl, inr}
use Rattle.std.specs.List.{All}
use Rattle.std.proofs.lemmas.List.{length-append}
use Rattle.std.proofs.lemmas.List.Sums.{sum_by-append, sum_by-cons}
use Rattle.field_bounds.specs.Schema.{SchemaValue}
use Rattle.script_input.specs.Lines.{whole_lines}
use Rattle.script_input.proofs.LineLemmas.{whole_lines_after-append, whole_lines_after-unbroken, last_part_after-unbroken}
use Rattle.site_trace.specs.declared.reading.TracedEntry.{TracedEntry}
use Rattle.site_trace.specs.declared.fault.TraceFault.{TraceFault}
use Rattle.site_trace.specs.declared.fault.TraceFault.TheVariants.{Line, NoMemory}
use Rattle.site_trace.specs.Traces.{lines_length, AreTraced, TellsFault}
use Rattle.site_trace.specs.Reading.{Adds, TellsOtherLine}

-- ---- one line more

pub lines_more : (lines : List (List ℕ)) (line : List ℕ) → lines_length (lines ++ line ∷ []) ≡ lines_length lines + (length line + 1)
lines_more lines line =
    let both = sum_by-append (λ (l : List ℕ). length l + 1) lines (line ∷ []) in
    omega (arith, both)

pub lines_first : (line : List ℕ) (lines : List (List ℕ)) → lines_length (line ∷ lines) ≡ (length line + 1) + lines_length lines
lines_first line lines = sum_by-cons (λ (l : List ℕ). length l + 1) line lines

traced_here : (schema : SchemaValue) (at : ℕ) (line : List ℕ) (start : ℕ) (old new : List TracedEntry) → old ≡ [] → at ≡ start
    → Adds schema line start old new → AreTraced schema at (line ∷ []) new
traced_here schema at line start old new none place (inl (other, (remark, same))) = inl (other, (remark, same ∙ none))
traced_here schema at line start old new none place (inr (entry, (is, same))) =
    let told : ℕ → List TracedEntry = λ n. record { entry = entry; start = n } ∷ [] in
    inr (entry, ([], (is, (refl, same ∙ ap (λ (l : List TracedEntry). l ++ told start) none ∙ ap told (sym place)))))

-- what one line more adds to what was read behind an entry
adds_behind : (schema : SchemaValue) (line : List ℕ) (start : ℕ) (t : TracedEntry) (old new : List TracedEntry)
    → Adds schema line start (t ∷ old) new → (later : List TracedEntry) × (Adds schema line start old later × (new ≡ t ∷ later))
adds_behind schema line start t old new (inl (other, (remark, same))) = (old, (inl (other, (remark, refl)), same))
adds_behind schema line start t old new (inr (entry, (is, same))) =
    (old ++ record { entry = entry; start = start } ∷ [], (inr (entry, (is, refl)), same))

pub traced_more : (schema : SchemaValue) (at : ℕ) (lines : List (List ℕ)) (old new : List TracedEntry) (line : List ℕ) (start : ℕ)
    → AreTraced schema at lines old → start ≡ at + lines_length lines → Adds schema line start old new
    → AreTraced schema at (lines ++ line ∷ []) new
traced_more schema at [] old new line start traced place adds =
    traced_here schema at line start old new traced (omega (arith, place)) adds
traced_more schema at (first ∷ lines) old new line start (inl (other, (remark, rest))) place adds =
    inl (other, (remark, traced_more schema (at + (length first + 1)) lines old new line start rest (omega (arith, place, lines_first first lines)) adds))
traced_more schema at (first ∷ lines) old new line start (inr (entry, (later, (is, (rest, same))))) place adds =
    let t : TracedEntry = record { entry = entry; start = at } in
    let behind = adds_behind schema line start t later new (subst (λ (l : List TracedEntry). Adds schema line start l new) same adds) in
    inr (
      entry,
      (
        behind.0,
        (
          is,
          (
            traced_more schema (at + (length first + 1)) lines later behind.0 line start rest
                (omega (arith, place, lines_first first lines)) behind.1.0,
            behind.1.1,
          ),
        ),
      ),
    )

-- ---- what was read so far

-- These entries are those of the lines in front of the rest, which are so many, and have so many bytes.
pub record IsReadTo (schema : SchemaValue) (bytes rest : List ℕ) (traced : List TracedEntry) (at number : ℕ) : Type 0 where
  pub lines : List (List ℕ)
  pub whole : whole_lines bytes ≡ lines ++ whole_lines rest
  pub front : AreTraced schema 0 lines traced
  pub size : at ≡ lines_length lines
  pub count : number ≡ length lines
  pub room : at + length rest ≡ length bytes
  pub few : number ≤ at

pub nothing_read : (schema : SchemaValue) (bytes : List ℕ) → IsReadTo schema bytes bytes [] 0 0
nothing_read schema bytes =
    record { lines = []; whole = refl; front = refl; size = refl; count = refl; room = omega arith; few = omega arith }

-- a line and what stands behind it
pub first_line : (rest line behind : List ℕ) → All (λ b. b ≢ 10) line → rest ≡ line ++ 10 ∷ behind
    → whole_lines rest ≡ line ∷ whole_lines behind
first_line rest line behind one is =
    ap whole_lines is ∙ whole_lines_after-append [] line (10 ∷ behind)
    ∙ simp (whole_lines_after-unbroken [] line one, last_part_after-unbroken [] line one)

pub line_read : (schema : SchemaValue) (bytes rest line behind : List ℕ) (old new : List TracedEntry) (at number : ℕ)
    → All (λ b. b ≢ 10) line → rest ≡ line ++ 10 ∷ behind → Adds schema line at old new → IsReadTo schema bytes rest old at number
    → IsReadTo schema bytes behind new (at + (length line + 1)) (number + 1)
line_read schema bytes rest line behind old new at number one is adds read = record {
  lines = read.lines ++ line ∷ [];
  whole = read.whole ∙ ap (λ (l : List (List ℕ)). read.lines ++ l) (first_line rest line behind one is)
      ∙ sym (append_assoc read.lines (line ∷ []) (whole_lines behind));
  front = traced_more schema 0 read.lines old new line at read.front (omega (arith, read.size)) adds;
  size = omega (arith, read.size, lines_more read.lines line);
  count = omega (arith, read.count, length-append read.lines (line ∷ []));
  room = omega (arith, read.room, ap length is, length-append line (10 ∷ behind));
  few = omega (arith, read.few);
}

-- the first bad line
pub bad_read : (schema : SchemaValue) (bytes rest line behind : List ℕ) (old : List TracedEntry) (at number : ℕ) (fault : TraceFault)
    → All (λ b. b ≢ 10) line → rest ≡ line ++ 10 ∷ behind → TellsOtherLine schema line (number + 1) fault → IsReadTo schema bytes rest old at number
    → TellsFault schema bytes fault
bad_read schema bytes rest line behind old at number (Line told) one is tells read = record {
  before = read.lines;
  traced = old;
  line = line;
  behind = whole_lines behind;
  parts = read.whole ∙ ap (λ (l : List (List ℕ)). read.lines ++ l) (first_line rest line behind one is);
  front = read.front;
  bad = tells.1;
  place = omega (arith, tells.0, read.count);
}
bad_read schema bytes rest line behind old at number NoMemory one is tells read = tt

-- the end
pub whole_read : (schema : SchemaValue) (bytes rest : List ℕ) (traced : List TracedEntry) (at number : ℕ) → All (λ b. b ≢ 10) rest
    → (read : IsReadTo schema bytes rest traced at number) → whole_lines bytes ≡ read.lines
whole_read schema bytes rest traced at number none read =
    read.whole ∙ ap (λ (l : List (List ℕ)). read.lines ++ l) (whole_lines_after-unbroken [] rest none) ∙ append-nil read.lines
