-- How a window goes on.
use Rattle.std.proofs.Common.{◌≡◌, ℕ, ◌+◌, ◌-◌, ◌<◌, ◌≤◌, ◌^◌, Bool, true, false, not, List, [], ◌∷◌, ◌++◌, length, take, drop, Option, Some, refl, sym, ap, subst, ◌∙◌, arith, append_assoc, append-nil}
use Rattle.std.proofs.lemmas.List.{drop_at, length-append, length-map, length-take-le, take-append-drop, length-drop, take_all}
use Rattle.field_bounds.specs.Schema.{SchemaValue}
use Rattle.field_bounds.specs.declared.entry.Entry.{Entry}
use Rattle.file_medium.specs.Files.{ReadsAt}
use Rattle.script_input.specs.Lines.{whole_lines_after, whole_lines, last_part}
use Rattle.script_input.proofs.LineLemmas.{whole_lines_after-append}
use Rattle.site_trace.specs.declared.fault.TraceFault.{TraceFault}
use Rattle.site_trace.specs.declared.fault.TraceFault.TheVariants.{Line, NoMemory}
use Rattle.site_trace.specs.declared.reading.TracedEntry.{TracedEntry}
use Rattle.site_trace.specs.declared.reading.Trace.{Trace}
use Rattle.site_trace.specs.Traces.{entries_of, lines_length, IsTrace, IsFirstOther, TellsFault}
use Rattle.trace_windows.specs.declared.window.TraceWindow.{TraceWindow}
use Rattle.trace_windows.specs.Texts.{fault_of, HaveEntries, HasFewer, HasOtherLine, IsTextBehind, TellsWhy}
use Rattle.trace_windows.specs.Windows.{HasRead, IsOn, IsReadTo}
use Rattle.trace_windows.proofs.Lines.{drop_lines, have_both, last_more, lines_more, lines_within}

-- ---- the bytes of the file

-- what stands behind what was read
behind : (known : Option (List ℕ)) (read : ℕ) (text front back : List ℕ) → (is : IsReadTo known read text front back)
    → drop read (is.name ++ text) ≡ back
behind known read text front back is =
    let all : is.name ++ text ≡ (is.name ++ front) ++ back =
    ap (λ (l : List ℕ). is.name ++ l) is.parts ∙ sym (append_assoc is.name front back) in
    ap (drop read) all ∙ drop_at (is.name ++ front) back read (omega (arith, is.size, length-append is.name front))

-- one piece more
pub piece_read : (known : Option (List ℕ)) (read k : ℕ) (text front back buffer : List ℕ) → IsReadTo known read text front back
    → k ≤ length buffer → ReadsAt known read k buffer → IsReadTo known (read + k) text (front ++ take k buffer) (drop k back)
piece_read known read k text front back buffer is most reads =
    let at = subst (λ (l : Option (List ℕ)). ReadsAt l read k buffer) is.known_is reads in
    let next : take k buffer ≡ take k back = at.0 ∙ ap (take k) (behind known read text front back is) in
    let size : length (take k buffer) ≡ k = length-take-le k buffer most in
    record {
      name = is.name;
      known_is = is.known_is;
      fits = is.fits;
      parts = is.parts ∙ ap (λ (l : List ℕ). front ++ l) (sym (take-append-drop k back) ∙ ap (λ (l : List ℕ). l ++ drop k back) (sym next))
          ∙ sym (append_assoc front (take k buffer) (drop k back));
      size = omega (arith, is.size, length-append front (take k buffer), size);
    }

pub read_fits : (known : Option (List ℕ)) (read : ℕ) (text front back : List ℕ) → IsReadTo known read text front back → read < 2 ^ 64
read_fits known read text front back is =
    omega (arith, is.fits, is.size, length-append is.name text, ap (length {A = ℕ}) is.parts, length-append front back)

-- the end
no_more : (xs : List ℕ) → length xs ≤ 0 → xs ≡ []
no_more [] none = refl
no_more (x ∷ xs) none = absurd (omega (arith, none))

pub all_read : (known : Option (List ℕ)) (read : ℕ) (text front back buffer : List ℕ) → IsReadTo known read text front back
    → ReadsAt known read 0 buffer → 0 < length buffer → text ≡ front
all_read known read text front back buffer is reads some =
    let at = subst (λ (l : Option (List ℕ)). ReadsAt l read 0 buffer) is.known_is reads in
    let end : length (is.name ++ text) ≤ read = at.1 refl some in
    let none : back ≡ [] = no_more back
    (omega (arith, end, is.size, length-append is.name text, ap (length {A = ℕ}) is.parts, length-append front back)) in
    is.parts ∙ ap (λ (l : List ℕ). front ++ l) none ∙ append-nil front

pub rest_of : (n : ℕ) (xs : List ℕ) → take (length xs - n) (drop n xs) ≡ drop n xs
rest_of n xs = take_all (length xs - n) (drop n xs) (omega (arith, length-drop n xs))

-- ---- the window

pub is_false : (b : Bool) → not b ≡ true → b ≡ false
is_false false isnt = refl
is_false true isnt = sym isnt

pub is_true : (b : Bool) → not b ≡ false → b ≡ true
is_true true isnt = refl
is_true false isnt = sym isnt

module _ {F : Type 0} (bytes : F → Option (List ℕ)) (schema : SchemaValue) (text : List ℕ) (count n : ℕ) (w : TraceWindow F) where
  pub begins : (start : ℕ) → IsTextBehind (bytes w.file) start text → w.read ≡ start → w.torn.items ≡ [] → w.window.items ≡ [] → w.place ≡ 0
      → w.taken ≡ 0 → w.left ≡ count → count < 2 ^ 64 → n ≡ 0 → IsOn bytes schema text count n w
  begins start is read torn window place taken left few none = record {
    front = [];
    back = text;
    file = record {
      name = is.name;
      known_is = is.known_is;
      fits = is.fits;
      parts = refl;
      size = omega (arith, read, is.start_is);
    };
    before = [];
    have = record { traced = []; read = refl; same = ap entries_of (sym window) };
    torn = torn;
    within = omega (arith, place);
    counted = omega (arith, place, none);
    taken = omega (arith, taken, none);
    left = omega (arith, left, none);
    few = few;
  }

  pub reads : (next : TraceWindow F) (k : ℕ) (buffer : List ℕ) → length w.window.items ≤ w.place → IsOn bytes schema text count n w → k ≤ length buffer
      → ReadsAt (bytes w.file) w.read k buffer → bytes next.file ≡ bytes w.file → (w.read + k < 2 ^ 64 → next.read ≡ w.read + k)
      → next.torn.items ≡ w.torn.items ++ take k buffer → next.taken ≡ w.taken → next.left ≡ w.left
      → HasRead bytes schema text count n next
  reads next k buffer all on most at same read torn taken left =
      let more = piece_read (bytes w.file) w.read k text on.front on.back buffer on.file most at in
      let is = read (read_fits (bytes w.file) (w.read + k) text (on.front ++ take k buffer) (drop k on.back) more) in
      record {
        front = on.front;
        piece = take k buffer;
        back = drop k on.back;
        file = subst (λ (r : ℕ). IsReadTo (bytes next.file) r text (on.front ++ take k buffer) (drop k on.back)) (sym is)
            (subst (λ (b : Option (List ℕ)). IsReadTo b (w.read + k) text (on.front ++ take k buffer) (drop k on.back)) (sym same) more);
        before = on.before ++ entries_of w.window.items;
        have = on.have;
        torn = torn ∙ ap (λ (l : List ℕ). l ++ take k buffer) on.torn;
        counted = omega (
          arith,
          on.counted,
          on.within,
          all,
          length-append on.before (entries_of w.window.items),
          length-map w.window.items (λ (t : TracedEntry). t.entry),
        );
        taken = taken ∙ on.taken;
        left = omega (arith, left, on.left);
        few = on.few;
      }

  pub ends : (buffer : List ℕ) → length w.window.items ≤ w.place → n < count → IsOn bytes schema text count n w
      → ReadsAt (bytes w.file) w.read 0 buffer → 0 < length buffer → HasFewer schema text count
  ends buffer all less on at some =
      let whole = all_read (bytes w.file) w.read text on.front on.back buffer on.file at some in
      record {
        all = on.before ++ entries_of w.window.items;
        have = subst (λ (l : List ℕ). HaveEntries schema (whole_lines l) (on.before ++ entries_of w.window.items)) (sym whole) on.have;
        fewer = omega (
          arith,
          less,
          on.counted,
          on.within,
          all,
          length-append on.before (entries_of w.window.items),
          length-map w.window.items (λ (t : TracedEntry). t.entry),
        );
      }

  pub moves : (next : TraceWindow F) (trace : Trace) (whole : ℕ) → HasRead bytes schema text count n w → IsTrace schema w.torn.items trace
      → (trace.length ≤ length w.torn.items → whole ≡ trace.length) → bytes next.file ≡ bytes w.file → next.read ≡ w.read
      → next.torn.items ≡ drop whole w.torn.items → next.window.items ≡ trace.entries.items → next.place ≡ 0 → next.taken ≡ w.taken
      → next.left ≡ w.left → IsOn bytes schema text count n next
  moves next trace whole has is least same read torn window place taken left =
      let read_now = has.front ++ has.piece in
      let size : whole ≡ lines_length (whole_lines w.torn.items) =
      least (omega (arith, is.length, lines_within w.torn.items)) ∙ is.length in
      let line : next.torn.items ≡ last_part read_now =
      torn ∙ drop_lines w.torn.items whole size ∙ ap last_part has.torn ∙ sym (last_more has.front has.piece) in
      let here : HaveEntries schema (whole_lines (last_part has.front ++ has.piece)) (entries_of next.window.items) =
      subst (λ (l : List ℕ). HaveEntries schema (whole_lines l) (entries_of next.window.items)) has.torn
      (record { traced = trace.entries.items; read = is.entries; same = ap entries_of (sym window) }) in
      record {
        front = read_now;
        back = has.back;
        file = subst (λ (r : ℕ). IsReadTo (bytes next.file) r text read_now has.back) (sym read)
            (subst (λ (b : Option (List ℕ)). IsReadTo b w.read text read_now has.back) (sym same) has.file);
        before = has.before;
        have = subst (λ (l : List (List ℕ)). HaveEntries schema l (has.before ++ entries_of next.window.items))
            (sym (lines_more has.front has.piece))
            (have_both schema (whole_lines has.front) (whole_lines (last_part has.front ++ has.piece)) has.before
            (entries_of next.window.items) has.have here);
        torn = line;
        within = omega (arith, place);
        counted = omega (arith, place, has.counted);
        taken = taken ∙ has.taken;
        left = omega (arith, left, has.left);
        few = has.few;
      }

  other_line : (number : ℕ) → HasRead bytes schema text count n w → IsFirstOther schema w.torn.items number → HasOtherLine schema text
  other_line number has first =
      let read_now = has.front ++ has.piece in
      let later = whole_lines_after (last_part read_now) has.back in
      let lines : whole_lines text ≡ whole_lines read_now ++ later =
      ap whole_lines has.file.parts ∙ whole_lines_after-append [] read_now has.back in
      let front : whole_lines read_now ≡ whole_lines has.front ++ (first.before ++ first.line ∷ first.behind) =
      lines_more has.front has.piece
      ∙ ap (λ (l : List (List ℕ)). whole_lines has.front ++ l) (ap whole_lines (sym has.torn) ∙ first.parts) in
      record {
        before = whole_lines has.front ++ first.before;
        line = first.line;
        behind = first.behind ++ later;
        parts = lines ∙ ap (λ (l : List (List ℕ)). l ++ later)
            (front ∙ sym (append_assoc (whole_lines has.front) first.before (first.line ∷ first.behind)))
            ∙ append_assoc (whole_lines has.front ++ first.before) (first.line ∷ first.behind) later;
        bad = first.bad;
      }

  pub moves_why : (fault : TraceFault) → HasRead bytes schema text count n w → TellsFault schema w.torn.items fault
      → TellsWhy schema text count (fault_of fault)
  moves_why (Line number) has first = other_line number has first
  moves_why NoMemory has first = tt

  pub takes : (next : TraceWindow F) → w.place < length w.window.items → n < count → IsOn bytes schema text count n w → bytes next.file ≡ bytes w.file
      → next.read ≡ w.read → next.torn.items ≡ w.torn.items → next.window.items ≡ w.window.items → next.place ≡ w.place + 1
      → (w.taken + 1 < 2 ^ 64 → next.taken ≡ w.taken + 1) → (0 < w.left → next.left + 1 ≡ w.left)
      → IsOn bytes schema text count (n + 1) next
  takes next inside less on same read torn window place taken left = record {
    front = on.front;
    back = on.back;
    file = subst (λ (r : ℕ). IsReadTo (bytes next.file) r text on.front on.back) (sym read)
        (subst (λ (b : Option (List ℕ)). IsReadTo b w.read text on.front on.back) (sym same) on.file);
    before = on.before;
    have = subst (λ (l : List TracedEntry). HaveEntries schema (whole_lines on.front) (on.before ++ entries_of l)) (sym window) on.have;
    torn = torn ∙ on.torn;
    within = omega (arith, place, inside, ap (length {A = TracedEntry}) window);
    counted = omega (arith, place, on.counted);
    taken = omega (arith, on.taken, taken (omega (arith, on.taken, less, on.few)));
    left = omega (arith, on.left, left (omega (arith, on.left, less)));
    few = on.few;
  }
