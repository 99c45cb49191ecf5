-- The next line of a reader of lines.
use Rattle.std.proofs.Common.{◌≡◌, ◌≢◌, ℕ, zero, suc, ◌+◌, ◌<◌, ◌≤◌, List, [], ◌∷◌, ◌++◌, Option, Ok, true, false, length, take, drop, refl, sym, ap, ◌∙◌, subst, append_assoc, append-nil, inl, inr, ◌⊎◌, arith}
use Rattle.std.specs.List.{All}
use Rattle.std.specs.Io.KnownBytes.{Consumes, Keeps}
use Rattle.std.proofs.KnownBytes.{Consumes-nil, Consumes-kept, Consumes-trans}
use Rattle.std.proofs.lemmas.List.{length-append, length_push, length-take-le, length-drop, take-take, take-append-drop, take_all, nil_from_length}
use Rattle.std.proofs.lemmas.List.Elements.{All-take}
use Rattle.script_input.specs.declared.streams.CallEnd.{CallEnd}
use Rattle.script_input.specs.declared.reader.LineReader.{LineReader}
use Rattle.script_input.specs.declared.reader.NextLine.{NextLine}
use Rattle.script_input.specs.declared.reader.NextLine.TheVariants as nexts
use Rattle.field_bounds.specs.Header.{schema_of}
use Rattle.field_bounds.specs.declared.fault.SchemaFault.TheVariants as schema_faults
use Rattle.script_input.specs.declared.fault.ScriptFault.{ScriptFault}
use Rattle.script_input.specs.declared.fault.ScriptFault.TheVariants as faults
use Rattle.script_input.specs.declared.fault.ScriptFault.TheVariants.{Read, TooLong}
use Rattle.script_input.specs.Lines.{whole_lines, last_part, until_break, last_line, lines_of, with_header}
use Rattle.script_input.specs.Faults.{HasEndedAt, IsWithin, TellsHeader}
use Rattle.script_input.specs.Reader.{pending, given_line, IsFresh, IsDue, IsBehind, Reads, EndsLine, GivesLine, GivesPassed, FindsLong, StopsAt, ReadsNoFurther, HasGiven, HasPassed, Nexts}
use Rattle.script_input.proofs.LineLemmas.{until_break-unbroken, whole_lines-unbroken, last_part-unbroken, whole_lines-broken, last_part-broken, last_line-some, with_header-last, last_part_after-none, within-unbroken, within-nothing, some_after_line}

-- ---- how many lines there are

last_line-room : (whole : ℕ) (line : List ℕ) → (0 < length line → whole < 1000000) → whole ≤ 1000000
    → whole + length (last_line line) ≤ 1000000
last_line-room whole [] room most = omega (arith, most)
last_line-room whole (b ∷ bs) room most = let less = room (omega arith) in omega (arith, less)

with_header-most : (lines : List (List ℕ)) → length lines ≤ length (with_header lines)
with_header-most [] = omega arith
with_header-most (line ∷ lines) = omega arith

-- a last line without LF, which has a byte or is the first
pub lines_last : (whole : List (List ℕ)) (line : List ℕ) → (line ≡ [] → whole ≡ [])
    → with_header (whole ++ last_line line) ≡ whole ++ line ∷ []
lines_last [] line some = with_header-last line
lines_last (first ∷ whole) line some = ap (λ ls. first ∷ (whole ++ ls)) (last_line-some line (λ none. let e = some none in cc))

-- ---- how much stands behind the line that comes next

-- behind a part of it no more does
near_behind : (bytes part back : List ℕ) → bytes ≡ part ++ back → All (λ b. b ≢ 10) part → length bytes ≤ until_break bytes + 65536
    → length back ≤ until_break back + 65536
near_behind bytes part back parts unbroken near =
    omega (arith, ap length parts, length-append part back, ap until_break parts, until_break-unbroken part back unbroken, near)

-- nor behind its LF
near_broken : (back rest : List ℕ) → back ≡ 10 ∷ rest → length back ≤ until_break back + 65536 → length back ≤ 65536
near_broken back rest parts near = omega (arith, ap until_break parts, near)

-- and a read brings one piece
near_grown : (part piece : List ℕ) → All (λ b. b ≢ 10) part → length piece ≤ 65536
    → length (part ++ piece) ≤ until_break (part ++ piece) + 65536
near_grown part piece unbroken most = omega (arith, length-append part piece, until_break-unbroken part piece unbroken, most)

-- ---- where a reader stands

module _ (from to : Option (List ℕ)) (last : CallEnd) (old : LineReader) (given : List (List ℕ)) (reads : Reads from to last old given) where
  gone : List ℕ
  gone = reads.gone

  pub behind_some : pending old ≢ [] → IsBehind old reads.gone given
  behind_some some = elim reads.place [ inl at ↦ at | inr all ↦ absurd (some all.pending) ]

  pub behind_open : old.ended ≡ false → IsBehind old reads.gone given
  behind_open not_ended = elim reads.place [ inl at ↦ at | inr all ↦ let e = sym not_ended ∙ all.ended in cc ]

  pub behind_passed : 0 < old.passed → IsBehind old reads.gone given
  behind_passed some = elim reads.place [ inl at ↦ at | inr all ↦ absurd (omega (arith, some, all.passed)) ]

  pub behind_first : old.lines ≡ 0 → IsBehind old reads.gone given
  behind_first none =
      elim reads.place [
        | inl at ↦ at
        | inr all ↦
            absurd (omega (arith, none, reads.lines, ap length all.parts, length_push (whole_lines reads.gone) (last_part reads.gone)))
      ]

  pub between : old.passed ≡ 0 → IsBehind old reads.gone given → last_part reads.gone ≡ []
  between none at = nil_from_length (last_part reads.gone) (sym at.passed ∙ none)

  -- what is gone is within the limits
  pub within_gone : IsWithin reads.gone
  within_gone = record {
    lines = elim reads.place [
      | inl at ↦
          let count : old.lines ≡ length (whole_lines reads.gone) = reads.lines ∙ ap length at.whole in
          let most = last_line-room (length (whole_lines reads.gone)) (last_part reads.gone)
          (λ some. let inside = old.inside (omega (arith, some, at.passed)) in omega (arith, inside, count))
          (omega (arith, count, old.few)) in
          omega (arith, most, length-append (whole_lines reads.gone) (last_line (last_part reads.gone)))
      | inr all ↦ omega (arith, with_header-most (lines_of reads.gone), ap length all.all, reads.lines, old.few)
    ];
    bytes = omega (arith, reads.taken, old.small);
  }

  -- a part of a line behind what is gone
  module _ (part back : List ℕ) (parts : pending old ≡ part ++ back) (unbroken : All (λ b. b ≢ 10) part)
      (at : IsBehind old reads.gone given) where
    whole : whole_lines (reads.gone ++ part) ≡ given
    whole = whole_lines-unbroken reads.gone part unbroken ∙ sym at.whole

    part_last : last_part (reads.gone ++ part) ≡ last_part reads.gone ++ part
    part_last = last_part-unbroken reads.gone part unbroken

    split : reads.gone ++ pending old ≡ (reads.gone ++ part) ++ back
    split = ap (λ l. reads.gone ++ l) parts ∙ sym (append_assoc reads.gone part back)

    size : length (reads.gone ++ part) ≡ old.taken + length part
    size = omega (arith, length-append reads.gone part, reads.taken)

    near : length back ≤ until_break back + 65536
    near = near_behind (pending old) part back parts unbroken reads.near

    pub within_part : old.lines < 1000000 → old.taken + length part ≤ 268435456 → IsWithin (reads.gone ++ part)
    within_part lines bytes = record {
      lines = within-unbroken reads.gone part unbroken (omega (arith, lines, reads.lines, ap length at.whole));
      bytes = omega (arith, size, bytes);
    }

    -- a byte follows the last byte that there may be
    pub stops_past : back ≢ [] → old.lines < 1000000 → old.taken + length part ≡ 268435456 → StopsAt from to last given TooLong
    stops_past some lines bytes = record {
      front = reads.gone ++ part;
      back = back;
      consumed = subst (Consumes from to) split reads.consumed;
      whole = whole;
      why = (within_part lines (omega (arith, bytes)), (some, inr (omega (arith, size, bytes))));
    }

    -- the part is passed over
    pub reads_passed : (new : LineReader) → pending new ≡ back → new.taken ≡ old.taken + length part → new.lines ≡ old.lines
        → new.passed ≡ old.passed + length part → new.ended ≡ old.ended → Reads from to last new given
    reads_passed new left taken lines passed ended = record {
      gone = reads.gone ++ part;
      consumed = subst (Consumes from to) (split ∙ ap (λ l. (reads.gone ++ part) ++ l) (sym left)) reads.consumed;
      ended = λ e. reads.ended (sym ended ∙ e);
      taken = taken ∙ sym size;
      lines = lines ∙ reads.lines;
      place = inl (record {
        whole = sym whole;
        passed = omega (arith, passed, at.passed, ap length part_last, length-append (last_part reads.gone) part);
      });
      near = subst (λ l. length l ≤ until_break l + 65536) (sym left) near;
    }

    -- an LF ends the line
    pub reads_broken : (new : LineReader) → back ≡ 10 ∷ pending new → new.taken ≡ old.taken + (length part + 1)
        → new.lines ≡ old.lines + 1 → new.passed ≡ 0 → new.ended ≡ old.ended
        → Reads from to last new (given ++ (last_part reads.gone ++ part) ∷ [])
    reads_broken new left taken lines passed ended =
        let all = (reads.gone ++ part) ++ 10 ∷ [] in record {
          gone = all;
          consumed = subst (Consumes from to) (split ∙ ap (λ l. (reads.gone ++ part) ++ l) left
              ∙ sym (append_assoc (reads.gone ++ part) (10 ∷ []) (pending new))) reads.consumed;
          ended = λ e. reads.ended (sym ended ∙ e);
          taken = omega (arith, taken, size, length_push (reads.gone ++ part) 10);
          lines = lines ∙ ap (λ n. n + 1) reads.lines ∙ sym (length_push given (last_part reads.gone ++ part));
          place = inl (record {
            whole = sym (whole_lines-broken (reads.gone ++ part) ∙ ap (λ ls. ls ++ last_part (reads.gone ++ part) ∷ []) whole
                ∙ ap (λ l. given ++ l ∷ []) part_last);
            passed = passed ∙ sym (ap length (last_part-broken (reads.gone ++ part)));
          });
          near = omega (arith, near_broken back (pending new) left near, ap length left);
        }

    -- the end of the input ends it
    pub reads_ended : (new : LineReader) → back ≡ [] → pending new ≡ [] → new.taken ≡ old.taken + length part
        → new.lines ≡ old.lines + 1 → new.passed ≡ 0 → new.ended ≡ true → old.ended ≡ true
        → (last_part reads.gone ++ part ≡ [] → given ≡ [])
        → Reads from to last new (given ++ (last_part reads.gone ++ part) ∷ [])
    reads_ended new none left taken lines passed ended was some =
        let line = last_part reads.gone ++ part in record {
          gone = reads.gone ++ part;
          consumed = subst (Consumes from to) (split ∙ ap (λ l. (reads.gone ++ part) ++ l) (none ∙ sym left)) reads.consumed;
          ended = λ e. reads.ended was;
          taken = taken ∙ sym size;
          lines = lines ∙ ap (λ n. n + 1) reads.lines ∙ sym (length_push given line);
          place = inr (record {
            ended = ended;
            pending = left;
            passed = passed;
            parts = sym (ap (λ ls. ls ++ last_part (reads.gone ++ part) ∷ []) whole ∙ ap (λ l. given ++ l ∷ []) part_last);
            all = ap (λ ls. with_header (ls ++ last_line (last_part (reads.gone ++ part)))) whole
                ∙ ap (λ l. with_header (given ++ last_line l)) part_last ∙ lines_last given line some;
          });
          near = omega (arith, ap length left);
        }

    -- the line is given
    pub gives_line : (new : LineReader) (most : ℕ) → old.passed ≡ 0 → given_line new ≡ part → length part ≤ most → new.passed ≡ 0
        → old.lines < 1000000 → old.taken + length part ≤ 268435456 → EndsLine given part back (HasEndedAt to last) → length back ≤ 65536
        → Reads from to last new (given ++ (last_part reads.gone ++ part) ∷ []) → GivesLine from to last given new most
    gives_line new most none line short passed lines bytes ends few stands =
        let part_only : last_part reads.gone ++ part ≡ part = ap (λ l. l ++ part) (between none at) in record {
          front = reads.gone ++ part;
          back = back;
          consumed = subst (Consumes from to) split reads.consumed;
          whole = whole;
          part = part_last ∙ part_only ∙ sym line;
          within = within_part lines bytes;
          ends = subst (λ l. EndsLine given l back (HasEndedAt to last)) (sym line) ends;
          near = few;
          short = subst (λ l. length l ≤ most) (sym line) short;
          passed = passed;
          reads = subst (λ l. Reads from to last new (given ++ l ∷ [])) (part_only ∙ sym line) stands;
        }

    -- a line is given of which bytes were passed over
    pub gives_passed : (new : LineReader) → 0 < old.passed → new.passed ≡ 0
        → old.lines < 1000000 → old.taken + length part ≤ 268435456 → length back ≤ 65536
        → Reads from to last new (given ++ (last_part reads.gone ++ part) ∷ []) → GivesPassed from to last given old new
    gives_passed new was passed lines bytes few stands = record {
      line = last_part reads.gone ++ part;
      was = was;
      long = omega (arith, at.passed, length-append (last_part reads.gone) part);
      passed = passed;
      no_further = record {
        front = reads.gone ++ part;
        piece = back;
        consumed = subst (Consumes from to) split reads.consumed;
        whole = whole;
        within = within_part lines bytes;
        most = few;
      };
      reads = stands;
    }

  -- ---- a read

  within_due : IsDue old → IsWithin (reads.gone ++ pending old)
  within_due due = elim due.lines [
    | inl room ↦
        within_part (pending old) [] (sym (append-nil (pending old))) due.unbroken (behind_open due.not_ended) room due.bytes
    | inr none ↦ subst IsWithin (sym (ap (λ l. reads.gone ++ l) none.0 ∙ append-nil reads.gone)) within_gone
  ]

  -- at its fault what was read is all
  pub stops_read : (later : Option (List ℕ)) (end : CallEnd) → Keeps to later → IsDue old → StopsAt from later end given Read
  stops_read later end kept due =
      let at = behind_open due.not_ended in
      let same : whole_lines (reads.gone ++ pending old) ≡ given =
      whole_lines-unbroken reads.gone (pending old) due.unbroken ∙ sym at.whole in
      record {
        front = reads.gone ++ pending old;
        back = [];
        consumed = subst (Consumes from later) (sym (append-nil (reads.gone ++ pending old)))
            (Consumes-kept from to later (reads.gone ++ pending old) reads.consumed kept);
        whole = same;
        why = (within_due due, refl);
      }

  -- a read brings more
  pub reads_more : (later : Option (List ℕ)) (end : CallEnd) (new : LineReader) (piece : List ℕ) → IsDue old → Consumes to later piece
      → length piece ≤ 65536 → pending new ≡ pending old ++ piece → new.taken ≡ old.taken → new.lines ≡ old.lines → new.passed ≡ old.passed
      → new.ended ≡ old.ended → Reads from later end new given
  reads_more later end new piece due got most left taken lines passed ended =
      let at = behind_open due.not_ended in record {
        gone = reads.gone;
        consumed = subst (Consumes from later) (append_assoc reads.gone (pending old) piece ∙ ap (λ l. reads.gone ++ l) (sym left))
            (Consumes-trans from to later (reads.gone ++ pending old) piece reads.consumed got);
        ended = λ e. let never = sym due.not_ended ∙ (sym ended ∙ e) in cc;
        taken = taken ∙ reads.taken;
        lines = lines ∙ reads.lines;
        place = inl (record { whole = at.whole; passed = passed ∙ at.passed });
        near = subst (λ l. length l ≤ until_break l + 65536) (sym left) (near_grown (pending old) piece due.unbroken most);
      }

  -- and it is one piece
  pub reads_no_further : (later : Option (List ℕ)) (piece : List ℕ) → IsDue old → Consumes to later piece → length piece ≤ 65536
      → ReadsNoFurther from later given
  reads_no_further later piece due got most = record {
    front = reads.gone ++ pending old;
    piece = piece;
    consumed = Consumes-trans from to later (reads.gone ++ pending old) piece reads.consumed got;
    whole = whole_lines-unbroken reads.gone (pending old) due.unbroken ∙ sym (behind_open due.not_ended).whole;
    within = within_due due;
    most = most;
  }

-- ---- what is found

pub zero_or_some : (n : ℕ) → (n ≡ 0) ⊎ (0 < n)
zero_or_some zero = inl refl
zero_or_some (suc n) = inr (omega arith)

pub some_of : (n : ℕ) → (n ≡ 0 → ⊥) → 0 < n
some_of zero some = absurd (some refl)
some_of (suc n) some = omega arith

module _ (from to : Option (List ℕ)) (last : CallEnd) (old new : LineReader) (given : List (List ℕ)) (reads : Reads from to last old given)
    (count : ℕ) (fits : count ≤ length (pending old)) (unbroken : All (λ b. b ≢ 10) (take count (pending old))) where
  -- the first bytes of the part
  front_unbroken : (k : ℕ) → k ≤ count → All (λ b. b ≢ 10) (take k (pending old))
  front_unbroken k h = subst (All (λ b. b ≢ 10)) (take-take k count (pending old) h) (All-take (λ b. b ≢ 10) k (take count (pending old)) unbroken)

  front_size : (k : ℕ) → k ≤ count → length (take k (pending old)) ≡ k
  front_size k h = length-take-le k (pending old) (omega (arith, h, fits))

  some : 0 < length (pending old) → pending old ≢ []
  some h none = let zero : length (pending old) ≡ 0 = ap length none in absurd (omega (arith, zero, h))

  pub passes : (k : ℕ) → k ≤ count → HasPassed old new k → IsBehind old reads.gone given → Reads from to last new given
  passes k h step at =
      let size = front_size k h in
      reads_passed from to last old given reads (take k (pending old)) (drop k (pending old)) (sym (take-append-drop k (pending old)))
      (front_unbroken k h) at new step.pending (step.taken ∙ ap (λ n. old.taken + n) (sym size)) step.lines
      (step.passed ∙ ap (λ n. old.passed + n) (sym size)) step.ended

  pub finds_long : (k most : ℕ) → k ≤ count → most < k → HasPassed old new k → FindsLong from to last given new most
  finds_long k most h long step = record {
    long = omega (arith, long, step.passed);
    reads = passes k h step (behind_some from to last old given reads (some (omega (arith, h, long, fits))));
  }

  pub finds_past : (room : ℕ) → room ≤ count → room < length (pending old) → old.lines < 1000000 → old.taken + room ≡ 268435456
      → StopsAt from to last given TooLong
  finds_past room h less lines bytes =
      stops_past from to last old given reads (take room (pending old)) (drop room (pending old)) (sym (take-append-drop room (pending old)))
      (front_unbroken room h) (behind_some from to last old given reads (some (omega (arith, less))))
      (λ none. let zero : length (drop room (pending old)) ≡ 0 = ap length none in
      absurd (omega (arith, zero, less, length-drop room (pending old))))
      lines (omega (arith, bytes, front_size room h))

  -- the line that an LF or the end of the input ends
  nexts_given : (part back : List ℕ) (most : ℕ) (next : NextLine) → (old.passed ≡ 0 → next ≡ nexts.Line) → (0 < old.passed → next ≡ nexts.Passed)
      → pending old ≡ part ++ back → All (λ b. b ≢ 10) part → given_line new ≡ part → new.passed ≡ 0
      → old.lines < 1000000 → old.taken + length part ≤ 268435456 → (old.passed ≡ 0 → length part ≤ most)
      → (old.passed ≡ 0 → EndsLine given part back (HasEndedAt to last)) → length back ≤ 65536
      → (at : IsBehind old reads.gone given) → Reads from to last new (given ++ (last_part reads.gone ++ part) ∷ [])
      → Nexts from to last given old new most (Ok next)
  nexts_given part back most next is_line is_passed parts whole line passed lines bytes short ends few at stands =
      elim (zero_or_some old.passed) [
        | inl none ↦
            subst (λ n. Nexts from to last given old new most (Ok n)) (sym (is_line none))
            (gives_line from to last old given reads part back parts whole at new most none line (short none) passed lines bytes (ends none)
            few stands)
        | inr was ↦
            subst (λ n. Nexts from to last given old new most (Ok n)) (sym (is_passed was))
            (gives_passed from to last old given reads part back parts whole at new was passed lines bytes few stands)
      ]

  module _ (most : ℕ) (next : NextLine) (is_line : old.passed ≡ 0 → next ≡ nexts.Line) (is_passed : 0 < old.passed → next ≡ nexts.Passed)
      (lines : old.lines < 1000000) (short : old.passed ≡ 0 → count ≤ most) where
    pub finds_broken : HasGiven old new count 1 → pending old ≡ take count (pending old) ++ 10 ∷ drop (count + 1) (pending old)
        → old.taken + count < 268435456 → Nexts from to last given old new most (Ok next)
    finds_broken step parts bytes =
        let size = front_size count (omega arith) in
        let left : 10 ∷ drop (count + 1) (pending old) ≡ 10 ∷ pending new = ap (λ l. 10 ∷ l) (sym step.pending) in
        let more : pending old ≢ [] = λ none. some_after_line (pending old) (take count (pending old)) (drop (count + 1) (pending old)) [] parts
        (ap (λ l. l ++ []) none) in
        let at = behind_some from to last old given reads more in
        nexts_given (take count (pending old)) (10 ∷ drop (count + 1) (pending old)) most next is_line is_passed parts unbroken step.line
        step.passed lines (omega (arith, size, bytes)) (λ none. let h = short none in omega (arith, h, size)) (λ none. inl (drop (count + 1) (pending old), refl))
        (near_broken (10 ∷ drop (count + 1) (pending old)) (drop (count + 1) (pending old)) refl
        (near_behind (pending old) (take count (pending old)) (10 ∷ drop (count + 1) (pending old)) parts unbroken reads.near)) at
        (reads_broken from to last old given reads (take count (pending old)) (10 ∷ drop (count + 1) (pending old)) parts unbroken at new left
        (omega (arith, step.taken, size)) step.lines step.passed step.ended)

    pub finds_last : HasGiven old new count 0 → count ≡ length (pending old) → old.ended ≡ true → old.taken + count ≤ 268435456
        → (at : IsBehind old reads.gone given) → (0 < count + old.passed) ⊎ (old.lines ≡ 0) → Nexts from to last given old new most (Ok next)
    finds_last step all ended bytes at some_or_first =
        let size = front_size count (omega arith) in
        let part = take count (pending old) in
        let parts : pending old ≡ part ++ [] = sym (append-nil part ∙ take_all count (pending old) (omega (arith, all))) in
        let left : pending new ≡ [] = nil_from_length (pending new)
        (ap length step.pending ∙ length-drop (count + 0) (pending old) ∙ omega (arith, all)) in
        let none_first : last_part reads.gone ++ part ≡ [] → given ≡ [] = λ none.
        elim some_or_first [
          | inl h ↦
              let zero : length (last_part reads.gone ++ part) ≡ 0 = ap length none in
              absurd (omega (arith, zero, h, at.passed, size, length-append (last_part reads.gone) part))
          | inr h ↦ nil_from_length given (sym reads.lines ∙ h)
        ] in
        nexts_given part [] most next is_line is_passed parts unbroken step.line step.passed lines (omega (arith, size, bytes))
        (λ none. let h = short none in omega (arith, h, size))
        (λ none. inr (refl, (reads.ended ended, λ e. none_first (ap (λ l. l ++ part) (between from to last old given reads none at) ∙ e)))) (omega arith) at
        (reads_ended from to last old given reads part [] parts unbroken at new refl left (omega (arith, step.taken, size)) step.lines step.passed
        (step.ended ∙ ended) ended none_first)

-- before the first read
pub reads_none : (from : Option (List ℕ)) (last : CallEnd) (r : LineReader) → IsFresh r → Reads from from last r []
reads_none from last r fresh = record {
  gone = [];
  consumed = subst (Consumes from from) (sym fresh.pending) (Consumes-nil from);
  ended = λ e. let never = sym fresh.ended ∙ e in cc;
  taken = fresh.taken;
  lines = fresh.lines;
  place = inl (record { whole = refl; passed = fresh.passed });
  near = omega (arith, ap length fresh.pending);
}

-- and while none is needed
pub no_further_none : (from to : Option (List ℕ)) → (to ≡ from) ⊎ ReadsNoFurther from to [] → ReadsNoFurther from to []
no_further_none from to (inl same) = record {
  front = [];
  piece = [];
  consumed = subst (λ (t : Option (List ℕ)). Consumes from t []) (sym same) (Consumes-nil from);
  whole = refl;
  within = within-nothing;
  most = omega arith;
}
no_further_none from to (inr reads) = reads

-- what was passed over before reads stays so
pub nexts_from : (from to : Option (List ℕ)) (last : CallEnd) (given : List (List ℕ)) (old middle new : LineReader) (most : ℕ) (next : NextLine)
    → (old.passed ≡ 0 → middle.passed ≡ 0) → old.passed ≤ middle.passed → Nexts from to last given middle new most (Ok next)
    → Nexts from to last given old new most (Ok next)
nexts_from from to last given old middle new most nexts.Line none more is = is
nexts_from from to last given old middle new most nexts.Long none more is = is
nexts_from from to last given old middle new most nexts.Passed none more is = record {
  line = is.line;
  was = some_of old.passed (λ zero. let none' = none zero in let was = is.was in omega (arith, none', was));
  long = omega (arith, more, is.long);
  passed = is.passed;
  no_further = is.no_further;
  reads = is.reads;
}
nexts_from from to last given old middle new most nexts.End none more is = is

-- ---- the header line

-- it tells no schema
pub stops_header : (from to : Option (List ℕ)) (last : CallEnd) (r : LineReader) (most : ℕ) (fault : ScriptFault)
    → GivesLine from to last [] r most → TellsHeader fault (schema_of (given_line r)) → StopsAt from to last [] fault
stops_header from to last r most (faults.Header e) line told =
    let all : line.front ≡ given_line r = sym (last_part_after-none [] line.front line.whole) ∙ line.part in record {
      front = line.front;
      back = line.back;
      consumed = line.consumed;
      whole = line.whole;
      why = (
        line.within,
        (
          line.whole,
          inl (ap schema_of all ∙ told, elim line.ends [ inl breaks ↦ inl breaks | inr ended ↦ inr (ended.0, ended.1.0) ]),
        ),
      );
    }
stops_header from to last r most faults.NoMemory line told = record {
  front = line.front;
  back = line.back;
  consumed = line.consumed;
  whole = line.whole;
  why = (line.within, line.near);
}
stops_header from to last r most faults.Read line told = absurd told
stops_header from to last r most faults.TooLong line told = absurd told
stops_header from to last r most faults.Write line told = absurd told
stops_header from to last r most (faults.BadLine n) line told = absurd told
stops_header from to last r most (faults.Work e) line told = absurd told
stops_header from to last r most faults.Stuck line told = absurd told
stops_header from to last r most faults.Illegal line told = absurd told

-- it is too long
pub stops_long : (from to : Option (List ℕ)) (last : CallEnd) (r : LineReader) → FindsLong from to last [] r 65536
    → StopsAt from to last [] (faults.Header schema_faults.TooLong)
stops_long from to last r long =
    let reads = long.reads in
    let at = behind_passed from to last r [] reads (omega (arith, long.long)) in
    let all : last_part reads.gone ≡ reads.gone = last_part_after-none [] reads.gone (sym at.whole) in record {
      front = reads.gone;
      back = pending r;
      consumed = reads.consumed;
      whole = sym at.whole;
      why = (
        within_gone from to last r [] reads,
        (sym at.whole, inr (refl, omega (arith, long.long, at.passed, ap length all))),
      );
    }

-- there is always a header line
pub header_there : (lines : List (List ℕ)) → with_header lines ≡ [] → ⊥
header_there [] e = cc
header_there (line ∷ lines) e = cc
