-- What a caller has of the next line of a reader of lines.
use Rattle.std.proofs.Common.{◌≡◌, ℕ, ◌+◌, ◌<◌, List, [], ◌∷◌, ◌++◌, Option, true, false, cond, eqb, length, refl, sym, ap, ◌∙◌, append_assoc, append-nil, inl, inr, ◌⊎◌, arith}
use Rattle.std.specs.Io.KnownBytes.{Consumes}
use Rattle.std.proofs.lemmas.List.{length-append, length_push}
use Rattle.script_input.specs.declared.streams.CallEnd.{CallEnd}
use Rattle.script_input.specs.declared.reader.LineReader.{LineReader}
use Rattle.script_input.specs.declared.fault.ScriptFault.TheVariants.{NoMemory}
use Rattle.script_input.specs.Lines.{whole_lines_after, last_part_after, whole_lines, last_part, last_line, with_header, lines_of, script_lines}
use Rattle.script_input.specs.Faults.{HasEndedAt, IsLineReached}
use Rattle.script_input.specs.Reader.{pending, Reads, StopsAt, ReadsNoFurther}
use Rattle.script_input.proofs.LineLemmas.{whole_lines_after-append, last_part_after-append, last_line-some, with_header-some}
use Rattle.script_input.proofs.ReaderLemmas.{behind_passed, between, within_gone}

-- ---- the lines of bytes that go on

lines_on : (a more : List ℕ) → lines_of (a ++ more) ≡ whole_lines a
    ++ (whole_lines_after (last_part a) more ++ last_line (last_part_after (last_part a) more))
lines_on a more =
    ap (λ (l : List (List ℕ)). l ++ last_line (last_part (a ++ more))) (whole_lines_after-append [] a more)
    ∙ append_assoc (whole_lines a) (whole_lines_after (last_part a) more) (last_line (last_part (a ++ more)))
    ∙ ap (λ (l : List ℕ). whole_lines a ++ (whole_lines_after (last_part a) more ++ last_line l)) (last_part_after-append [] a more)

-- a line that isn't ended goes on, and may be ended later
abbrev Ends : List ℕ → List ℕ → Type 0
Ends part more = (rest : List ℕ) × ((back : List (List ℕ)) × (whole_lines_after part more ≡ (part ++ rest) ∷ back))

part_on : (part more : List ℕ) → Ends part more ⊎ ((whole_lines_after part more ≡ []) × (last_part_after part more ≡ part ++ more))
part_on part [] = inr (refl, sym (append-nil part))
part_on part (b ∷ bs) =
    elim (eqb b 10) as (λ v. ((rest : List ℕ) × ((back : List (List ℕ))
    × (cond v (part ∷ whole_lines_after [] bs) (whole_lines_after (part ++ b ∷ []) bs) ≡ (part ++ rest) ∷ back)))
    ⊎ ((cond v (part ∷ whole_lines_after [] bs) (whole_lines_after (part ++ b ∷ []) bs) ≡ [])
    × (cond v (last_part_after [] bs) (last_part_after (part ++ b ∷ []) bs) ≡ part ++ b ∷ bs))) [
      | true ↦ inl ([], (whole_lines_after [] bs, ap (λ l. l ∷ whole_lines_after [] bs) (sym (append-nil part))))
      | false ↦ elim (part_on (part ++ b ∷ []) bs) [
        | inl ends ↦ inl (b ∷ ends.0, (ends.1.0, ends.1.1 ∙ ap (λ l. l ∷ ends.1.0) (append_assoc part (b ∷ []) ends.0)))
        | inr on ↦ inr (on.0, on.1 ∙ append_assoc part (b ∷ []) bs)
      ]
    ]

some_part : (part more : List ℕ) → 0 < length part → part ++ more ≡ [] → ⊥
some_part [] more some e = omega (arith, some)
some_part (b ∷ part) more some e = cc

with_header-count : (lines : List (List ℕ)) → 1 < length (with_header lines) → length lines ≡ length (with_header lines)
with_header-count [] h = absurd (omega (arith, h))
with_header-count (line ∷ lines) h = refl

-- ---- the line behind some, of which the first is the header

-- The lines of what was read go on with this line behind those that were given, and it was reached.
pub record HasNext (from to : Option (List ℕ)) (last : CallEnd) (given : List (List ℕ)) (line : List ℕ) (most : ℕ) : Type 0 where
  pub read : List ℕ
  pub later : List (List ℕ)
  pub consumed : Consumes from to read
  pub parts : script_lines read ≡ given ++ line ∷ later
  pub reached : IsLineReached read (length given + 1) most (HasEndedAt to last)

module _ (from to : Option (List ℕ)) (last : CallEnd) (r : LineReader) (header : List ℕ) (behind given : List (List ℕ))
    (headed : given ≡ header ∷ behind) where
  headed_on : (more lines : List (List ℕ)) → lines ≡ given ++ more → with_header lines ≡ given ++ more
  headed_on more lines e = ap with_header e ∙ with_header-some given more header behind headed

  -- it was given
  pub next_given : (line : List ℕ) (most : ℕ) → r.passed ≡ 0 → Reads from to last r (given ++ line ∷ []) → HasNext from to last given line most
  next_given line most none reads =
      let count : length (given ++ line ∷ []) ≡ length given + 1 = length_push given line in
      elim reads.place [
        | inl at ↦
            let later = whole_lines_after [] (pending r) ++ last_line (last_part_after [] (pending r)) in
            let lines : lines_of (reads.gone ++ pending r) ≡ given ++ line ∷ later =
            lines_on reads.gone (pending r)
            ∙ ap (λ l. whole_lines reads.gone ++ (whole_lines_after l (pending r) ++ last_line (last_part_after l (pending r))))
            (between from to last r (given ++ line ∷ []) reads none at)
            ∙ ap (λ ls. ls ++ later) (sym at.whole) ∙ append_assoc given (line ∷ []) later in record {
              read = reads.gone ++ pending r;
              later = later;
              consumed = reads.consumed;
              parts = headed_on (line ∷ later) _ lines;
              reached = record {
                front = reads.gone;
                back = pending r;
                parts = refl;
                within = within_gone from to last r (given ++ line ∷ []) reads;
                there = omega (
                  arith,
                  count,
                  ap length at.whole,
                  length-append (whole_lines reads.gone) (last_line (last_part reads.gone)),
                );
                reached = inl (omega (arith, count, ap length at.whole));
              };
            }
        | inr all ↦
            let some : length given ≡ length (header ∷ behind) = ap length headed in
            let two : 1 < length (with_header (lines_of reads.gone)) = omega (arith, some, count, ap length all.all) in record {
              read = reads.gone ++ pending r;
              later = [];
              consumed = reads.consumed;
              parts = ap (λ l. script_lines (reads.gone ++ l)) all.pending ∙ ap script_lines (append-nil reads.gone) ∙ all.all;
              reached = record {
                front = reads.gone;
                back = pending r;
                parts = refl;
                within = within_gone from to last r (given ++ line ∷ []) reads;
                there = omega (arith, count, ap length all.all, with_header-count (lines_of reads.gone) two);
                reached = inr (inr (all.pending, reads.ended all.ended));
              };
            }
      ]

  -- it is too long
  pub next_long : (most : ℕ) → most < r.passed → Reads from to last r given
      → (line : List ℕ) × ((most < length line) × HasNext from to last given line most)
  next_long most long reads =
      let at = behind_passed from to last r given reads (omega (arith, long)) in
      let whole = whole_lines reads.gone in
      let part = last_part reads.gone in
      let size : most < length part = omega (arith, long, at.passed) in
      let reached : IsLineReached (reads.gone ++ pending r) (length given + 1) most (HasEndedAt to last) = record {
        front = reads.gone;
        back = pending r;
        parts = refl;
        within = within_gone from to last r given reads;
        there = omega (
          arith,
          ap length at.whole,
          length-append whole (last_line part),
          ap length (last_line-some part (λ none. some_part part [] (omega (arith, size)) (append-nil part ∙ none))),
        );
        reached = inr (inl size);
      } in
      let lines : (line : List ℕ) (later : List (List ℕ)) → whole_lines_after part (pending r) ++ last_line (last_part_after part (pending r)) ≡ line ∷ later
      → script_lines (reads.gone ++ pending r) ≡ given ++ line ∷ later =
      λ line later e. headed_on (line ∷ later) _ (lines_on reads.gone (pending r) ∙ ap (λ ls. whole ++ ls) e ∙ ap (λ ls. ls ++ line ∷ later) (sym at.whole)) in
      elim (part_on part (pending r)) [
        | inl ends ↦ (
          part ++ ends.0,
          (
            omega (arith, size, length-append part ends.0),
            record {
              read = reads.gone ++ pending r;
              later = ends.1.0 ++ last_line (last_part_after part (pending r));
              consumed = reads.consumed;
              parts = lines (part ++ ends.0) (ends.1.0 ++ last_line (last_part_after part (pending r)))
                  (ap (λ ls. ls ++ last_line (last_part_after part (pending r))) ends.1.1);
              reached = reached;
            },
          ),
        )
        | inr on ↦ (
          part ++ pending r,
          (
            omega (arith, size, length-append part (pending r)),
            record {
              read = reads.gone ++ pending r;
              later = [];
              consumed = reads.consumed;
              parts = lines (part ++ pending r) []
                  (ap (λ ls. ls ++ last_line (last_part_after part (pending r))) on.0 ∙ ap last_line on.1
                  ∙ last_line-some (part ++ pending r) (some_part part (pending r) (omega (arith, size))));
              reached = reached;
            },
          ),
        )
      ]

-- ---- want of memory, before more is read

pub stops_no_memory : (from to : Option (List ℕ)) (last : CallEnd) (given : List (List ℕ)) → ReadsNoFurther from to given
    → StopsAt from to last given NoMemory
stops_no_memory from to last given reads = record {
  front = reads.front;
  back = reads.piece;
  consumed = reads.consumed;
  whole = reads.whole;
  why = (reads.within, reads.most);
}
