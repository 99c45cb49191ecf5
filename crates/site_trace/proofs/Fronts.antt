-- The bytes of a trace's fronts.
use Rattle.std.proofs.Common.{◌≡◌, ◌≢◌, ℕ, zero, suc, ◌+◌, cond, eqb, List, [], ◌∷◌, ◌++◌, length, take, refl, sym, ap, subst, ◌∙◌, arith, append_assoc, append-nil, inl, inr}
use Rattle.std.specs.List.{All, AllByRecursion}
use Rattle.std.proofs.lemmas.List.{length-append, take_at}
use Rattle.std.proofs.lemmas.Bool.{eqb-true, eqb-false, cases_Bool}
use Rattle.std.proofs.lemmas.List.Elements.{All-nil, All-push}
use Rattle.field_bounds.specs.Schema.{SchemaValue}
use Rattle.script_input.specs.Lines.{whole_lines_after, last_part_after, whole_lines, last_part}
use Rattle.script_input.proofs.LineLemmas.{last_part_after-append, last_part_after-unbroken}
use Rattle.site_trace.specs.declared.reading.TracedEntry.{TracedEntry}
use Rattle.site_trace.specs.declared.reading.Trace.{Trace}
use Rattle.site_trace.specs.declared.cutting.TraceEnd.{TraceEnd}
use Rattle.site_trace.specs.Traces.{lines_length, AreTraced, IsTrace}
use Rattle.site_trace.specs.Ends.{front_length, IsEnd}
use Rattle.site_trace.proofs.Traced.{lines_first, first_line}

-- ---- lines and their bytes

-- no byte is an LF
abbrev IsClean : List ℕ → Type 0
IsClean line = All (λ b. b ≢ 10) line

-- the bytes of lines, with the LF of each
pub joined : List (List ℕ) → List ℕ
joined [] = []
joined (line ∷ lines) = line ++ 10 ∷ joined lines

joined_append : (a b : List (List ℕ)) → joined (a ++ b) ≡ joined a ++ joined b
unfolding joined
joined_append [] b = refl
joined_append (line ∷ a) b = ap (λ (l : List ℕ). line ++ 10 ∷ l) (joined_append a b) ∙ sym (append_assoc line (10 ∷ joined a) (joined b))

pub joined_length : (lines : List (List ℕ)) → length (joined lines) ≡ lines_length lines
unfolding joined
joined_length [] = refl
joined_length (line ∷ lines) =
    omega (arith, length-append line (10 ∷ joined lines), joined_length lines, lines_first line lines)

-- the bytes are those of their whole lines, and their last part
pub cut_whole : (front bs : List ℕ) → front ++ bs ≡ joined (whole_lines_after front bs) ++ last_part_after front bs
unfolding joined
cut_whole front [] = append-nil front
cut_whole front (b ∷ bs) =
    let P : _ → Type 0 = λ v. front ++ b ∷ bs ≡ joined (cond v (front ∷ whole_lines_after [] bs) (whole_lines_after (front ++ b ∷ []) bs))
    ++ cond v (last_part_after [] bs) (last_part_after (front ++ b ∷ []) bs) in
    elim (cases_Bool (eqb b 10)) [
      | inl same ↦
          let is : b ≡ 10 = eqb-true b 10 same in
          let rest : bs ≡ joined (whole_lines_after [] bs) ++ last_part_after [] bs = cut_whole [] bs in
          subst P (sym same) (ap (λ (n : ℕ). front ++ n ∷ bs) is ∙ ap (λ (l : List ℕ). front ++ 10 ∷ l) rest
          ∙ sym (append_assoc front (10 ∷ joined (whole_lines_after [] bs)) (last_part_after [] bs)))
      | inr apart ↦ subst P (sym apart) (sym (append_assoc front (b ∷ []) bs) ∙ cut_whole (front ++ b ∷ []) bs)
    ]

-- no whole line has an LF
clean_lines : (front bs : List ℕ) → IsClean front → AllByRecursion IsClean (whole_lines_after front bs)
clean_lines front [] clean = tt
clean_lines front (b ∷ bs) clean =
    let P : _ → Type 0 = λ v. AllByRecursion IsClean (cond v (front ∷ whole_lines_after [] bs) (whole_lines_after (front ++ b ∷ []) bs)) in
    elim (cases_Bool (eqb b 10)) [
      | inl same ↦ subst P (sym same) (clean, clean_lines [] bs (All-nil (λ b. b ≢ 10)))
      | inr apart ↦ subst P (sym apart) (clean_lines (front ++ b ∷ []) bs (All-push (λ b. b ≢ 10) front b clean (eqb-false b 10 apart)))
    ]

-- lines with no LF in them are the whole lines of their bytes, and nothing is left behind them
record AreWhole (lines : List (List ℕ)) : Type 0 where
  pub whole : whole_lines (joined lines) ≡ lines
  pub last : last_part (joined lines) ≡ []

join_whole : (lines : List (List ℕ)) → AllByRecursion IsClean lines → AreWhole lines
unfolding joined
join_whole [] clean = record { whole = refl; last = refl }
join_whole (line ∷ lines) clean =
    let rest = join_whole lines clean.1 in
    record {
      whole = first_line (joined (line ∷ lines)) line (joined lines) clean.0 refl ∙ ap (λ (l : List (List ℕ)). line ∷ l) rest.whole;
      last = last_part_after-append [] line (10 ∷ joined lines)
          ∙ ap (λ (l : List ℕ). last_part_after l (10 ∷ joined lines)) (last_part_after-unbroken [] line clean.0) ∙ rest.last;
    }

clean_front : (a b : List (List ℕ)) → AllByRecursion IsClean (a ++ b) → AllByRecursion IsClean a
clean_front [] b clean = tt
clean_front (line ∷ a) b clean = (clean.0, clean_front a b clean.1)

-- the first lines, which have so many bytes
record IsFront (bytes : List ℕ) (n : ℕ) (lines : List (List ℕ)) : Type 0 where
  pub whole : whole_lines (take n bytes) ≡ lines
  pub last : last_part (take n bytes) ≡ []

front_of : (bytes : List ℕ) (a b : List (List ℕ)) (n : ℕ) → whole_lines bytes ≡ a ++ b → n ≡ lines_length a → IsFront bytes n a
front_of bytes a b n lines is =
    let clean = clean_front a b (subst (λ (l : List (List ℕ)). AllByRecursion IsClean l) lines (clean_lines [] bytes (All-nil (λ b. b ≢ 10)))) in
    let all : bytes ≡ joined a ++ (joined b ++ last_part bytes) =
    cut_whole [] bytes ∙ ap (λ (l : List (List ℕ)). joined l ++ last_part bytes) lines
    ∙ ap (λ (l : List ℕ). l ++ last_part bytes) (joined_append a b) ∙ append_assoc (joined a) (joined b) (last_part bytes) in
    let size : length (joined a) ≡ n = joined_length a ∙ sym is in
    let front : take n bytes ≡ joined a = ap (take n) all ∙ take_at (joined a) (joined b ++ last_part bytes) n size in
    let own = join_whole a clean in
    record { whole = ap whole_lines front ∙ own.whole; last = ap last_part front ∙ own.last }

-- ---- the lines of the first entries

record IsSplit (schema : SchemaValue) (at : ℕ) (lines : List (List ℕ)) (ts : List TracedEntry) (n : ℕ) : Type 0 where
  pub front : List (List ℕ)
  pub back : List (List ℕ)
  pub parts : lines ≡ front ++ back
  pub traced : AreTraced schema at front (take n ts)
  pub size : front_length ts (at + lines_length lines) n ≡ at + lines_length front

pub front_none : (ts : List TracedEntry) (all n : ℕ) → ts ≡ [] → front_length ts all n ≡ all
front_none ts all n none = ap (λ (l : List TracedEntry). front_length l all n) none

take_none : (ts : List TracedEntry) (n : ℕ) → ts ≡ [] → take n ts ≡ []
take_none ts zero none = refl
take_none ts (suc n) none = ap (take (suc n)) none

split_traced : (schema : SchemaValue) (at : ℕ) (lines : List (List ℕ)) (ts : List TracedEntry) (n : ℕ) → AreTraced schema at lines ts
    → IsSplit schema at lines ts n
split_traced schema at [] ts n traced = record {
  front = [];
  back = [];
  parts = refl;
  traced = take_none ts n traced;
  size = front_none ts (at + lines_length []) n traced;
}
split_traced schema at (line ∷ lines) ts n (inl (other, (remark, rest))) =
    let s = split_traced schema (at + (length line + 1)) lines ts n rest in
    let all : at + lines_length (line ∷ lines) ≡ at + (length line + 1) + lines_length lines = omega (arith, lines_first line lines) in
    record {
      front = line ∷ s.front;
      back = s.back;
      parts = ap (λ (l : List (List ℕ)). line ∷ l) s.parts;
      traced = inl (other, (remark, s.traced));
      size = ap (λ (k : ℕ). front_length ts k n) all ∙ s.size ∙ omega (arith, lines_first line s.front);
    }
split_traced schema at (line ∷ lines) ts zero (inr (entry, (later, (is, (rest, same))))) = record {
  front = [];
  back = line ∷ lines;
  parts = refl;
  traced = refl;
  size = ap (λ (l : List TracedEntry). front_length l (at + lines_length (line ∷ lines)) zero) same ∙ omega arith;
}
split_traced schema at (line ∷ lines) ts (suc n) (inr (entry, (later, (is, (rest, same))))) =
    let s = split_traced schema (at + (length line + 1)) lines later n rest in
    let all : at + lines_length (line ∷ lines) ≡ at + (length line + 1) + lines_length lines = omega (arith, lines_first line lines) in
    record {
      front = line ∷ s.front;
      back = s.back;
      parts = ap (λ (l : List (List ℕ)). line ∷ l) s.parts;
      traced = inr (entry, (take n later, (is, (s.traced, ap (take (suc n)) same))));
      size = ap (λ (l : List TracedEntry). front_length l (at + lines_length (line ∷ lines)) (suc n)) same
          ∙ ap (λ (k : ℕ). front_length later k n) all ∙ s.size ∙ omega (arith, lines_first line s.front);
    }

-- ---- what is cut

pub record HoldsFront (schema : SchemaValue) (bytes : List ℕ) (trace : Trace) (end : TraceEnd) : Type 0 where
  pub traced : AreTraced schema 0 (whole_lines (take end.length bytes)) (take end.entries trace.entries.items)
  pub whole : last_part (take end.length bytes) ≡ []

pub cut_holds : (schema : SchemaValue) (bytes : List ℕ) (trace : Trace) (kept : ℕ) (end : TraceEnd) → IsTrace schema bytes trace
    → IsEnd trace kept end → HoldsFront schema bytes trace end
cut_holds schema bytes trace kept end is cut =
    let ts = trace.entries.items in
    let s = split_traced schema 0 (whole_lines bytes) ts end.entries is.entries in
    let all : trace.length ≡ 0 + lines_length (whole_lines bytes) = omega (arith, is.length) in
    let size : front_length ts trace.length end.entries ≡ 0 + lines_length s.front =
    ap (λ (k : ℕ). front_length ts k end.entries) all ∙ s.size in
    let place : end.length ≡ lines_length s.front = omega (arith, cut.bytes, size) in
    let front = front_of bytes s.front s.back end.length s.parts place in
    record {
      traced = subst (λ (l : List (List ℕ)). AreTraced schema 0 l (take end.entries ts)) (sym front.whole) s.traced;
      whole = front.last;
    }
