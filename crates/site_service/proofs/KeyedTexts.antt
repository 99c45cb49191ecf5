-- Texts of notes and records, joined, and their whole lines.
use Rattle.std.proofs.Common.{◌≡◌, ◌≢◌, ◌⊎◌, ℕ, Bool, true, false, cond, eqb, List, [], ◌∷◌, ◌++◌, length, drop, take, refl, sym, ap, ◌∙◌, subst, inl, inr, append_assoc, append-nil, arith}
use Rattle.std.specs.List.{AllByRecursion, flat_map}
use Rattle.std.proofs.lemmas.Bool.{cases_lt, eqb-true}
use Rattle.std.proofs.lemmas.List.{drop-append-le, drop_all, length-append, take-append-drop}
use Rattle.std.proofs.lemmas.List.Elements.{All-drop}
use Rattle.kept_records.specs.declared.record.Record.{Record}
use Rattle.kept_records.specs.Text.{text}
use Rattle.kept_records.specs.Logs.{IsLog}
use Rattle.kept_records.proofs.Lines.{body}
use Rattle.script_input.specs.Lines.{last_part, last_part_after}
use Rattle.script_input.proofs.LineLemmas.{last_part-broken}
use Rattle.caller_keys.specs.Keys.{KeyNote, IsNote, note_line, KeyedLine, noted, other, line_text, records_in, IsKeyed, AreLines, EndsInLineFeed}
use Rattle.caller_keys.proofs.Lines.{body_of, line_is}
use Rattle.caller_keys.proofs.Fronts.{joined, notes_alone, plain}
use Rattle.site_service.proofs.Unkeyed.{log_no_k}
use Rattle.site_service.proofs.Whole.{last_behind}

-- ---- whole lines

pub lines_join : (a b : List ℕ) → AreLines a → AreLines b → AreLines (a ++ b)
lines_join a b first (inr ends) = inr (record {
  before = a ++ ends.before;
  ends = ap (λ (l : List ℕ). a ++ l) ends.ends ∙ sym (append_assoc a ends.before (10 ∷ []));
})
lines_join a b first (inl none) = subst AreLines (sym (ap (λ (l : List ℕ). a ++ l) none ∙ append-nil a)) first

drop_end : (n : ℕ) (xs before : List ℕ) → xs ≡ before ++ 10 ∷ [] → AreLines (drop n xs)
drop_end n xs before is = elim (cases_lt (length before) n) [
  | inl past ↦ inl (drop_all n xs (omega (arith, past, ap length is, length-append before (10 ∷ []))))
  | inr within ↦ inr (record { before = drop n before; ends = ap (drop n) is ∙ drop-append-le n before (10 ∷ []) within })
]

nothing_dropped : (n : ℕ) (xs : List ℕ) → xs ≡ [] → AreLines (drop n xs)
nothing_dropped n xs none = inl (drop_all n xs (omega (arith, ap length none)))

pub drop_lines : (n : ℕ) (xs : List ℕ) → AreLines xs → AreLines (drop n xs)
drop_lines n xs (inl none) = nothing_dropped n xs none
drop_lines n xs (inr ends) = drop_end n xs ends.before ends.ends

pub note_lines : (notes : List KeyNote) → AreLines (flat_map note_line notes)
note_lines [] = inl refl
note_lines (n ∷ ns) = lines_join (note_line n) (flat_map note_line ns) (inr (record { before = body_of n; ends = sym (line_is n) })) (note_lines ns)

-- a line has a byte
pub some_line : (n : KeyNote) (more : List ℕ) → note_line n ++ more ≡ [] → ⊥
some_line n more none = cc

text_lines : (rs : List Record) → AreLines (flat_map text rs)
text_lines [] = inl refl
text_lines (r ∷ rs) = lines_join (text r) (flat_map text rs) (inr (record { before = body r; ends = refl })) (text_lines rs)

pub log_lines : (bytes : List ℕ) (rs : List Record) → IsLog bytes rs [] → AreLines bytes
log_lines bytes rs log = subst AreLines (sym (log.parts ∙ append-nil (flat_map text rs))) (text_lines rs)

-- ---- bytes behind whose last line feed nothing stands

one_end : (b : ℕ) (bs : List ℕ) → eqb b 10 ≡ true → bs ≡ [] → EndsInLineFeed (b ∷ bs)
one_end b bs is none = record { before = []; ends = ap (λ (l : List ℕ). b ∷ l) none ∙ ap (λ (x : ℕ). x ∷ []) (eqb-true b 10 is) }

more_end : (b : ℕ) (bs : List ℕ) → EndsInLineFeed bs → EndsInLineFeed (b ∷ bs)
more_end b bs e = record { before = b ∷ e.before; ends = ap (λ (l : List ℕ). b ∷ l) e.ends }

-- bytes behind a front: there are none of both, or a line feed stands at their end
abbrev EndsBehind : List ℕ → List ℕ → Type 0
EndsBehind front bs = ((front ≡ []) × (bs ≡ [])) ⊎ EndsInLineFeed bs

ends_at : (front : List ℕ) (b : ℕ) (bs : List ℕ) (v : Bool) → eqb b 10 ≡ v → (last_part_after [] bs ≡ [] → EndsBehind [] bs)
    → (last_part_after (front ++ b ∷ []) bs ≡ [] → EndsBehind (front ++ b ∷ []) bs) → last_part_after front (b ∷ bs) ≡ []
    → EndsBehind front (b ∷ bs)
ends_at front b bs true is first more h =
    elim (first (sym (ap (λ (v : Bool). cond v (last_part_after [] bs) (last_part_after (front ++ b ∷ []) bs)) is) ∙ h)) [
      | inl none ↦ inr (one_end b bs is none.1)
      | inr e ↦ inr (more_end b bs e)
    ]
ends_at front b bs false is first more h =
    elim (more (sym (ap (λ (v : Bool). cond v (last_part_after [] bs) (last_part_after (front ++ b ∷ []) bs)) is) ∙ h)) [
      | inl none ↦ absurd (omega (arith, ap length none.0, length-append front (b ∷ [])))
      | inr e ↦ inr (more_end b bs e)
    ]

ends_after : (front bs : List ℕ) → last_part_after front bs ≡ [] → EndsBehind front bs
ends_after front [] h = inl (h, refl)
ends_after front (b ∷ bs) h = ends_at front b bs (eqb b 10) refl (ends_after [] bs) (ends_after (front ++ b ∷ []) bs) h

pub whole_lines_are : (bs : List ℕ) → last_part bs ≡ [] → AreLines bs
whole_lines_are bs whole = elim (ends_after [] bs whole) [
  | inl none ↦ inl none.1
  | inr e ↦ inr e
]

-- ---- keyed texts

-- What a log holds grows by lines of notes, and by the bytes behind the first so many.
pub keyed_more : (text : List ℕ) (notes more : List KeyNote) (n : ℕ) (bytes : List ℕ) (rs : List Record) → AreLines text
    → IsKeyed text notes (take n bytes) → AllByRecursion IsNote more → IsLog bytes rs []
    → IsKeyed ((text ++ flat_map note_line more) ++ drop n bytes) (notes ++ more) bytes
keyed_more text notes more n bytes rs whole keyed each log =
    let lines = flat_map note_line more in
    let front : IsKeyed (text ++ lines) (notes ++ more) (take n bytes ++ []) =
    joined text lines notes more (take n bytes) [] whole keyed (notes_alone more each) in
    let back : IsKeyed (drop n bytes) [] (drop n bytes) =
    plain (drop n bytes) (All-drop (λ (b : ℕ). b ≢ 75) n bytes (log_no_k bytes rs log)) in
    let all = joined (text ++ lines) (drop n bytes) (notes ++ more) [] (take n bytes ++ []) (drop n bytes)
    (lines_join text lines whole (note_lines more)) front back in
    let records : (take n bytes ++ []) ++ drop n bytes ≡ bytes =
    ap (λ (l : List ℕ). l ++ drop n bytes) (append-nil (take n bytes)) ∙ take-append-drop n bytes in
    subst (λ (ns : List KeyNote). IsKeyed ((text ++ lines) ++ drop n bytes) ns bytes) (append-nil (notes ++ more))
    (subst (IsKeyed ((text ++ lines) ++ drop n bytes) ((notes ++ more) ++ [])) records all)

-- and is whole lines still
pub lines_more : (text : List ℕ) (more : List KeyNote) (n : ℕ) (bytes : List ℕ) (rs : List Record) → AreLines text → IsLog bytes rs []
    → AreLines ((text ++ flat_map note_line more) ++ drop n bytes)
lines_more text more n bytes rs whole log =
    lines_join (text ++ flat_map note_line more) (drop n bytes) (lines_join text (flat_map note_line more) whole (note_lines more))
    (drop_lines n bytes (log_lines bytes rs log))

-- ---- the records of whole lines

text_end : (l : KeyedLine) → last_part (line_text l) ≡ []
text_end (noted n) = ap last_part (sym (line_is n)) ∙ last_part-broken (body_of n)
text_end (other bytes) = last_part-broken bytes

records_end : (l : KeyedLine) → last_part (records_in l) ≡ []
records_end (noted n) = refl
records_end (other bytes) = last_part-broken bytes

texts_end : (ls : List KeyedLine) → last_part (flat_map line_text ls) ≡ []
texts_end [] = refl
texts_end (l ∷ ls) = last_behind (line_text l) (flat_map line_text ls) (text_end l) ∙ texts_end ls

all_records_end : (ls : List KeyedLine) → last_part (flat_map records_in ls) ≡ []
all_records_end [] = refl
all_records_end (l ∷ ls) = last_behind (records_in l) (flat_map records_in ls) (records_end l) ∙ all_records_end ls

pub records_whole : (text : List ℕ) (notes : List KeyNote) (records : List ℕ) → IsKeyed text notes records → last_part text ≡ []
    → last_part records ≡ []
records_whole text notes records keyed whole =
    let texts = flat_map line_text keyed.lines in
    let others = flat_map records_in keyed.lines in
    let behind : last_part (texts ++ keyed.rest) ≡ last_part keyed.rest = last_behind texts keyed.rest (texts_end keyed.lines) in
    let same : last_part (others ++ keyed.rest) ≡ last_part keyed.rest = last_behind others keyed.rest (all_records_end keyed.lines) in
    let all : last_part text ≡ last_part (texts ++ keyed.rest) = ap last_part keyed.text_is in
    let found : last_part records ≡ last_part (others ++ keyed.rest) = ap last_part keyed.records_are in
    found ∙ same ∙ sym behind ∙ sym all ∙ whole
