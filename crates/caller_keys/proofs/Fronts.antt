-- Texts of lines joined, and their fronts.
use Rattle.std.proofs.Common.{append_assoc, ◌≡◌, ◌≢◌, ◌⊎◌, ℕ, ◌+◌, ◌-◌, ◌<◌, ◌≤◌, List, [], ◌∷◌, ◌++◌, inl, inr, length, take, flat_map, refl, sym, ap, subst, ◌∙◌, arith}
use Rattle.std.specs.List.{AllByRecursion}
use Rattle.std.proofs.lemmas.Bool.{cases_eq, cases_lt}
use Rattle.std.proofs.lemmas.List.{append-nil, length-append, take-append-le}
use Rattle.std.proofs.Math.Seq.{take-append-add}
use Rattle.std.proofs.lemmas.Grind.{flat_map-append}
use Rattle.std.proofs.lemmas.List.Elements.{All-nil, All-cons, All-head, All-tail, All-append, All-take}
use Rattle.caller_keys.specs.Keys.{KeyNote, IsNote, note_line, HasNoLf, KeyedLine, noted, other, line_text, IsOther, IsLine, notes_in, records_in, IsKeyed, AreLines, LeavesFront, CutsRest}
use Rattle.caller_keys.proofs.Lines.{Without, no_cut, Same, by_test, tested}
use Rattle.caller_keys.proofs.Texts.{all_append, body, body_free}

-- ---- one line more

pub keyed_none : IsKeyed [] [] []
keyed_none = record { lines = []; rest = []; each = tt; no_lf = refl; text_is = refl; notes_are = refl; records_are = refl }

pub keyed_more : (l : KeyedLine) (text : List ℕ) (notes : List KeyNote) (records : List ℕ) → IsLine l → IsKeyed text notes records
    → IsKeyed (line_text l ++ text) (notes_in l ++ notes) (records_in l ++ records)
keyed_more l text notes records is k = record {
  lines = l ∷ k.lines;
  rest = k.rest;
  each = (is, k.each);
  no_lf = k.no_lf;
  text_is = ap (λ (t : List ℕ). line_text l ++ t) k.text_is ∙ sym (append_assoc (line_text l) (flat_map line_text k.lines) k.rest);
  notes_are = ap (λ (ns : List KeyNote). notes_in l ++ ns) k.notes_are;
  records_are = ap (λ (t : List ℕ). records_in l ++ t) k.records_are
      ∙ sym (append_assoc (records_in l) (flat_map records_in k.lines) k.rest);
}

-- lines of notes alone
pub notes_alone : (ns : List KeyNote) → AllByRecursion IsNote ns → IsKeyed (flat_map note_line ns) ns []
notes_alone [] all = keyed_none
notes_alone (n ∷ ns) all = keyed_more (noted n) (flat_map note_line ns) ns [] all.0 (notes_alone ns all.1)

-- ---- texts with no `K`

plain_line : (line : List ℕ) → Without 10 line → Without 75 line → IsOther line
plain_line [] one clear = record { one_line = refl; none = λ n is e. cc }
plain_line (b ∷ line) one clear = record {
  one_line = tested 10 (b ∷ line) one;
  none = λ n is e. let first : b ≡ 75 = cc in All-head (λ b. b ≢ 75) b line clear first;
}

either : {P Q R : Type 0} → P ⊎ Q → (P → R) → (Q → R) → R
either (inl p) f g = f p
either (inr q) f g = g q

plain_from : (text line : List ℕ) → Without 10 line → Without 75 line → Without 75 text → IsKeyed (line ++ text) [] (line ++ text)
plain_from [] line one clear all = record {
  lines = [];
  rest = line ++ [];
  each = tt;
  no_lf = tested 10 (line ++ []) (All-append (λ b. b ≢ 10) line [] one (All-nil (λ b. b ≢ 10)));
  text_is = refl;
  notes_are = refl;
  records_are = refl;
}
plain_from (b ∷ text) line one clear all =
    let more : Without 75 text = All-tail (λ b. b ≢ 75) b text all in
    let at_lf : b ≡ 10 → IsKeyed (line ++ b ∷ text) [] (line ++ b ∷ text) = λ is.
    let behind : IsKeyed text [] text = plain_from text [] (All-nil (λ b. b ≢ 10)) (All-nil (λ b. b ≢ 75)) more in
    let k = keyed_more (other line) text [] text (plain_line line one clear) behind in
    let moved : (line ++ 10 ∷ []) ++ text ≡ line ++ b ∷ text =
    append_assoc line (10 ∷ []) text ∙ ap (λ (c : ℕ). line ++ c ∷ text) (sym is) in
    subst (λ (t : List ℕ). IsKeyed t [] t) moved k in
    let at_other : (b ≡ 10 → ⊥) → IsKeyed (line ++ b ∷ text) [] (line ++ b ∷ text) = λ apart.
    let longer_one : Without 10 (line ++ b ∷ []) =
    All-append (λ b. b ≢ 10) line (b ∷ []) one (All-cons (λ b. b ≢ 10) b [] apart (All-nil (λ b. b ≢ 10))) in
    let longer_clear : Without 75 (line ++ b ∷ []) =
    All-append (λ b. b ≢ 75) line (b ∷ []) clear
    (All-cons (λ b. b ≢ 75) b [] (All-head (λ b. b ≢ 75) b text all) (All-nil (λ b. b ≢ 75))) in
    subst (λ (t : List ℕ). IsKeyed t [] t) (append_assoc line (b ∷ []) text)
    (plain_from text (line ++ b ∷ []) longer_one longer_clear more) in
    either (cases_eq b 10) at_lf at_other

pub plain : (text : List ℕ) → Without 75 text → IsKeyed text [] text
plain text clear = plain_from text [] (All-nil (λ b. b ≢ 10)) (All-nil (λ b. b ≢ 75)) clear

-- ---- two texts

nothing_behind : (a b : List ℕ) → a ++ b ≡ [] → b ≡ []
nothing_behind [] b is = is
nothing_behind (x ∷ a) b is = absurd cc

no_last : (front rest before : List ℕ) → front ++ rest ≡ before ++ 10 ∷ [] → Without 10 rest → rest ≡ []
no_last [] rest before is free = absurd (no_cut 10 rest before [] free is)
no_last (x ∷ front) rest [] is free = let none : front ++ rest ≡ [] = cc in nothing_behind front rest none
no_last (x ∷ front) rest (y ∷ before) is free = let tails : front ++ rest ≡ before ++ 10 ∷ [] = cc in no_last front rest before tails free

no_rest : (front rest : List ℕ) → AreLines (front ++ rest) → Without 10 rest → rest ≡ []
no_rest front rest (inl is) free = nothing_behind front rest is
no_rest front rest (inr e) free = no_last front rest e.before e.ends free

rest_of_lines : (text : List ℕ) (ns : List KeyNote) (r : List ℕ) → AreLines text → (k : IsKeyed text ns r) → k.rest ≡ []
rest_of_lines text ns r lines k =
    no_rest (flat_map line_text k.lines) k.rest (subst AreLines k.text_is lines) (by_test 10 k.rest k.no_lf)

regroup : (a r b s : List ℕ) → r ≡ [] → (a ++ r) ++ (b ++ s) ≡ (a ++ b) ++ s
regroup a r b s none =
    ap (λ (l : List ℕ). (a ++ l) ++ (b ++ s)) none ∙ ap (λ (l : List ℕ). l ++ (b ++ s)) (append-nil a) ∙ sym (append_assoc a b s)

both : {A : Type 0} (a b c d : List A) → a ≡ b → c ≡ d → a ++ c ≡ b ++ d
both a b c d p q = ap (λ l. l ++ c) p ∙ ap (λ l. b ++ l) q

pub joined : (text more : List ℕ) (ns ms : List KeyNote) (r s : List ℕ) → AreLines text → IsKeyed text ns r → IsKeyed more ms s
    → IsKeyed (text ++ more) (ns ++ ms) (r ++ s)
joined text more ns ms r s lines k j =
    let none = rest_of_lines text ns r lines k in
    record {
      lines = k.lines ++ j.lines;
      rest = j.rest;
      each = all_append k.lines j.lines k.each j.each;
      no_lf = j.no_lf;
      text_is = both text _ more _ k.text_is j.text_is
          ∙ regroup (flat_map line_text k.lines) k.rest (flat_map line_text j.lines) j.rest none
          ∙ ap (λ (l : List ℕ). l ++ j.rest) (sym (flat_map-append line_text k.lines j.lines));
      notes_are = both ns _ ms _ k.notes_are j.notes_are ∙ sym (flat_map-append notes_in k.lines j.lines);
      records_are = both r _ s _ k.records_are j.records_are
          ∙ regroup (flat_map records_in k.lines) k.rest (flat_map records_in j.lines) j.rest none
          ∙ ap (λ (l : List ℕ). l ++ j.rest) (sym (flat_map-append records_in k.lines j.lines));
    }

-- ---- fronts

lines_more : (a b : List ℕ) → AreLines a → AreLines b → AreLines (a ++ b)
lines_more a b (inl none) more = subst (λ (l : List ℕ). AreLines (l ++ b)) (sym none) more
lines_more a b (inr e) (inl none) =
    inr (record { before = e.before; ends = ap (λ (l : List ℕ). a ++ l) none ∙ append-nil a ∙ e.ends })
lines_more a b (inr e) (inr f) =
    inr (record { before = a ++ f.before; ends = ap (λ (l : List ℕ). a ++ l) f.ends ∙ sym (append_assoc a f.before (10 ∷ [])) })

line_is_lines : (l : KeyedLine) → AreLines (line_text l)
line_is_lines (noted n) = inr (record { before = body (noted n); ends = refl })
line_is_lines (other bytes) = inr (record { before = bytes; ends = refl })

record_is_lines : (l : KeyedLine) → AreLines (records_in l)
record_is_lines (noted n) = inl refl
record_is_lines (other bytes) = inr (record { before = bytes; ends = refl })

all_lines : (f : KeyedLine → List ℕ) → ((l : KeyedLine) → AreLines (f l)) → (ls : List KeyedLine) → AreLines (flat_map f ls)
all_lines f each [] = inl refl
all_lines f each (l ∷ ls) = lines_more (f l) (flat_map f ls) (each l) (all_lines f each ls)

torn_front : (notes : List KeyNote) (records torn : List ℕ) → Without 10 torn → LeavesFront notes records torn
torn_front notes records torn free = record {
  count = 0;
  bytes = 0;
  torn = torn;
  whole = inl refl;
  no_lf = tested 10 torn free;
  keyed = record {
    lines = [];
    rest = torn;
    each = tt;
    no_lf = tested 10 torn free;
    text_is = refl;
    notes_are = refl;
    records_are = refl;
  };
}

front_more : (l : KeyedLine) (notes : List KeyNote) (records front : List ℕ) → IsLine l → LeavesFront notes records front
    → LeavesFront (notes_in l ++ notes) (records_in l ++ records) (line_text l ++ front)
front_more l notes records front is left =
    let count = length (notes_in l) + left.count in
    let bytes = length (records_in l) + left.bytes in
    let notes_are : take count (notes_in l ++ notes) ≡ notes_in l ++ take left.count notes = take-append-add (notes_in l) notes left.count in
    let records_are : take bytes (records_in l ++ records) ≡ records_in l ++ take left.bytes records =
    take-append-add (records_in l) records left.bytes in
    let all : records_in l ++ (take left.bytes records ++ left.torn) ≡ take bytes (records_in l ++ records) ++ left.torn =
    sym (append_assoc (records_in l) (take left.bytes records) left.torn) ∙ ap (λ (t : List ℕ). t ++ left.torn) (sym records_are) in
    let k = keyed_more l front (take left.count notes) (take left.bytes records ++ left.torn) is left.keyed in
    record {
      count = count;
      bytes = bytes;
      torn = left.torn;
      whole = subst AreLines (sym records_are) (lines_more (records_in l) (take left.bytes records) (record_is_lines l) left.whole);
      no_lf = left.no_lf;
      keyed = subst (λ (t : List ℕ). IsKeyed (line_text l ++ front) (take count (notes_in l ++ notes)) t) all
          (subst (λ (ns : List KeyNote). IsKeyed (line_text l ++ front) ns (records_in l ++ (take left.bytes records ++ left.torn))) (sym notes_are) k);
    }

line_is_body : (l : KeyedLine) → line_text l ≡ body l ++ 10 ∷ []
line_is_body (noted n) = refl
line_is_body (other bytes) = refl

front_of_lines : (ls : List KeyedLine) (rest : List ℕ) (k : ℕ) → AllByRecursion IsLine ls → Without 10 rest
    → LeavesFront (flat_map notes_in ls) (flat_map records_in ls ++ rest) (take k (flat_map line_text ls ++ rest))
front_of_lines [] rest k all free = torn_front [] rest (take k rest) (All-take (λ b. b ≢ 10) k rest free)
front_of_lines (l ∷ ls) rest k all free =
    let notes = flat_map notes_in (l ∷ ls) in
    let records = flat_map records_in (l ∷ ls) ++ rest in
    let behind = flat_map line_text ls ++ rest in
    let text : flat_map line_text (l ∷ ls) ++ rest ≡ line_text l ++ behind = append_assoc (line_text l) (flat_map line_text ls) rest in
    let size : length (line_text l) ≡ length (body l) + 1 = ap (length {A = ℕ}) (line_is_body l) ∙ length-append (body l) (10 ∷ []) in
    let within : k < length (line_text l) → LeavesFront notes records (take k (flat_map line_text (l ∷ ls) ++ rest)) = λ lt.
    let short : k ≤ length (body l) = omega (arith, lt, size) in
    let whole : length (body l) ≤ length (body l ++ 10 ∷ []) = omega (arith, length-append (body l) (10 ∷ [])) in
    let le : k ≤ length (line_text l) = omega (arith, lt) in
    let front : take k (flat_map line_text (l ∷ ls) ++ rest) ≡ take k (body l) =
    ap (take k) text ∙ take-append-le k (line_text l) behind le ∙ ap (take k) (line_is_body l) ∙ take-append-le k (body l) (10 ∷ []) short in
    subst (λ (t : List ℕ). LeavesFront notes records t) (sym front)
    (torn_front notes records (take k (body l)) (All-take (λ b. b ≢ 10) k (body l) (body_free l all.0))) in
    let beyond : length (line_text l) ≤ k → LeavesFront notes records (take k (flat_map line_text (l ∷ ls) ++ rest)) = λ le.
    let j = k - length (line_text l) in
    let sum : k ≡ length (line_text l) + j = omega (arith, le) in
    let front : take k (flat_map line_text (l ∷ ls) ++ rest) ≡ line_text l ++ take j behind =
    ap (take k) text ∙ ap (λ (n : ℕ). take n (line_text l ++ behind)) sum ∙ take-append-add (line_text l) behind j in
    let left = front_more l (flat_map notes_in ls) (flat_map records_in ls ++ rest) (take j behind) all.0 (front_of_lines ls rest j all.1 free) in
    let moved : records_in l ++ (flat_map records_in ls ++ rest) ≡ records = sym (append_assoc (records_in l) (flat_map records_in ls) rest) in
    subst (λ (t : List ℕ). LeavesFront notes records t) (sym front)
    (subst (λ (r : List ℕ). LeavesFront notes r (line_text l ++ take j behind)) moved left) in
    either (cases_lt k (length (line_text l))) within beyond

pub stops : (text : List ℕ) (notes : List KeyNote) (records : List ℕ) (k : ℕ) → IsKeyed text notes records
    → LeavesFront notes records (take k text)
stops text notes records k is =
    let front = front_of_lines is.lines is.rest k is.each (by_test 10 is.rest is.no_lf) in
    subst (λ (t : List ℕ). LeavesFront notes records (take k t)) (sym is.text_is)
    (subst (λ (r : List ℕ). LeavesFront notes r (take k (flat_map line_text is.lines ++ is.rest))) (sym is.records_are)
    (subst (λ (ns : List KeyNote). LeavesFront ns (flat_map records_in is.lines ++ is.rest) (take k (flat_map line_text is.lines ++ is.rest)))
    (sym is.notes_are) front))

-- ---- what stands behind the last line feed

lines_tail : (b : ℕ) (a : List ℕ) → AreLines (b ∷ a) → AreLines a
lines_tail b a (inl is) = absurd cc
lines_tail b a (inr e) = tail_of e.before e.ends
  where
    tail_of : (before : List ℕ) → b ∷ a ≡ before ++ 10 ∷ [] → AreLines a
    tail_of [] is = inl cc
    tail_of (x ∷ before) is = inr (record { before = before; ends = cc })

some_lines : (b : ℕ) (a rest more : List ℕ) → AreLines (b ∷ a) → Without 10 rest → rest ≡ (b ∷ a) ++ more → ⊥
some_lines b a rest more (inl is) free e = cc
some_lines b a rest more (inr f) free e =
    no_cut 10 rest f.before more free (e ∙ ap (λ (l : List ℕ). l ++ more) f.ends ∙ append_assoc f.before (10 ∷ []) more)

same_cut : (a b r s : List ℕ) → AreLines a → AreLines b → Without 10 r → Without 10 s → a ++ r ≡ b ++ s → Same a b r s
same_cut [] [] r s la lb p q is = record { front = refl; rest = is }
same_cut [] (y ∷ b) r s la lb p q is = absurd (some_lines y b r s lb p is)
same_cut (x ∷ a) [] r s la lb p q is = absurd (some_lines x a s r la q (sym is))
same_cut (x ∷ a) (y ∷ b) r s la lb p q is =
    let tails : a ++ r ≡ b ++ s = cc in
    let heads : x ≡ y = cc in
    let same = same_cut a b r s (lines_tail x a la) (lines_tail y b lb) p q tails in
    record { front = ap (λ (z : ℕ). z ∷ a) heads ∙ ap (λ (l : List ℕ). y ∷ l) same.front; rest = same.rest }

pub cuts : (text : List ℕ) (notes : List KeyNote) (before rest : List ℕ) → IsKeyed text notes (before ++ rest) → AreLines before → HasNoLf rest
    → CutsRest text notes before rest
cuts text notes before rest k lines no_lf =
    let same = same_cut before (flat_map records_in k.lines) rest k.rest lines (all_lines records_in record_is_lines k.lines)
    (by_test 10 rest no_lf) (by_test 10 k.rest k.no_lf) k.records_are in
    record {
      front = flat_map line_text k.lines;
      text_is = k.text_is ∙ ap (λ (l : List ℕ). flat_map line_text k.lines ++ l) (sym same.rest);
      whole = all_lines line_text line_is_lines k.lines;
      keyed = record {
        lines = k.lines;
        rest = [];
        each = k.each;
        no_lf = refl;
        text_is = sym (append-nil (flat_map line_text k.lines));
        notes_are = k.notes_are;
        records_are = same.front ∙ sym (append-nil (flat_map records_in k.lines));
      };
    }
