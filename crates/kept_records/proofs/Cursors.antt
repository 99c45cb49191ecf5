-- What a cursor hands out of a log, and where summaries stand in its lines.
use Rattle.std.proofs.Common.{◌≡◌, ◌≢◌, ℕ, ◌+◌, ◌-◌, ◌<◌, ◌≤◌, true, false, eqb, List, [], ◌∷◌, ◌++◌, length, take, drop, get_or, refl, sym, ap, subst, ◌∙◌, arith, append_assoc}
use Rattle.std.specs.Prelude.{Option, Some, None}
use Rattle.std.specs.List.{flat_map, list_any, AllByRecursion}
use Rattle.std.proofs.lemmas.List.{drop_at, take-append-drop, length-append, length-take, get_or-append-add}
use Rattle.std.proofs.Math.Seq.{get_or-append_seam, drop-append-add}
use Rattle.std.proofs.lemmas.Option.{same_Some}
use Rattle.line_words.specs.Words.{words}
use Rattle.kept_records.specs.declared.record.Record.{Record}
use Rattle.kept_records.specs.declared.record.Record.TheVariants.{Commit, Gift, Accept, Tighten, Restart, Summary}
use Rattle.kept_records.specs.Summary.{SummaryValue, summary_told, summary_record}
use Rattle.kept_records.specs.Text.{text, IsRecord}
use Rattle.kept_records.specs.Reading.{record_of}
use Rattle.kept_records.specs.Logs.{HasNoLf, IsLog}
use Rattle.kept_records.specs.Keeping.{IsKept}
use Rattle.kept_records.specs.Stands.{is_summary}
use Rattle.kept_records.specs.ReadingBack.{IsSummaryLine}
use Rattle.kept_records.specs.Cursor.{HandsSummary}
use Rattle.kept_records.proofs.Bytes.{one_cut, has_it}
use Rattle.kept_records.proofs.Lines.{body, body_without, body_again, regrouped, first_text}

-- ---- the next record

-- the records behind the first, of which the new bytes are a log
pub record Next (rs : List Record) (r : Record) (rest new : List ℕ) : Type 0 where
  pub more : List Record
  pub parts : rs ≡ r ∷ more
  pub log : IsLog new more rest

pub has_lf : (r : Record) (new : List ℕ) → list_any (λ x. eqb x 10) (text r ++ new) ≡ true
has_lf r new = ap (list_any (λ x. eqb x 10)) (regrouped r new) ∙ has_it 10 (body r) new

pub next_in : (bytes : List ℕ) (rs : List Record) (rest : List ℕ) (r : Record) (new : List ℕ) → IsLog bytes rs rest → bytes ≡ text r ++ new
    → IsRecord r → Next rs r rest new
next_in bytes [] rest r new log is fits =
    let t : list_any (λ x. eqb x 10) rest ≡ true = ap (list_any (λ x. eqb x 10)) (sym log.parts ∙ is) ∙ has_lf r new in
    absurd (let none : list_any (λ x. eqb x 10) rest ≡ false = log.no_lf in cc)
next_in bytes (s ∷ ss) rest r new log is fits =
    let same = one_cut 10 (body s) (body r) (flat_map text ss ++ rest) new (body_without s log.each.0) (body_without r fits)
    (sym (first_text s ss rest) ∙ sym log.parts ∙ is ∙ regrouped r new) in
    let heads : s ≡ r = same_Some s r (sym (body_again s log.each.0) ∙ ap (λ (l : List ℕ). record_of (words l)) same.front
    ∙ body_again r fits) in
    record {
      more = ss;
      parts = ap (λ (x : Record). x ∷ ss) heads;
      log = record { parts = sym same.rest; each = log.each.1; no_lf = log.no_lf };
    }

pub none_in : (bytes : List ℕ) (rs : List Record) (rest : List ℕ) → IsLog bytes rs rest → HasNoLf bytes → rs ≡ []
none_in bytes [] rest log none = refl
none_in bytes (s ∷ ss) rest log none =
    let t : list_any (λ x. eqb x 10) bytes ≡ true =
    ap (list_any (λ x. eqb x 10)) (log.parts ∙ first_text s ss rest) ∙ has_it 10 (body s) (flat_map text ss ++ rest) in
    absurd (let no : list_any (λ x. eqb x 10) bytes ≡ false = none in cc)

pub kept_behind : (bytes new : List ℕ) (r : Record) → IsKept bytes → bytes ≡ text r ++ new → IsRecord r → IsKept new
kept_behind bytes new r kept is fits =
    let next = next_in bytes kept.0 kept.1 r new kept.2 is fits in (next.more, kept.1, next.log)

pub fewer : (bytes new : List ℕ) (r : Record) → bytes ≡ text r ++ new → length new < length bytes
fewer bytes new r is = omega (arith, ap length is, length-append (text r) new, length-append (body r) (10 ∷ []))

-- ---- bytes that start with a summary

summary_starts : (v : SummaryValue) (more : List ℕ) → get_or (text (summary_record v) ++ more) 0 0 ≡ 83
summary_starts v more = refl

-- bytes that start with another letter don't
pub other_letter : (bytes : List ℕ) → get_or bytes 0 0 ≢ 83 → (v : SummaryValue) (more : List ℕ) → bytes ≡ text (summary_record v) ++ more → ⊥
other_letter bytes apart v more is = apart (ap (λ (l : List ℕ). get_or l 0 0) is ∙ summary_starts v more)

-- nor do bytes in which no line ends
pub no_line : (bytes : List ℕ) → HasNoLf bytes → (v : SummaryValue) (more : List ℕ) → bytes ≡ text (summary_record v) ++ more → ⊥
no_line bytes none v more is =
    let t : list_any (λ x. eqb x 10) bytes ≡ true = ap (list_any (λ x. eqb x 10)) is ∙ has_lf (summary_record v) more in
    let no : list_any (λ x. eqb x 10) bytes ≡ false = none in
    cc

-- a record with a summary's letter is one
pub is_one : (r : Record) (more : List ℕ) → get_or (text r ++ more) 0 0 ≡ 83 → is_summary r ≡ true
is_one (Summary epoch rights gifts accepts tightenings) more is = refl
is_one (Commit txn es) more is = let e : 67 ≡ 83 = is in absurd (omega (arith, e))
is_one (Gift to f k t) more is = let e : 71 ≡ 83 = is in absurd (omega (arith, e))
is_one (Accept from f k t) more is = let e : 65 ≡ 83 = is in absurd (omega (arith, e))
is_one (Tighten f k t) more is = let e : 84 ≡ 83 = is in absurd (omega (arith, e))
is_one (Restart epoch) more is = let e : 82 ≡ 83 = is in absurd (omega (arith, e))

-- ---- lines of summaries behind others

abbrev pub NoSummaryLine : List ℕ → Type 0
NoSummaryLine bytes = (j : ℕ) → IsSummaryLine bytes j → ⊥

abbrev pub AllPlain : List Record → Type 0
AllPlain rs = AllByRecursion (λ r. is_summary r ≡ false) rs

-- such a line stands there too where bytes stand before
pub shifted : (front bytes : List ℕ) (j : ℕ) → IsSummaryLine bytes j → IsSummaryLine (front ++ bytes) (length front + j)
shifted front bytes j line =
    let place : length front + (j - 1) ≡ length front + j - 1 = omega (arith, line.some) in
    record {
      some = omega (arith, line.some);
      within = omega (arith, line.within, length-append front bytes);
      behind = ap (λ (i : ℕ). get_or (front ++ bytes) i 0) (sym place) ∙ get_or-append-add front bytes (j - 1) 0 ∙ line.behind;
      letter = get_or-append-add front bytes j 0 ∙ line.letter;
      ends = ap (list_any (λ x. eqb x 10)) (drop-append-add front bytes j) ∙ line.ends;
    }

-- a summary behind a record starts such a line
summary_line : (r : Record) (v : SummaryValue) (more : List ℕ) → IsSummaryLine (text r ++ (text (summary_record v) ++ more)) (length (text r))
summary_line r v more =
    let next = text (summary_record v) ++ more in
    let size : length (text r) ≡ length (body r) + 1 = length-append (body r) (10 ∷ []) in
    let before : length (text r) - 1 ≡ length (body r) = omega (arith, size) in
    let here : length (text r) + 0 ≡ length (text r) = omega arith in
    record {
      some = omega (arith, size);
      within = omega (
        arith,
        length-append (text r) next,
        length-append (text (summary_record v)) more,
        length-append (body (summary_record v)) (10 ∷ []),
      );
      behind =
          ap (λ (i : ℕ). get_or (text r ++ next) i 0) before ∙ ap (λ (l : List ℕ). get_or l (length (body r)) 0) (regrouped r next)
          ∙ get_or-append_seam (body r) 10 next 0;
      letter = ap (λ (i : ℕ). get_or (text r ++ next) i 0) (sym here) ∙ get_or-append-add (text r) next 0 0 ∙ summary_starts v more;
      ends = ap (list_any (λ x. eqb x 10)) (drop_at (text r) next (length (text r)) refl) ∙ has_lf (summary_record v) more;
    }

plain_next : (r q : Record) (more : List ℕ) → NoSummaryLine (text r ++ (text q ++ more)) → is_summary q ≡ false
plain_next r (Summary epoch rights gifts accepts tightenings) more none =
    absurd (none (length (text r)) (summary_line r (summary_told epoch rights gifts accepts tightenings) more))
plain_next r (Commit txn es) more none = refl
plain_next r (Gift to f k t) more none = refl
plain_next r (Accept from f k t) more none = refl
plain_next r (Tighten f k t) more none = refl
plain_next r (Restart epoch) more none = refl

pub plain_behind : (r : Record) (rs : List Record) (rest : List ℕ) → NoSummaryLine (text r ++ (flat_map text rs ++ rest)) → AllPlain rs
plain_behind r [] rest none = tt
plain_behind r (q ∷ qs) rest none =
    let more : flat_map text (q ∷ qs) ++ rest ≡ text q ++ (flat_map text qs ++ rest) = append_assoc (text q) (flat_map text qs) rest in
    let here : NoSummaryLine (text r ++ (text q ++ (flat_map text qs ++ rest))) =
    subst (λ (l : List ℕ). NoSummaryLine (text r ++ l)) more none in (
      plain_next r q (flat_map text qs ++ rest) here,
      plain_behind q qs rest (λ j line. here (length (text r) + j) (shifted (text r) (text q ++ (flat_map text qs ++ rest)) j line)),
    )

-- the same of a log
pub plain_after : (bytes : List ℕ) (r : Record) (rs : List Record) (rest : List ℕ) → IsLog bytes (r ∷ rs) rest → NoSummaryLine bytes
    → AllPlain rs
plain_after bytes r rs rest log none =
    plain_behind r rs rest (subst NoSummaryLine (log.parts ∙ append_assoc (text r) (flat_map text rs) rest) none)

-- a line of the rest of the bytes is one of the bytes
pub lines_behind : (bytes : List ℕ) (start : ℕ) → start ≤ length bytes → ((j : ℕ) → start < j → IsSummaryLine bytes j → ⊥)
    → NoSummaryLine (drop start bytes)
lines_behind bytes start within last = λ j line.
    let size : length (take start bytes) ≡ start = omega (arith, length-take start bytes, within) in
    let moved = shifted (take start bytes) (drop start bytes) j line in
    last (length (take start bytes) + j) (omega (arith, size, line.some))
    (subst (λ (l : List ℕ). IsSummaryLine l (length (take start bytes) + j)) (take-append-drop start bytes) moved)

-- ---- what was handed out of the end of a log

-- what is left of bytes behind a text is the rest of them
pub left_behind : (bytes front left : List ℕ) (n : ℕ) → bytes ≡ front ++ left → n ≡ length bytes - length left → drop n bytes ≡ left
left_behind bytes front left n is size =
    ap (drop n) is ∙ drop_at front left n (omega (arith, size, ap length is, length-append front left))

pub handed_left : (bytes left : List ℕ) (summary : Option SummaryValue) (n : ℕ) → HandsSummary bytes summary left
    → n ≡ length bytes - length left → HandsSummary bytes summary (drop n bytes)
handed_left bytes left None n handed size =
    let none : n ≡ 0 = omega (arith, size, ap length handed.1) in
    (handed.0, ap (λ (i : ℕ). drop i bytes) none)
handed_left bytes left (Some v) n handed size =
    (handed.0 ∙ ap (λ (l : List ℕ). text (summary_record v) ++ l) (sym (left_behind bytes (text (summary_record v)) left n handed.0 size)), handed.1)

pub left_within : (bytes left : List ℕ) (summary : Option SummaryValue) → HandsSummary bytes summary left → length left ≤ length bytes
left_within bytes left None handed = omega (arith, ap length handed.1)
left_within bytes left (Some v) handed = omega (arith, fewer bytes left (summary_record v) handed.0)
