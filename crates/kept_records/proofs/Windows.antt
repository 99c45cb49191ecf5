-- The end of a log, cut where a line starts.
use Rattle.std.proofs.Common.{◌≡◌, ℕ, ◌+◌, ◌-◌, ◌^◌, ◌<◌, ◌≤◌, Bool, true, false, eqb, List, [], ◌∷◌, ◌++◌, length, take, drop, get_or, refl, sym, ap, subst, ◌∙◌, inl, inr, arith, append_assoc, ◌⊎◌}
use Rattle.std.specs.Prelude.{slice_index_or, Option, Some, None}
use Rattle.std.specs.List.{flat_map, list_any, AllByRecursion}
use Rattle.std.proofs.lemmas.List.{take_all, take-append-drop, drop_more, drop-drop, length-append, length-drop, length-take, get_or-take, get_or-drop}
use Rattle.std.proofs.lemmas.Bool.{cases_lt, or_from, eqb-true, eq-eqb}
use Rattle.std.proofs.lemmas.List.Folds.{list_any_none}
use Rattle.std.proofs.lemmas.List.Elements.{All-from_get_or}
use Rattle.kept_records.specs.declared.record.Record.{Record}
use Rattle.kept_records.specs.declared.record.Record.TheVariants.{Commit, Gift, Accept, Tighten, Restart, Summary}
use Rattle.kept_records.specs.Text.{text, IsRecord}
use Rattle.kept_records.specs.Logs.{HasNoLf, IsLog, AreAll}
use Rattle.kept_records.specs.Keeping.{IsKept}
use Rattle.std.proofs.lemmas.List.Concat.{flat_map-append}
use Rattle.kept_records.specs.Medium.{last_bytes}
use Rattle.kept_records.specs.Stands.{is_summary}
use Rattle.kept_records.specs.Cursor.{HandsSummary}
use Rattle.kept_records.specs.Summary.{SummaryValue, summary_told, summary_record}
use Rattle.kept_records.specs.ReadingBack.{told_length, PartsAt, AreBehind, HoldsLast, AreLast, IsWhole, IsSummaryLine, IsLastLine}
use Rattle.kept_records.proofs.Bytes.{one_cut, has_it}
use Rattle.kept_records.proofs.Lines.{body, body_without, first_text, same_log}
use Rattle.kept_records.proofs.Places.{inside, log_behind, place_within}
use Rattle.kept_records.proofs.Cursors.{AllPlain, NoSummaryLine, is_one, next_in, plain_after, lines_behind}

-- ---- a log, cut behind a line feed

-- the bytes have no line feed, or they are cut at the first
data FirstLf (bytes : List ℕ) : Type 0 where
  never : HasNoLf bytes → FirstLf bytes
  at : (front behind : List ℕ) → HasNoLf front → bytes ≡ front ++ 10 ∷ behind → FirstLf bytes

one_more : (b : ℕ) (bytes : List ℕ) → eqb b 10 ≡ false → FirstLf bytes → FirstLf (b ∷ bytes)
one_more b bytes other (never none) = never (or_from (eqb b 10) (list_any (λ x. eqb x 10) bytes) other none)
one_more b bytes other (at front behind none is) =
    at (b ∷ front) behind (or_from (eqb b 10) (list_any (λ x. eqb x 10) front) other none) (ap (λ (l : List ℕ). b ∷ l) is)

first_by : (b : ℕ) (bytes : List ℕ) → FirstLf bytes → (t : Bool) → eqb b 10 ≡ t → FirstLf (b ∷ bytes)
first_by b bytes more true same = at [] bytes refl (ap (λ (x : ℕ). x ∷ bytes) (eqb-true b 10 same))
first_by b bytes more false other = one_more b bytes other more

first_lf : (bytes : List ℕ) → FirstLf bytes
first_lf [] = never refl
first_lf (b ∷ bytes) = first_by b bytes (first_lf bytes) (eqb b 10) refl

-- records, cut in two, with what lies behind a line feed
record Cut (rs : List Record) (rest behind : List ℕ) : Type 0 where
  before : List Record
  after : List Record
  parts : rs ≡ before ++ after
  bytes : behind ≡ flat_map text after ++ rest
  each : AllByRecursion IsRecord after

cut_by : (r : Record) (rs : List Record) (rest front behind : List ℕ) → AllByRecursion IsRecord (r ∷ rs) → HasNoLf rest
    → flat_map text (r ∷ rs) ++ rest ≡ front ++ 10 ∷ behind
    → ((f b : List ℕ) → flat_map text rs ++ rest ≡ f ++ 10 ∷ b → Cut rs rest b) → FirstLf front → Cut (r ∷ rs) rest behind
cut_by r rs rest front behind each none is more (never without) =
    let same = one_cut 10 (body r) front (flat_map text rs ++ rest) behind (body_without r each.0) without
    (sym (first_text r rs rest) ∙ is) in
    record { before = r ∷ []; after = rs; parts = refl; bytes = sym same.rest; each = each.1 }
cut_by r rs rest front behind each none is more (at f1 f2 without parts_) =
    let longer : front ++ 10 ∷ behind ≡ f1 ++ 10 ∷ (f2 ++ 10 ∷ behind) =
    ap (λ (l : List ℕ). l ++ 10 ∷ behind) parts_ ∙ append_assoc f1 (10 ∷ f2) (10 ∷ behind) in
    let same = one_cut 10 (body r) f1 (flat_map text rs ++ rest) (f2 ++ 10 ∷ behind) (body_without r each.0) without
    (sym (first_text r rs rest) ∙ is ∙ longer) in
    let left = more f2 behind same.rest in
    record {
      before = r ∷ left.before;
      after = left.after;
      parts = ap (λ (l : List Record). r ∷ l) left.parts;
      bytes = left.bytes;
      each =
          left.each;
    }

cut_lf : (rs : List Record) (rest front behind : List ℕ) → AllByRecursion IsRecord rs → HasNoLf rest
    → flat_map text rs ++ rest ≡ front ++ 10 ∷ behind → Cut rs rest behind
cut_lf [] rest front behind each none is =
    let t : list_any (λ x. eqb x 10) rest ≡ true = ap (list_any (λ x. eqb x 10)) is ∙ has_it 10 front behind in
    absurd cc
cut_lf (r ∷ rs) rest front behind each none is = cut_by r rs rest front behind each none is
    (λ f b same. cut_lf rs rest f b each.1 none same) (first_lf front)

-- the first record is a summary
abbrev StartsWithSummary : List Record → Type 0
StartsWithSummary [] = ⊥
StartsWithSummary (r ∷ rs) = is_summary r ≡ true

starts : (rs : List Record) (rest after : List ℕ) → HasNoLf rest → list_any (λ x. eqb x 10) (83 ∷ after) ≡ true
    → 83 ∷ after ≡ flat_map text rs ++ rest → StartsWithSummary rs
starts [] rest after none some is =
    let t : list_any (λ x. eqb x 10) rest ≡ true = ap (list_any (λ x. eqb x 10)) (sym is) ∙ some in absurd cc
starts (r ∷ rs) rest after none some is = is_one r (flat_map text rs ++ rest)
    (ap (λ (l : List ℕ). get_or l 0 0) (sym (is ∙ append_assoc (text r) (flat_map text rs) rest)))

-- the last records of a log, from a line on with a summary's letter, or all
pub record LastAt (rs : List Record) (rest found : List ℕ) : Type 0 where
  pub records : List Record
  pub before : List Record
  pub parts : rs ≡ before ++ records
  pub start : (before ≡ []) ⊎ StartsWithSummary records
  pub log : IsLog found records rest

summary_at : (bytes : List ℕ) (rs : List Record) (rest front after : List ℕ) → IsLog bytes rs rest → bytes ≡ front ++ 10 ∷ (83 ∷ after)
    → list_any (λ x. eqb x 10) (83 ∷ after) ≡ true → LastAt rs rest (83 ∷ after)
summary_at bytes rs rest front after log is some =
    let cut = cut_lf rs rest front (83 ∷ after) log.each log.no_lf (sym log.parts ∙ is) in
    record {
      records = cut.after;
      before = cut.before;
      parts = cut.parts;
      start = inr (starts cut.after rest after log.no_lf some cut.bytes);
      log = record { parts = cut.bytes; each = cut.each; no_lf = log.no_lf };
    }

-- ---- the end of the bytes

-- the window starts where so many bytes are left out
pub window_is : (bytes window : List ℕ) (most from : ℕ) → window ≡ last_bytes most bytes → from ≡ length bytes - length window
    → window ≡ drop from bytes
window_is bytes window most from is from_is =
    let size : length window ≡ length bytes - (length bytes - most) = ap length is ∙ length-drop (length bytes - most) bytes in
    let same : from ≡ length bytes - most = omega (arith, size, from_is) in
    is ∙ ap (λ (n : ℕ). drop n bytes) (sym same)

at_drop : (bytes : List ℕ) (i b : ℕ) → i < length bytes → slice_index_or bytes i 0 ≡ b → drop i bytes ≡ b ∷ drop (i + 1) bytes
at_drop bytes i b less is = drop_more bytes i 0 less ∙ ap (λ (x : ℕ). x ∷ drop (i + 1) bytes) is

-- a summary's line in the window
pub window_last : (bytes window : List ℕ) (from start : ℕ) (rs : List Record) (rest : List ℕ) → window ≡ drop from bytes
    → IsSummaryLine window start → IsLog bytes rs rest → LastAt rs rest (drop start window)
window_last bytes window from start rs rest is line log =
    let i : ℕ = start - 1 in
    let next : i + 1 ≡ start = omega (arith, line.some) in
    let after = drop (start + 1) window in
    let at_start : drop start window ≡ 83 ∷ after = at_drop window start 83 line.within line.letter in
    let at_i : drop i window ≡ 10 ∷ drop (i + 1) window = at_drop window i 10 (omega (arith, line.within)) line.behind in
    let whole : window ≡ take i window ++ 10 ∷ (83 ∷ after) =
    sym (take-append-drop i window) ∙ ap (λ (l : List ℕ). take i window ++ l)
    (at_i ∙ ap (λ (n : ℕ). 10 ∷ drop n window) next ∙ ap (λ (l : List ℕ). 10 ∷ l) at_start) in
    let all : bytes ≡ (take from bytes ++ take i window) ++ 10 ∷ (83 ∷ after) =
    sym (take-append-drop from bytes) ∙ ap (λ (l : List ℕ). take from bytes ++ l) (sym is ∙ whole)
    ∙ sym (append_assoc (take from bytes) (take i window) (10 ∷ (83 ∷ after))) in
    subst (λ (l : List ℕ). LastAt rs rest l) (sym at_start)
    (summary_at bytes rs rest (take from bytes ++ take i window) after log all (ap (list_any (λ x. eqb x 10)) (sym at_start) ∙ line.ends))

-- all of them
pub window_all : (bytes window : List ℕ) (from : ℕ) (rs : List Record) (rest : List ℕ) → window ≡ drop from bytes → from ≡ 0
    → IsLog bytes rs rest → LastAt rs rest (drop 0 window)
window_all bytes window from rs rest is none log = record {
  records = rs;
  before = [];
  parts = refl;
  start = inl refl;
  log = subst (λ (l : List ℕ). IsLog l rs rest) (sym (is ∙ ap (λ (n : ℕ). drop n bytes) none)) log;
}

-- what stands behind the place
pub window_behind : (bytes window : List ℕ) (from place : ℕ) (before behind : List Record) (rest : List ℕ) → window ≡ drop from bytes
    → from ≤ place → IsLog bytes (before ++ behind) rest → length bytes < 2 ^ 64
    → place ≡ told_length (length (flat_map text before)) → IsLog (drop (place - from) window) behind rest
window_behind bytes window from place before behind rest is within log few place_is =
    let moved : drop (place - from) window ≡ drop place bytes =
    ap (drop (place - from)) is ∙ drop_drop from (place - from) bytes ∙ ap (λ (n : ℕ). drop n bytes) (omega (arith, within)) in
    subst (λ (l : List ℕ). IsLog l behind rest) (sym moved) (log_behind bytes before behind rest place log few place_is)
  where
    drop_drop : (n m : ℕ) (xs : List ℕ) → drop m (drop n xs) ≡ drop (n + m) xs
    drop_drop n m xs = drop-drop m n xs

pub window_start : (bytes window : List ℕ) (from start : ℕ) (rs : List Record) (rest : List ℕ) → window ≡ drop from bytes
    → IsSummaryLine window start ⊎ ((from ≡ 0) × (start ≡ 0)) → IsLog bytes rs rest
    → LastAt rs rest (drop start window)
window_start bytes window from start rs rest is (inl line) log = window_last bytes window from start rs rest is line log
window_start bytes window from start rs rest is (inr front) log =
    subst (λ (n : ℕ). LastAt rs rest (drop n window)) (sym front.1) (window_all bytes window from rs rest is front.0 log)

slice_all : (start : ℕ) (window : List ℕ) → take (length window - start) (drop start window) ≡ drop start window
slice_all start window = take_all (length window - start) (drop start window) (omega (arith, length-drop start window))

-- ---- the last summary, and what stands behind it

starts_none : (records : List Record) (bytes rest : List ℕ) → IsLog bytes records rest
    → ((v : SummaryValue) (more : List ℕ) → bytes ≡ text (summary_record v) ++ more → ⊥) → StartsWithSummary records → ⊥
starts_none [] bytes rest log none is = is
starts_none (r ∷ rs) bytes rest log none is = plain_first r rs bytes rest
    (log.parts ∙ append_assoc (text r) (flat_map text rs) rest) none is
  where
    plain_first : (r : Record) (rs : List Record) (bytes rest : List ℕ) → bytes ≡ text r ++ (flat_map text rs ++ rest)
        → ((v : SummaryValue) (more : List ℕ) → bytes ≡ text (summary_record v) ++ more → ⊥) → is_summary r ≡ true → ⊥
    plain_first (Summary epoch rights gifts accepts tightenings) rs bytes rest is none on =
        none (summary_told epoch rights gifts accepts tightenings) (flat_map text rs ++ rest) is
    plain_first (Commit txn es) rs bytes rest is none on = cc
    plain_first (Gift to f k t) rs bytes rest is none on = cc
    plain_first (Accept from f k t) rs bytes rest is none on = cc
    plain_first (Tighten f k t) rs bytes rest is none on = cc
    plain_first (Restart epoch) rs bytes rest is none on = cc

none_plain : (records : List Record) (bytes rest : List ℕ) → IsLog bytes records rest → (StartsWithSummary records → ⊥)
    → NoSummaryLine bytes → AllPlain records
none_plain [] bytes rest log apart none = tt
none_plain (r ∷ rs) bytes rest log apart none = (off (is_summary r) apart, plain_after bytes r rs rest log none)
  where
    off : (b : Bool) → (b ≡ true → ⊥) → b ≡ false
    off true apart = absurd (apart refl)
    off false apart = refl

no_before : (before records : List Record) → (before ≡ []) ⊎ StartsWithSummary records → (StartsWithSummary records → ⊥) → before ≡ []
no_before before records (inl none) apart = none
no_before before records (inr is) apart = absurd (apart is)

holds : (rs : List Record) (rest bytes lines : List ℕ) (summary : Option SummaryValue) → LastAt rs rest bytes → NoSummaryLine bytes
    → HandsSummary bytes summary lines → HoldsLast rs rest summary lines
holds rs rest bytes lines None from none handed =
    let apart = starts_none from.records bytes rest from.log handed.0 in
    record {
      found = from.records;
      last = record {
        before = from.before;
        parts = from.parts;
        all = λ same. no_before from.before from.records from.start apart;
        plain = none_plain from.records bytes rest from.log apart none;
      };
      log = subst (λ (l : List ℕ). IsLog l from.records rest) (sym handed.1) from.log;
    }
holds rs rest bytes lines (Some v) from none handed =
    let next = next_in bytes from.records rest (summary_record v) lines from.log handed.0 handed.1 in
    record {
      found = next.more;
      last = record {
        before = from.before;
        parts = from.parts ∙ ap (λ (x : List Record). from.before ++ x) next.parts;
        all = λ same. cc;
        plain = plain_after bytes (summary_record v) next.more rest (subst (λ (x : List Record). IsLog bytes x rest) next.parts from.log) none;
      };
      log = next.log;
    }

-- ---- what is read of the window

module _ (bytes window : List ℕ) (most place from size : ℕ) (is_window : window ≡ last_bytes most bytes) (sized : size ≡ length bytes)
    (from_is : from ≡ size - length window) (few : size < 2 ^ 64) (parts : PartsAt bytes place) where
  is : window ≡ drop from bytes
  is = window_is bytes window most from is_window (from_is ∙ ap (λ (n : ℕ). n - length window) sized)

  few_bytes : length bytes < 2 ^ 64
  few_bytes = omega (arith, sized, few)

  pub place_in : place ≤ size
  place_in = omega (arith, sized, place_within bytes parts.before parts.behind parts.rest place parts.log few_bytes parts.place_is)

  within_size : length window ≤ size
  within_size = omega (arith, ap length is_window, length-drop (length bytes - most) bytes, sized)

  pub behind_in : (n : ℕ) → from ≤ place → n ≤ length (take (length window - (place - from)) (drop (place - from) window))
      → place + n ≤ size
  behind_in n within few_ = omega (
    arith,
    few_,
    ap length (slice_all (place - from) window),
    length-drop (place - from) window,
    place_in,
    from_is,
    within,
    within_size,
  )

  module _ (start : ℕ) (which : IsSummaryLine window start ⊎ ((from ≡ 0) × (start ≡ 0))) where
    abbrev slice : List ℕ
    slice = take (length window - start) (drop start window)

    last_at : (rs : List Record) (rest : List ℕ) → IsLog bytes rs rest → LastAt rs rest (take (length window - start) (drop start window))
    last_at rs rest log = subst (λ (l : List ℕ). LastAt rs rest l) (sym (slice_all start window))
        (window_start bytes window from start rs rest is which log)

    pub kept_start : IsKept (take (length window - start) (drop start window))
    kept_start = let here = last_at (parts.before ++ parts.behind) parts.rest parts.log in (here.records, parts.rest, here.log)

    pub lines_are : (size : ℕ) → drop size (take (length window - start) (drop start window)) ≡ drop (start + size) window
    lines_are size = ap (drop size) (slice_all start window) ∙ drop-drop size start window

    pub last_from : (summary : Option SummaryValue) (lines : List ℕ) → start ≤ length window → IsLastLine window start
        → HandsSummary (take (length window - start) (drop start window)) summary lines → AreLast bytes summary lines
    last_from summary lines within last handed rs rest log =
        let none : NoSummaryLine (take (length window - start) (drop start window)) =
        subst NoSummaryLine (sym (slice_all start window)) (lines_behind window start within last) in
        holds rs rest (take (length window - start) (drop start window)) lines summary (last_at rs rest log) none handed

  module _ (within : from ≤ place) where
    at_place : (before behind : List Record) (rest : List ℕ) → IsLog bytes (before ++ behind) rest
        → place ≡ told_length (length (flat_map text before))
        → IsLog (take (length window - (place - from)) (drop (place - from) window)) behind rest
    at_place before behind rest log place_is =
        subst (λ (l : List ℕ). IsLog l behind rest) (sym (slice_all (place - from) window))
        (window_behind bytes window from place before behind rest is within log few_bytes place_is)

    pub kept_behind : IsKept (take (length window - (place - from)) (drop (place - from) window))
    kept_behind = (parts.behind, parts.rest, at_place parts.before parts.behind parts.rest parts.log parts.place_is)

    module _ (found : List Record) (n : ℕ) (all : AreAll (take (length window - (place - from)) (drop (place - from) window)) found n) where
      pub stand_behind : AreBehind bytes place found
      stand_behind before behind rest log place_is = (all behind rest (at_place before behind rest log place_is)).0

      pub whole_is : n ≡ length (flat_map text found) → IsWhole bytes (place + n)
      whole_is size_is rs rest log =
          let same = (same_log bytes (parts.before ++ parts.behind) rs parts.rest rest parts.log log).0 in
          let found_is = stand_behind parts.before parts.behind parts.rest parts.log parts.place_is in
          let texts : length (flat_map text (parts.before ++ parts.behind)) ≡ length (flat_map text parts.before)
          + length (flat_map text parts.behind) =
          ap length (flat_map-append text parts.before parts.behind)
          ∙ length-append (flat_map text parts.before) (flat_map text parts.behind) in
          let exact : place ≡ length (flat_map text parts.before) =
          omega (arith, parts.place_is, inside bytes parts.before parts.behind parts.rest parts.log, few_bytes) in
          let long : place + n ≡ length (flat_map text (parts.before ++ parts.behind)) =
          omega (arith, texts, exact, size_is, ap (λ (x : List Record). length (flat_map text x)) found_is) in
          long ∙ ap (λ (x : List Record). length (flat_map text x)) same

-- ---- looking for the last summary's line

-- no such line starts from this place on
abbrev pub NoneFrom : List ℕ → ℕ → Type 0
NoneFrom bytes n = (j : ℕ) → n ≤ j → IsSummaryLine bytes j → ⊥

-- this byte stands nowhere from a place on
abbrev pub NoByteFrom : ℕ → List ℕ → ℕ → Type 0
NoByteFrom c bytes n = (k : ℕ) → n ≤ k → k < length bytes → eqb (get_or bytes k 0) c ≡ true → ⊥

pub no_lf_from : (bytes : List ℕ) (n : ℕ) → NoByteFrom 10 bytes n → HasNoLf (drop n bytes)
no_lf_from bytes n none =
    list_any_none (λ x. eqb x 10) (drop n bytes) (All-from_get_or (λ x. eqb x 10 ≡ false) (drop n bytes) 0 (λ k less.
    off (eqb (get_or (drop n bytes) k 0) 10) (λ is.
    none (n + k) (omega arith) (omega (arith, less, length-drop n bytes))
    (ap (λ (x : ℕ). eqb x 10) (sym (get_or-drop n bytes k 0)) ∙ is))))
  where
    off : (b : Bool) → (b ≡ true → ⊥) → b ≡ false
    off true apart = absurd (apart refl)
    off false apart = refl

no_line_in : (bytes : List ℕ) (j : ℕ) → HasNoLf (drop j bytes) → IsSummaryLine bytes j → ⊥
no_line_in bytes j none line = let t : list_any (λ x. eqb x 10) (drop j bytes) ≡ true = line.ends in
    let no : list_any (λ x. eqb x 10) (drop j bytes) ≡ false = none in cc

-- no line ends in the bytes
pub none_at_all : (bytes : List ℕ) → NoByteFrom 10 bytes 0 → NoneFrom bytes 0
none_at_all bytes none j low line = no_line_in bytes j (no_lf_from bytes j (λ k more less. none k (omega arith) less)) line

-- the last line feed stands here
pub none_behind_lf : (bytes : List ℕ) (w : ℕ) → eqb (get_or bytes w 0) 10 ≡ true → NoByteFrom 10 bytes (w + 1) → NoneFrom bytes w
none_behind_lf bytes w here none j low line = elim (cases_lt w j) [
  | inl past ↦ no_line_in bytes j (no_lf_from bytes j (λ k more less. none k (omega (arith, past, more)) less)) line
  | inr back ↦
      let same : j ≡ w = omega (arith, low, back) in
      let letter : get_or bytes w 0 ≡ 83 = ap (λ (i : ℕ). get_or bytes i 0) (sym same) ∙ line.letter in
      let lf : get_or bytes w 0 ≡ 10 = eqb-true (get_or bytes w 0) 10 here in
      absurd (omega (arith, letter, lf))
]

-- the letter stands nowhere behind this place, among the first bytes
abbrev pub NoLetterBehind : List ℕ → ℕ → ℕ → Type 0
NoLetterBehind bytes end n = (k : ℕ) → n ≤ k → k < length (take end bytes) → eqb (get_or (take end bytes) k 0) 83 ≡ true → ⊥

pub none_behind_letter : (bytes : List ℕ) (end here : ℕ) → end ≤ length bytes → NoneFrom bytes end → NoLetterBehind bytes end (here + 1)
    → NoneFrom bytes (here + 1)
none_behind_letter bytes end here within none letters j low line = elim (cases_lt j end) [
  | inl below ↦ letters j low (omega (arith, below, within, length-take end bytes))
      (eq-eqb (get_or (take end bytes) j 0) 83 (get_or-take end bytes j 0 below ∙ line.letter))
  | inr past ↦ none j past line
]

pub none_with_letters : (bytes : List ℕ) (end : ℕ) → end ≤ length bytes → NoneFrom bytes end → NoLetterBehind bytes end 0 → NoneFrom bytes 0
none_with_letters bytes end within none letters j low line = elim (cases_lt j end) [
  | inl below ↦ letters j low (omega (arith, below, within, length-take end bytes))
      (eq-eqb (get_or (take end bytes) j 0) 83 (get_or-take end bytes j 0 below ∙ line.letter))
  | inr past ↦ none j past line
]

-- the letter at this place starts no line
pub none_at_letter : (bytes : List ℕ) (here : ℕ) → NoneFrom bytes (here + 1) → (0 < here → get_or bytes (here - 1) 0 ≡ 10 → ⊥)
    → NoneFrom bytes here
none_at_letter bytes here none apart j low line = elim (cases_lt here j) [
  | inl past ↦ none j (omega (arith, past)) line
  | inr back ↦
      let same : j ≡ here = omega (arith, low, back) in
      apart (omega (arith, same, line.some)) (ap (λ (i : ℕ). get_or bytes (i - 1) 0) (sym same) ∙ line.behind)
]

pub is_line : (bytes : List ℕ) (here end w : ℕ) → 0 < here → here < end → end ≤ w → w < length bytes → eqb (get_or bytes w 0) 10 ≡ true
    → get_or bytes (here - 1) 0 ≡ 10 → eqb (get_or (take end bytes) here 0) 83 ≡ true → IsSummaryLine bytes here
is_line bytes here end w some below before within lf behind letter = record {
  some = some;
  within = omega (arith, below, before, within);
  behind = behind;
  letter = sym (get_or-take end bytes here 0 below) ∙ eqb-true (get_or (take end bytes) here 0) 83 letter;
  ends =
      let at_w : drop w bytes ≡ 10 ∷ drop (w + 1) bytes = at_drop bytes w 10 within (eqb-true (get_or bytes w 0) 10 lf) in
      let n : ℕ = w - here in
      let there : here + n ≡ w = omega (arith, below, before) in
      let moved : drop n (drop here bytes) ≡ drop w bytes = drop-drop n here bytes ∙ ap (λ (i : ℕ). drop i bytes) there in
      ap (list_any (λ x. eqb x 10)) (sym (take-append-drop n (drop here bytes))
      ∙ ap (λ (l : List ℕ). take n (drop here bytes) ++ l) (moved ∙ at_w)) ∙ has_it 10 (take n (drop here bytes)) (drop (w + 1) bytes);
}
