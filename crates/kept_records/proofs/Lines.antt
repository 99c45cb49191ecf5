-- Lines of records, one after the other.
use Rattle.std.proofs.Common.{◌≡◌, ℕ, true, eqb, List, [], ◌∷◌, ◌++◌, length, take, drop, Some, None, refl, sym, ap, ◌∙◌, inl, inr, arith, append_assoc, ◌⊎◌}
use Rattle.std.specs.List.{flat_map, list_any, AllByRecursion}
use Rattle.std.proofs.lemmas.Bool.{cases_lt}
use Rattle.std.proofs.lemmas.List.{take_at, drop_at, take_all, take-append-drop, take-append-le, append-nil, length-append}
use Rattle.std.proofs.lemmas.List.Concat.{flat_map-append}
use Rattle.std.proofs.lemmas.Option.{same_Some}
use Rattle.line_words.specs.Words.{words, line}
use Rattle.line_words.proofs.WordLemmas.{IsWord, words-join, join-words}
use Rattle.kept_records.specs.declared.record.Record.{Record}
use Rattle.kept_records.specs.Text.{text, letter_of, words_of, IsRecord}
use Rattle.kept_records.specs.Reading.{record_of}
use Rattle.kept_records.specs.Logs.{HasNoLf, Reads, IsLog, IsBadLine}
use Rattle.kept_records.proofs.Bytes.{Without, joined_without, without_take, one_cut, has_it}
use Rattle.kept_records.proofs.OneWord.{word_without_lf}
use Rattle.kept_records.proofs.RecordKinds.{record_takes, record_again, words_plain}

-- the words of a record, its letter first
abbrev all_words : Record → List (List ℕ)
all_words r = (letter_of r ∷ []) ∷ words_of r

-- a record's line without its line feed
abbrev pub body : Record → List ℕ
body r = line (all_words r)

-- ---- one line

without_lf : (ws : List (List ℕ)) → AllByRecursion IsWord ws → AllByRecursion (Without 10) ws
without_lf [] h = tt
without_lf (w ∷ ws) h = (word_without_lf w h.0, without_lf ws h.1)

pub body_without : (r : Record) → IsRecord r → HasNoLf (body r)
body_without r fits = joined_without 32 10 (all_words r) refl (without_lf (all_words r) (words_plain r fits))

pub body_again : (r : Record) → IsRecord r → record_of (words (body r)) ≡ Some r
body_again r fits =
    let plain = words_plain r fits in
    ap record_of (words-join (letter_of r ∷ []) (words_of r) plain.0 plain.1) ∙ record_again r fits

pub line_takes : (bytes : List ℕ) (r : Record) → record_of (words bytes) ≡ Some r → (body r ≡ bytes) × IsRecord r
line_takes bytes r e = let h = record_takes (words bytes) r e in (ap line h.0 ∙ join-words bytes, h.1)

pub no_record : (bytes : List ℕ) → HasNoLf bytes → record_of (words bytes) ≡ None → (r : Record) → IsRecord r → text r ≡ bytes ++ 10 ∷ []
    → ⊥
no_record bytes one none r fits e =
    let same = one_cut 10 (body r) bytes [] [] (body_without r fits) one e in
    let again : record_of (words bytes) ≡ Some r = ap (λ (l : List ℕ). record_of (words l)) (sym same.front) ∙ body_again r fits in
    absurd cc

-- ---- many lines

pub all_push : (rs : List Record) (r : Record) → AllByRecursion IsRecord rs → IsRecord r → AllByRecursion IsRecord (rs ++ r ∷ [])
all_push [] r all one = (one, tt)
all_push (s ∷ rs) r all one = (all.0, all_push rs r all.1 one)

pub flat_push : (rs : List Record) (r : Record) → flat_map text (rs ++ r ∷ []) ≡ flat_map text rs ++ text r
flat_push rs r = flat_map-append text rs (r ∷ []) ∙ ap (λ (l : List ℕ). flat_map text rs ++ l) (append-nil (text r))

pub are_read : (bytes : List ℕ) (rs : List Record) (rest : List ℕ) (n : ℕ) → bytes ≡ flat_map text rs ++ rest
    → n ≡ length (flat_map text rs) → AllByRecursion IsRecord rs → HasNoLf rest → Reads bytes rs n
are_read bytes rs rest n parts size each none = record {
  within = omega (arith, length-append (flat_map text rs) rest, ap length parts);
  whole = ap (take n) parts ∙ take_at (flat_map text rs) rest n (sym size);
  each = each;
  rest = ap (λ (l : List ℕ). list_any (λ b. eqb b 10) (drop n l)) parts
      ∙ ap (list_any (λ b. eqb b 10)) (drop_at (flat_map text rs) rest n (sym size)) ∙ none;
}

-- ---- fronts of a line

pub torn_text : (r : Record) → IsRecord r → (written : List ℕ) → written ≡ text r → (k : ℕ) → HasNoLf (take k written)
    ⊎ (take k written ≡ written)
torn_text r fits written is k = elim (cases_lt (length (body r)) k) [
  | inl past ↦ inr (take_all k written (omega (arith, ap length is, length-append (body r) (10 ∷ []))))
  | inr inside ↦ inl (ap (λ (l : List ℕ). list_any (λ b. eqb b 10) (take k l)) is
      ∙ ap (list_any (λ b. eqb b 10)) (take-append-le k (body r) (10 ∷ []) inside) ∙ without_take 10 k (body r) (body_without r fits))
]

pub regrouped : (r : Record) (more : List ℕ) → text r ++ more ≡ body r ++ 10 ∷ more
regrouped r more = append_assoc (body r) (10 ∷ []) more

-- the record that another's text begins with is that record, and nothing is left
pub begins : (r s : Record) (more : List ℕ) → IsRecord r → IsRecord s → text s ≡ text r ++ more → (r ≡ s) × (more ≡ [])
begins r s more p q e =
    let same = one_cut 10 (body s) (body r) [] more (body_without s q) (body_without r p) (e ∙ regrouped r more) in
    (same_Some r s (sym (body_again r p) ∙ ap (λ (l : List ℕ). record_of (words l)) (sym same.front) ∙ body_again s q), sym same.rest)

-- ---- one log

pub first_text : (s : Record) (ss : List Record) (b : List ℕ) → flat_map text (s ∷ ss) ++ b ≡ body s ++ 10 ∷ (flat_map text ss ++ b)
first_text s ss b = append_assoc (text s) (flat_map text ss) b ∙ regrouped s (flat_map text ss ++ b)

-- a rest without a line's end isn't a record and more
no_more : (a : List ℕ) (s : Record) (ss : List Record) (b : List ℕ) → HasNoLf a → a ≡ flat_map text (s ∷ ss) ++ b → ⊥
no_more a s ss b na e =
    let t : list_any (λ x. eqb x 10) a ≡ true = ap (list_any (λ x. eqb x 10)) (e ∙ first_text s ss b)
    ∙ has_it 10 (body s) (flat_map text ss ++ b) in
    absurd cc

pub one_log : (rs ss : List Record) (a b : List ℕ) → AllByRecursion IsRecord rs → AllByRecursion IsRecord ss → HasNoLf a → HasNoLf b
    → flat_map text rs ++ a ≡ flat_map text ss ++ b → (rs ≡ ss) × (a ≡ b)
one_log [] [] a b p q na nb e = (refl, e)
one_log [] (s ∷ ss) a b p q na nb e = absurd (no_more a s ss b na e)
one_log (r ∷ rs) [] a b p q na nb e = absurd (no_more b r rs a nb (sym e))
one_log (r ∷ rs) (s ∷ ss) a b p q na nb e =
    let same = one_cut 10 (body r) (body s) (flat_map text rs ++ a) (flat_map text ss ++ b) (body_without r p.0) (body_without s q.0)
    (sym (first_text r rs a) ∙ e ∙ first_text s ss b) in
    let heads : r ≡ s = same_Some r s (sym (body_again r p.0) ∙ ap (λ (l : List ℕ). record_of (words l)) same.front ∙ body_again s q.0) in
    let tails = one_log rs ss a b p.1 q.1 na nb same.rest in
    (ap (λ (x : Record). x ∷ rs) heads ∙ ap (λ (l : List Record). s ∷ l) tails.0, tails.1)

pub only_log : (bytes : List ℕ) (read : List Record) (n : ℕ) → Reads bytes read n → (rs : List Record) (rest : List ℕ) → IsLog bytes rs rest
    → (read ≡ rs) × (drop n bytes ≡ rest)
only_log bytes read n reads rs rest log = one_log read rs (drop n bytes) rest reads.each log.each reads.rest log.no_lf
    (ap (λ (l : List ℕ). l ++ drop n bytes) (sym reads.whole) ∙ take-append-drop n bytes ∙ log.parts)

-- ---- a log has no bad line

bad_at : (before rs : List Record) (bad behind rest : List ℕ) → AllByRecursion IsRecord before → AllByRecursion IsRecord rs → HasNoLf bad
    → HasNoLf rest → ((r : Record) → IsRecord r → text r ≡ bad ++ 10 ∷ [] → ⊥)
    → flat_map text before ++ (bad ++ 10 ∷ behind) ≡ flat_map text rs ++ rest → ⊥
bad_at [] [] bad behind rest p q nl nr none e = let t : list_any (λ x. eqb x 10) rest ≡ true =
    ap (list_any (λ x. eqb x 10)) (sym e) ∙ has_it 10 bad behind in absurd cc
bad_at [] (s ∷ ss) bad behind rest p q nl nr none e =
    let same = one_cut 10 bad (body s) behind (flat_map text ss ++ rest) nl (body_without s q.0) (e ∙ first_text s ss rest) in
    none s q.0 (ap (λ (l : List ℕ). l ++ 10 ∷ []) (sym same.front))
bad_at (r ∷ rs) [] bad behind rest p q nl nr none e = no_more rest r rs (bad ++ 10 ∷ behind) nr (sym e)
bad_at (r ∷ rs) (s ∷ ss) bad behind rest p q nl nr none e =
    let more = flat_map text rs ++ (bad ++ 10 ∷ behind) in
    let same = one_cut 10 (body r) (body s) more (flat_map text ss ++ rest) (body_without r p.0) (body_without s q.0)
    (sym (first_text r rs (bad ++ 10 ∷ behind)) ∙ e ∙ first_text s ss rest) in
    bad_at rs ss bad behind rest p.1 q.1 nl nr none same.rest

pub no_log : (bytes : List ℕ) (n : ℕ) → IsBadLine bytes n → (rs : List Record) (rest : List ℕ) → IsLog bytes rs rest → ⊥
no_log bytes n bad rs rest log = bad_at bad.before rs bad.line bad.behind rest bad.each log.each bad.one_line log.no_lf bad.none
    (sym bad.parts ∙ log.parts)

-- ---- what reading leaves of a log

pub cut_log : (bytes : List ℕ) (rs : List Record) (n : ℕ) → Reads bytes rs n → IsLog (take n bytes) rs []
cut_log bytes rs n reads = record { parts = reads.whole ∙ sym (append-nil (flat_map text rs)); each = reads.each; no_lf = refl }

pub same_log : (bytes : List ℕ) (rs ss : List Record) (a b : List ℕ) → IsLog bytes rs a → IsLog bytes ss b → (rs ≡ ss) × (a ≡ b)
same_log bytes rs ss a b log other = one_log rs ss a b log.each other.each log.no_lf other.no_lf (sym log.parts ∙ other.parts)
