-- What an append of a record's text leaves, told by how many of its bytes were kept.
use Rattle.std.proofs.Common.{◌≡◌, ◌⊎◌, ℕ, ◌<◌, ◌≤◌, eqb, List, [], ◌∷◌, ◌++◌, length, take, drop, refl, sym, ap, subst, ◌∙◌, inl, inr, arith}
use Rattle.std.specs.List.{flat_map, list_any}
use Rattle.std.proofs.lemmas.Bool.{cases_lt}
use Rattle.std.proofs.lemmas.List.{take_at, take_all, take-append-drop, take-append-le, append-nil, length-append}
use Rattle.kept_records.specs.declared.record.Record.{Record}
use Rattle.kept_records.specs.Text.{text, IsRecord}
use Rattle.kept_records.specs.Medium.{IsCutShort}
use Rattle.kept_records.specs.Logs.{Reads, IsLog}
use Rattle.kept_records.proofs.Bytes.{without_take}
use Rattle.kept_records.proofs.Lines.{body, body_without, all_push, flat_push}

-- ---- behind a log with nothing behind its records

-- the bytes are a log of these records, with the first n bytes of one more record's text behind them
-- or, where these are all its bytes, of that record too
abbrev pub HoldsFront : ℕ → List ℕ → List Record → Record → Type 0
HoldsFront n bytes rs r =
    (IsLog bytes rs (take n (text r)) × (n < length (text r))) ⊎ (IsLog bytes (rs ++ r ∷ []) [] × (length (text r) ≤ n))

all_bytes : (bytes : List ℕ) (rs : List Record) → IsLog bytes rs [] → bytes ≡ flat_map text rs
all_bytes bytes rs log = log.parts ∙ append-nil (flat_map text rs)

pub added : (bytes : List ℕ) (rs : List Record) (r : Record) → IsLog bytes rs [] → IsRecord r → IsLog (bytes ++ text r) (rs ++ r ∷ []) []
added bytes rs r log fits = record {
  parts = ap (λ (l : List ℕ). l ++ text r) (all_bytes bytes rs log) ∙ sym (flat_push rs r)
      ∙ sym (append-nil (flat_map text (rs ++ r ∷ [])));
  each = all_push rs r log.each fits;
  no_lf = refl;
}

-- all bytes of the text
pub kept_whole : (bytes : List ℕ) (rs : List Record) (r : Record) (n : ℕ) → IsLog bytes rs [] → IsRecord r → length (text r) ≤ n
    → IsLog (bytes ++ take n (text r)) (rs ++ r ∷ []) []
kept_whole bytes rs r n log fits all = subst (λ (l : List ℕ). IsLog (bytes ++ l) (rs ++ r ∷ []) []) (sym (take_all n (text r) all))
    (added bytes rs r log fits)

-- fewer bytes: none of them is the line feed, which is the last
pub kept_torn : (bytes : List ℕ) (rs : List Record) (r : Record) (n : ℕ) → IsLog bytes rs [] → IsRecord r → n < length (text r)
    → IsLog (bytes ++ take n (text r)) rs (take n (text r))
kept_torn bytes rs r n log fits few =
    let inside : n ≤ length (body r) = omega (arith, few, length-append (body r) (10 ∷ [])) in
    record {
      parts = ap (λ (l : List ℕ). l ++ take n (text r)) (all_bytes bytes rs log);
      each = log.each;
      no_lf = ap (list_any (λ b. eqb b 10)) (take-append-le n (body r) (10 ∷ []) inside) ∙ without_take 10 n (body r) (body_without r fits);
    }

pub torn : (bytes : List ℕ) (rs : List Record) (r : Record) (n : ℕ) → IsLog bytes rs [] → IsRecord r
    → HoldsFront n (bytes ++ take n (text r)) rs r
torn bytes rs r n log fits = elim (cases_lt n (length (text r))) [
  | inl few ↦ inl (kept_torn bytes rs r n log fits few, few)
  | inr all ↦ inr (kept_whole bytes rs r n log fits all, all)
]

-- what a failed append leaves
pub cut_short : (bytes new : List ℕ) (rs : List Record) (r : Record) → IsLog bytes rs [] → IsRecord r
    → (cut : IsCutShort bytes (text r) new) → HoldsFront cut.0 new rs r
cut_short bytes new rs r log fits cut = subst (λ (l : List ℕ). HoldsFront cut.0 l rs r) (sym cut.1) (torn bytes rs r cut.0 log fits)

pub torn_append : (bytes : List ℕ) (rs : List Record) (r : Record) (k : ℕ) → IsLog bytes rs [] → IsRecord r
    → IsLog (bytes ++ take k (text r)) rs (take k (text r)) ⊎ IsLog (bytes ++ take k (text r)) (rs ++ r ∷ []) []
torn_append bytes rs r k log fits = elim (torn bytes rs r k log fits) [
  | inl few ↦ inl few.0
  | inr all ↦ inr all.0
]

-- ---- behind the records of a log whose torn end is cut

pub cut_to_records : (bytes rest : List ℕ) (rs : List Record) (whole : ℕ) → IsLog bytes rs rest → whole ≡ length (flat_map text rs)
    → IsLog (take whole bytes) rs []
cut_to_records bytes rest rs whole log size = record {
  parts = ap (take whole) log.parts ∙ take_at (flat_map text rs) rest whole (sym size) ∙ sym (append-nil (flat_map text rs));
  each = log.each;
  no_lf = refl;
}

pub cut_added : (bytes rest : List ℕ) (rs : List Record) (r : Record) (whole : ℕ) → IsLog bytes rs rest → whole ≡ length (flat_map text rs)
    → IsRecord r → IsLog (take whole bytes ++ text r) (rs ++ r ∷ []) []
cut_added bytes rest rs r whole log size fits = added (take whole bytes) rs r (cut_to_records bytes rest rs whole log size) fits

pub cut_torn : (bytes rest : List ℕ) (rs : List Record) (r : Record) (whole n : ℕ) → IsLog bytes rs rest → whole ≡ length (flat_map text rs)
    → IsRecord r → HoldsFront n (take whole bytes ++ take n (text r)) rs r
cut_torn bytes rest rs r whole n log size fits = torn (take whole bytes) rs r n (cut_to_records bytes rest rs whole log size) fits

pub cut_cut_short : (bytes rest new : List ℕ) (rs : List Record) (r : Record) (whole : ℕ) → IsLog bytes rs rest
    → whole ≡ length (flat_map text rs) → IsRecord r → (cut : IsCutShort (take whole bytes) (text r) new) → HoldsFront cut.0 new rs r
cut_cut_short bytes rest new rs r whole log size fits cut =
    cut_short (take whole bytes) new rs r (cut_to_records bytes rest rs whole log size) fits cut

-- ---- what reading says of a log

pub read_as_log : (bytes : List ℕ) (rs : List Record) (n : ℕ) → Reads bytes rs n → IsLog bytes rs (drop n bytes)
read_as_log bytes rs n reads = record {
  parts = sym (take-append-drop n bytes) ∙ ap (λ (l : List ℕ). l ++ drop n bytes) reads.whole;
  each = reads.each;
  no_lf = reads.rest;
}
