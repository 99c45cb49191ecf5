-- The readers of one word read the texts of their values and no others.
use Rattle.std.proofs.Common.{◌≡◌, ℕ, suc, ◌^◌, ◌<◌, ◌≤◌, true, ◌&&◌, cond, eqb, leb, List, [], ◌∷◌, Some, None, refl, sym, ap, subst, ◌∙◌, inl, inr, arith, ℤ, pos, negsuc, w64}
use Rattle.std.specs.Prelude.{unsigned_abs}
use Rattle.std.specs.Fmt.{decimal, signed_decimal}
use Rattle.std.specs.List.{list_any}
use Rattle.std.proofs.lemmas.Bool.{and_parts, or_from, leb-true, le-leb, eqb-true, ne_eqb, cases_Bool}
use Rattle.std.proofs.lemmas.Int.{fits_signed_from_abs}
use Rattle.std.proofs.lemmas.Option.{cond_some, same_Some}
use Rattle.field_bounds.specs.declared.kind.Kind.{Kind}
use Rattle.field_bounds.specs.declared.kind.Kind.TheVariants.{Lower, Raise}
use Rattle.field_bounds.specs.Owed.{max_change}
use Rattle.line_words.specs.Reading.{number_of, signed_of}
use Rattle.line_words.proofs.Numbers.{bind_some, number_takes, number_again}
use Rattle.line_words.proofs.SignedNumbers.{signed_takes, signed_again}
use Rattle.line_words.proofs.WordLemmas.{IsWord, decimal_word}
use Rattle.line_words.proofs.Forms.{IsRead}
use Rattle.kept_records.specs.Text.{kind_word, IsChange}
use Rattle.kept_records.specs.Reading.{number_within, change_of, kind_of}
use Rattle.kept_records.proofs.Bytes.{Without}

-- a line feed is no byte of a word
pub word_without_lf : (w : List ℕ) → IsWord w → Without 10 w
word_without_lf [] h = refl
word_without_lf (b ∷ w) h = or_from (eqb b 10) (list_any (λ x. eqb x 10) w) (ne_eqb b 10 (λ e. omega (arith, h.0.0)))
    (word_without_lf w h.1)

-- ---- numbers

abbrev pub Within : ℕ → ℕ → ℕ → Type 0
Within least most n = (least ≤ n) × (n ≤ most)

pub number_law : (least most : ℕ) → most < 2 ^ 64 → IsRead (Within least most) decimal (number_within least most)
unfolding number_within
number_law least most small = record {
  takes = λ w n e.
      let b = bind_some (number_of (2 ^ 64) w) (λ k. cond (leb least k && leb k most) (Some k) None) n e in
      let h = cond_some (leb least b.0 && leb b.0 most) b.0 n b.2 in
      let p = and_parts (leb least b.0) (leb b.0 most) h.0 in
      let t = number_takes (2 ^ 64) w b.0 b.1 in
      subst (λ (k : ℕ). Within least most k × (w ≡ decimal k)) h.1 ((leb-true _ _ p.0, leb-true _ _ p.1), t.1);
  again = λ n fits.
      let lt : n < 2 ^ 64 = omega (arith, fits.1) in
      rw (number_again (2 ^ 64) n (omega arith) lt, le-leb least n fits.0, le-leb n most fits.1) refl;
  plain = λ n fits. decimal_word n (omega (arith, fits.1));
}

-- ---- changes

signed_word : (z : ℤ) → unsigned_abs z ≤ max_change → IsWord (signed_decimal z)
signed_word (pos n) small = decimal_word n (omega arith)
signed_word (negsuc n) small = ((omega arith, omega arith), decimal_word (suc n) (omega arith))

pub change_law : IsRead IsChange signed_decimal change_of
unfolding change_of
change_law = record {
  takes = λ w z e.
      let b = bind_some (signed_of w) (λ k. cond (leb 1 (unsigned_abs k) && leb (unsigned_abs k) max_change) (Some k) None) z e in
      let h = cond_some (leb 1 (unsigned_abs b.0) && leb (unsigned_abs b.0) max_change) b.0 z b.2 in
      let p = and_parts (leb 1 (unsigned_abs b.0)) (leb (unsigned_abs b.0) max_change) h.0 in
      let t = signed_takes w b.0 b.1 in
      subst (λ (k : ℤ). IsChange k × (w ≡ signed_decimal k)) h.1 ((omega (arith, leb-true _ _ p.0), leb-true _ _ p.1), t.1);
  again = λ z fits.
      let least : leb 1 (unsigned_abs z) ≡ true = le-leb _ _ (omega (arith, fits.0)) in
      rw (signed_again z (fits_signed_from_abs w64 z (omega (arith, fits.1))), least, le-leb _ _ fits.1) refl;
  plain = λ z fits. signed_word z fits.1;
}

-- ---- kinds

kind_takes : (w : List ℕ) (k : Kind) → kind_of w ≡ Some k → w ≡ kind_word k
kind_takes [] k e = absurd cc
kind_takes (c ∷ d ∷ ds) k e = absurd cc
kind_takes (c ∷ []) k e = elim (cases_Bool (eqb c 108)) [
  | inl is ↦ let h : Some Lower ≡ Some k = sym (rw is refl) ∙ e in
      ap (λ (x : ℕ). x ∷ []) (eqb-true _ _ is) ∙ ap kind_word (same_Some Lower k h)
  | inr isnt ↦ elim (cases_Bool (eqb c 114)) [
    | inl is ↦ let h : Some Raise ≡ Some k = sym (rw (isnt, is) refl) ∙ e in
        ap (λ (x : ℕ). x ∷ []) (eqb-true _ _ is) ∙ ap kind_word (same_Some Raise k h)
    | inr other ↦ let h : None ≡ Some k = sym (rw (isnt, other) refl) ∙ e in absurd cc
  ]
]

kind_again : (k : Kind) → kind_of (kind_word k) ≡ Some k
kind_again Lower = refl
kind_again Raise = refl

-- a byte that can be seen is a word
pub letter_word : (c : ℕ) → 33 ≤ c → c ≤ 126 → IsWord (c ∷ [])
letter_word c low high = ((low, high), tt)

kind_is_word : (k : Kind) → IsWord (kind_word k)
kind_is_word Lower = letter_word 108 (omega arith) (omega arith)
kind_is_word Raise = letter_word 114 (omega arith) (omega arith)

abbrev pub Any : Kind → Type 0
Any k = Unit {0}

pub kind_law : IsRead Any kind_word kind_of
kind_law = record {
  takes = λ w k e. (tt, kind_takes w k e);
  again = λ k fits. kind_again k;
  plain = λ k fits. kind_is_word k;
}
