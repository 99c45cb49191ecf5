-- The kinds of word that any line is made of: each is read as it is spelled.
use Rattle.std.proofs.Common.{◌≡◌, ℕ, suc, true, ◌^◌, ◌<◌, ◌≤◌, ltb, List, [], ◌∷◌, ◌++◌, Option, Some, None, sym, ap, subst, ◌∙◌, refl, arith, inl, inr}
use Rattle.std.specs.Prelude.{ℤ, pos, negsuc, FitsSigned, if◌then◌else◌, nat_lt, bytes_eq}
use Rattle.std.specs.Int.{w64}
use Rattle.std.specs.List.{AllByRecursion, list_all}
use Rattle.std.specs.Fmt.{decimal, signed_decimal}
use Rattle.std.proofs.lemmas.Bool.{lt-ltb, ltb-true, cond-true, and_parts}
use Rattle.std.proofs.lemmas.Int.{ints}
use Rattle.std.proofs.lemmas.Option.{same_Some, cond_some}
use Rattle.std.proofs.lemmas.Slice.Eq.{bytes_eq-Decides}
use Rattle.line_words.specs.Reading.{◌>>=◌, number_of, below, signed_of, beside, only_of, only_value}
use Rattle.line_words.proofs.Numbers.{number_takes, number_again, bind_some}
use Rattle.line_words.proofs.SignedNumbers.{signed_takes, signed_again, chosen}
use Rattle.line_words.proofs.WordLemmas.{IsWord, decimal_word, word_from_test, is_word}
use Rattle.line_words.proofs.Forms.{IsRead, found}

pub number_read : IsRead (λ (n : ℕ). n < 2 ^ 64) decimal (number_of (2 ^ 64))
number_read = record {
  takes = λ w n e. number_takes (2 ^ 64) w n e;
  again = λ n lt. number_again (2 ^ 64) n (omega arith) lt;
  plain = λ n lt. decimal_word n lt;
}

signed_word : (z : ℤ) → FitsSigned w64 z → IsWord (signed_decimal z)
signed_word (pos n) fits = decimal_word n (omega (arith, ints, fits))
signed_word (negsuc n) fits = ((omega arith, omega arith), decimal_word (suc n) (omega (arith, ints, fits)))

pub signed_read : IsRead (λ (z : ℤ). FitsSigned w64 z) signed_decimal signed_of
signed_read = record { takes = signed_takes; again = signed_again; plain = signed_word }

-- ---- numbers below a limit

pub below_takes : (limit : ℕ) (w : List ℕ) (n : ℕ) → below limit w ≡ Some n → (n < limit) × (w ≡ decimal n)
below_takes limit w n e =
    let b = bind_some (number_of (2 ^ 64) w) (λ n. if nat_lt n limit then Some n else None) n e in
    let g = cond_some (ltb b.0 limit) b.0 n b.2 in
    let t = number_takes (2 ^ 64) w b.0 b.1 in
    let lt : b.0 < limit = ltb-true b.0 limit g.0 in
    (subst (λ (k : ℕ). k < limit) g.1 lt, t.1 ∙ ap decimal g.1)

pub below_again : (limit n : ℕ) → limit ≤ 2 ^ 64 → n < limit → below limit (decimal n) ≡ Some n
below_again limit n small lt =
    ap (λ (o : Option ℕ). o >>= λ n. if nat_lt n limit then Some n else None) (number_again (2 ^ 64) n (omega arith) (omega arith))
    ∙ cond-true (ltb n limit) _ _ (lt-ltb n limit lt)

pub below_read : (limit : ℕ) → limit ≤ 2 ^ 64 → IsRead (λ (n : ℕ). n < limit) decimal (below limit)
below_read limit small = record {
  takes = below_takes limit;
  again = λ n lt. below_again limit n small lt;
  plain = λ n lt. decimal_word n (omega arith);
}

-- ---- tables of words

-- each word of the table is the text of what stands beside it
abbrev pub IsTable : {A : Type 0} → (A → List ℕ) → List (List ℕ × A) → Type 0
IsTable text table = AllByRecursion (λ e. e.0 ≡ text e.1) table

beside_takes : {A : Type 0} (text : A → List ℕ) (table : List (List ℕ × A)) → IsTable text table → (w : List ℕ) (v : A)
    → beside table w ≡ Some v → w ≡ text v
beside_takes text [] all w v e = absurd cc
beside_takes text (k ∷ table) all w v e =
    elim (chosen (bytes_eq w k.0) (Some k.1) (beside table w) (Some v) e) [
      | inl h ↦ (bytes_eq-Decides w k.0).0 h.0 ∙ all.0 ∙ ap text (same_Some k.1 v h.1)
      | inr h ↦ beside_takes text table all.1 w v h.1
    ]

-- what a table finds, it finds at one of its words
beside_word : {A : Type 0} (table : List (List ℕ × A)) (w : List ℕ) (v : A) → list_all (λ e. is_word e.0) table ≡ true
    → beside table w ≡ Some v → IsWord w
beside_word [] w v all e = absurd cc
beside_word (k ∷ table) w v all e =
    let words = and_parts (is_word k.0) (list_all (λ e. is_word e.0) table) all in
    elim (chosen (bytes_eq w k.0) (Some k.1) (beside table w) (Some v) e) [
      | inl h ↦ subst IsWord (sym ((bytes_eq-Decides w k.0).0 h.0)) (word_from_test k.0 words.0)
      | inr h ↦ beside_word table w v words.1 h.1
    ]

-- a table of words, at which each value is found by its text
pub table_read : {A : Type 0} (text : A → List ℕ) (table : List (List ℕ × A)) → IsTable text table
    → list_all (λ e. is_word e.0) table ≡ true → ((v : A) → beside table (text v) ≡ Some v) → IsRead (λ v. Unit {0}) text (beside table)
table_read text table is words again = record {
  takes = λ w v e. (tt, beside_takes text table is w v e);
  again = λ v fits. again v;
  plain = λ v fits. beside_word table (text v) v words (again v);
}

-- ---- words that say nothing more

only_takes : (k w : List ℕ) (u : Unit {0}) → only_of k w ≡ Some u → w ≡ k
unfolding only_of
only_takes k w u e = (bytes_eq-Decides w k).0 (cond_some (bytes_eq w k) tt u e).0

only_again : (k : List ℕ) (u : Unit {0}) → only_of k k ≡ Some u
unfolding only_of
only_again k u = cond-true (bytes_eq k k) _ _ ((bytes_eq-Decides k k).1 refl)

pub only_read : (k : List ℕ) → is_word k ≡ true → IsRead (λ (u : Unit {0}). Unit {0}) (λ u. k) (only_of k)
only_read k e = record { takes = λ w u e. (tt, only_takes k w u e); again = λ u fits. only_again k u; plain = λ u fits. word_from_test k e }

-- ---- whole lines

pub ended_takes : {A : Type 0} (x : A × List (List ℕ)) (y : A) → only_value x ≡ Some y → found x.0 x.1 ≡ found y []
ended_takes (v, []) y e = ap (λ (z : _). found z []) (same_Some v y e)
ended_takes (v, w ∷ ws) y e = absurd cc

pub all_append : (a b : List (List ℕ)) → AllByRecursion IsWord a → AllByRecursion IsWord b → AllByRecursion IsWord (a ++ b)
all_append [] b h k = k
all_append (w ∷ a) b h k = (h.0, all_append a b h.1 k)
