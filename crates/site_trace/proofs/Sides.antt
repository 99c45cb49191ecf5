-- Words at the ends of a line.
use Rattle.std.proofs.Common.{◌≡◌, ◌≢◌, ℕ, ◌-◌, List, ◌++◌, true, false, length, take, drop, bytes_eq, refl, sym, ap, ◌∙◌, arith, Bool, Option, Some, None, inl, inr, ◌⊎◌, [], ◌∷◌, ◌<◌, ◌^◌}
use Rattle.std.specs.Prelude.{MatchOption, MatchBool}
use Rattle.std.specs.Borrow.{Bor}
use Rattle.std.proofs.lemmas.List.{take-append-drop, take_at, length-append, append_cancel_left}
use Rattle.std.proofs.lemmas.Slice.Eq.{bytes_eq-Decides}
use Rattle.std.proofs.Math.Seq.{drop-append_seam}
use Rattle.std.specs.List.{All}
use Rattle.std.specs.Fmt.{decimal}
use Rattle.std.proofs.lemmas.List.Elements.{All-nil, All-cons, All-head, All-tail, All-same}
use Rattle.line_words.proofs.WordLemmas.{IsWord, decimal_word}
use Rattle.site_trace.specs.Reading.{IsNumber, StartsWithNumber}

pub begins_with : (line rest word : List ℕ) → bytes_eq (take (length word) line) word ≡ true → rest ≡ drop (length word) line
    → line ≡ word ++ rest
begins_with line rest word same is =
    let front : take (length word) line ≡ word = (bytes_eq-Decides (take (length word) line) word).0 same in
    sym (take-append-drop (length word) line) ∙ ap (λ (l : List ℕ). l ++ drop (length word) line) front
    ∙ ap (λ (l : List ℕ). word ++ l) (sym is)

pub begins_not : (line word : List ℕ) → bytes_eq (take (length word) line) word ≡ false → (rest : List ℕ) → line ≢ word ++ rest
begins_not line word other rest is =
    let front : take (length word) line ≡ word = ap (take (length word)) is ∙ take_at word rest (length word) refl in
    let same : bytes_eq (take (length word) line) word ≡ true = (bytes_eq-Decides (take (length word) line) word).1 front in
    cc

pub ends_with : (line front word : List ℕ) → bytes_eq (drop (length line - length word) line) word ≡ true
    → front ≡ take (length line - length word) line → line ≡ front ++ word
ends_with line front word same is =
    let at = length line - length word in
    let back : drop at line ≡ word = (bytes_eq-Decides (drop at line) word).0 same in
    sym (take-append-drop at line) ∙ ap (λ (l : List ℕ). take at line ++ l) back ∙ ap (λ (l : List ℕ). l ++ word) (sym is)

-- what stands at the end of a line is what is left behind the bytes in front of it
seam : (line front word : List ℕ) → line ≡ front ++ word → drop (length line - length word) line ≡ word
seam line front word is =
    let at : length line - length word ≡ length front = omega (arith, ap length is, length-append front word) in
    ap (λ (n : ℕ). drop n line) at ∙ ap (λ (l : List ℕ). drop (length front) l) is ∙ drop-append_seam front word

pub ends_not : (line word : List ℕ) → bytes_eq (drop (length line - length word) line) word ≡ false → (front : List ℕ) → line ≢ front ++ word
ends_not line word other front is =
    let same : bytes_eq (drop (length line - length word) line) word ≡ true =
    (bytes_eq-Decides (drop (length line - length word) line) word).1 (seam line front word is) in
    cc

-- a line of three parts
pub between_by : (line rest front end : List ℕ) (r : Option (Bor (List ℕ))) → line ≡ front ++ rest
    → MatchOption r ((inner : List ℕ) → rest ≢ inner ++ end) (λ inner. rest ≡ inner.now ++ end)
    → MatchOption r ((inner : List ℕ) → line ≢ front ++ (inner ++ end)) (λ inner. line ≡ front ++ (inner.now ++ end))
between_by line rest front end None parts never = λ inner is. never inner (append_cancel_left front rest (inner ++ end) (sym parts ∙ is))
between_by line rest front end (Some x) parts is = parts ∙ ap (λ (l : List ℕ). front ++ l) is

-- one of two, of which it isn't the first
pub second_of : (b : Bool) (P Q : Type 0) → (P → ⊥) → MatchBool b Q (Q → ⊥) → MatchBool b (P ⊎ Q) (P ⊎ Q → ⊥)
second_of true P Q never is = inr is
second_of false P Q never other = λ h. elim h [ inl p ↦ never p | inr q ↦ other q ]

-- ---- a number in front of a space

abbrev pub IsSpaceless : List ℕ → Type 0
IsSpaceless word = All (λ b. b ≢ 32) word

word_spaceless : (word : List ℕ) → IsWord word → IsSpaceless word
word_spaceless [] is = All-nil (λ b. b ≢ 32)
word_spaceless (b ∷ word) is = All-cons (λ b. b ≢ 32) b word (λ e. omega (arith, e, is.0)) (word_spaceless word is.1)

pub decimal_spaceless : (n : ℕ) → n < 2 ^ 64 → IsSpaceless (decimal n)
decimal_spaceless n fits = word_spaceless (decimal n) (decimal_word n fits)

space_there : (a b : List ℕ) → IsSpaceless (a ++ 32 ∷ b) → ⊥
space_there [] b none = All-head (λ b. b ≢ 32) 32 b none refl
space_there (x ∷ a) b none = space_there a b (All-tail (λ b. b ≢ 32) x (a ++ 32 ∷ b) none)

one_word : (a b x y : List ℕ) → IsSpaceless a → IsSpaceless b → a ++ 32 ∷ x ≡ b ++ 32 ∷ y → a ≡ b
one_word [] [] x y p q e = refl
one_word [] (b ∷ bs) x y p q e = let is : b ≡ 32 = cc in absurd (All-head (λ b. b ≢ 32) b bs q is)
one_word (a ∷ as1) [] x y p q e = let is : a ≡ 32 = cc in absurd (All-head (λ b. b ≢ 32) a as1 p is)
one_word (a ∷ as1) (b ∷ bs) x y p q e =
    let tails : as1 ++ 32 ∷ x ≡ bs ++ 32 ∷ y = cc in
    let heads : a ≡ b = cc in
    let rest = one_word as1 bs x y (All-tail (λ b. b ≢ 32) a as1 p) (All-tail (λ b. b ≢ 32) b bs q) tails in
    ap (λ (z : ℕ). z ∷ as1) heads ∙ ap (λ (l : List ℕ). b ∷ l) rest

-- where no space is, no number stands in front of one
pub no_number : (bytes : List ℕ) → IsSpaceless bytes → StartsWithNumber bytes → ⊥
no_number bytes none starts = space_there (decimal starts.number) starts.rest (All-same (λ b. b ≢ 32) _ bytes (sym starts.text) none)

-- where the first word is a number, one stands in front of a space, and only there
pub starts_by : (bytes word why : List ℕ) (b : Bool) → IsSpaceless word → bytes ≡ word ++ 32 ∷ why
    → MatchBool b (IsNumber word) (IsNumber word → ⊥) → MatchBool b (StartsWithNumber bytes) (StartsWithNumber bytes → ⊥)
starts_by bytes word why true spaceless parts is = record {
  number = is.number;
  rest = why;
  fits = is.fits;
  text = parts ∙ ap (λ (l : List ℕ). l ++ 32 ∷ why) is.text;
}
starts_by bytes word why false spaceless parts none = λ starts. none (record {
  number = starts.number;
  fits = starts.fits;
  text = one_word word (decimal starts.number) why starts.rest spaceless (decimal_spaceless starts.number starts.fits)
      (sym parts ∙ starts.text);
})
