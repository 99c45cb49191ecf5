-- Fronts of lines: digits, and the word that ends behind them.
use Rattle.std.proofs.Common.{rules, suc, None, eqb, ltb, append_assoc, ◌≡◌, ℕ, ◌+◌, ◌^◌, ◌<◌, ◌≤◌, Bool, true, false, cond, ◌-◌, List, [], ◌∷◌, ◌++◌, length, get_or, take, drop, Option, Some, refl, sym, ap, subst, ◌∙◌, arith, add-one}
use Rattle.std.specs.Prelude.{◌==◌, ℤ, position}
use Rattle.std.specs.Fmt.{decimal}
use Rattle.std.specs.Str.Parse.{digits_value, AllDigits}
use Rattle.std.specs.Char.{is_ascii_digit}
use Rattle.std.proofs.lemmas.Bool.{ne_eqb, eq-eqb, lt-ltb, cond-true}
use Rattle.std.proofs.lemmas.Str.Parse.{numerals_by_value, tells_digits, digits_value_short, digit_at}
use Rattle.std.proofs.lemmas.Int.Digits.{digits_value_more, digits_more}
use Rattle.std.proofs.lemmas.List.{length-take-le, take-append-drop, take_all, get_or-take, take_more, length-drop, length-append, append-nil, append_cancel_left, get_or_append_left, get_or-append-add}
use Rattle.std.proofs.lemmas.List.Sums.{position_or_len_is}
use Rattle.std.proofs.lemmas.Fmt.{decimal_is_IsNumeral, decimal_digit}
use Rattle.std.proofs.lemmas.List.Elements.{All-from_get_or, All-append, All-from_recursion}
use Rattle.std.proofs.lemmas.List.Splits.{slice_split_none, slice_split_at}
use Rattle.std.proofs.Math.Seq.{drop-cons, take-add, take-append_seam, drop-append-add, get_or-append_seam}
use Rattle.std.specs.List.{onto_first, position_or_len, join_with_byte}
use Rattle.line_words.specs.Words.{words}
use Rattle.line_words.specs.Fronts.{IsSpaceFree, from_zero_of, below_zero_of, dotted_of}
use Rattle.line_words.specs.Reading.{◌>>=◌, number_of, negative_of, positive_of, signed_of, word_at}
use Rattle.line_words.proofs.Numbers.{number_good, number_takes, number_again, digit_is}
use Rattle.line_words.proofs.SignedNumbers.{plain_word, decimal_first}
use Rattle.line_words.proofs.Forms.{found}
use Rattle.line_words.proofs.WordLemmas.{is_space, some_words, join-words, line-append}

-- at most 19 digits are no number past u64
pub front_small : (w : List ℕ) (i : ℕ) → i ≤ length w → i ≤ 19 → AllDigits 10 (take i w) → digits_value 10 (take i w) < 10 ^ 19
front_small w i within few all =
    digits_value_short (numerals_by_value _ tells_digits) (take i w) 19 all (omega (arith, length-take-le i w within))

-- so one more than 18 are none either
pub front_more_small : (w : List ℕ) (i : ℕ) → i < length w → i < 19 → AllDigits 10 (take i w) → digits_value 10 (take i w) < 10 ^ 18
front_more_small w i within few all =
    digits_value_short (numerals_by_value _ tells_digits) (take i w) 18 all (omega (arith, length-take-le i w (omega arith)))

-- a digit alone
pub one_digit : (w : List ℕ) → 0 < length w → is_ascii_digit (get_or w 0 0) ≡ true
    → AllDigits 10 (take 1 w) × (digits_value 10 (take 1 w) ≡ get_or w 0 0 - 48)
one_digit w some is =
    let d = digit_is (get_or w 0 0) is in
    let none : AllDigits 10 (take 0 w) = search rules in
    let zero : digits_value 10 (take 0 w) ≡ 0 = search rules in
    (digits_more 10 w 0 some none d.0, omega (arith, digits_value_more 10 w 0 some, zero, d.2))

-- digits are no spaces
pub digits_space_free : (w : List ℕ) → AllDigits 10 w → IsSpaceFree w
digits_space_free w all = All-from_get_or (λ b. is_space b ≡ false) w 0
    (λ k lt. ne_eqb (get_or w k 0) 32 (λ e. let d = digit_at w k all lt in omega (arith, d.0)))

-- digits in front with no leading zero are a number
pub front_number : (w : List ℕ) (i v : ℕ) → i ≤ length w → 0 < i → AllDigits 10 (take i w) → v ≡ digits_value 10 (take i w) → v < 2 ^ 64
    → (get_or w 0 0 ≡ 48 → i ≤ 1) → number_of (2 ^ 64) (take i w) ≡ Some v
front_number w i v within some all is small start =
    let long : length (take i w) ≡ i = length-take-le i w within in
    number_good (2 ^ 64) (take i w) v (omega arith) all (omega arith)
    (λ e. omega (arith, start (sym (get_or-take i w 0 0 some) ∙ e))) is small

-- a zero in front
pub front_zero : (w : List ℕ) → 1 ≤ length w → get_or w 0 0 ≡ 48 → number_of (2 ^ 64) (take 1 w) ≡ Some 0
front_zero [] some e = absurd (omega arith)
front_zero (c ∷ w) some e = ap (λ (b : ℕ). number_of (2 ^ 64) (b ∷ [])) e ∙ ap (number_of (2 ^ 64)) (sym (decimal_digit 0 (omega arith)))
    ∙ number_again (2 ^ 64) 0 (omega arith) (omega arith)

-- a word that ends the line
pub word_whole : (w : List ℕ) (i : ℕ) → i ≡ length w → IsSpaceFree (take i w) → words w ≡ take i w ∷ []
word_whole w i e free =
    let whole : take i w ≡ w = take_all i w (omega arith) in
    slice_split_none is_space w (subst IsSpaceFree whole free) ∙ ap (λ (l : List ℕ). l ∷ []) (sym whole)

-- a word that a space ends
pub word_cut : (w : List ℕ) (i : ℕ) → i < length w → get_or w i 0 ≡ 32 → IsSpaceFree (take i w) → words w ≡ take i w ∷ words (drop (i + 1) w)
word_cut w i lt e free =
    let rest : drop i w ≡ get_or w i 0 ∷ drop (i + 1) w = rw add-one (drop-cons w i 0 lt) in
    let parts : w ≡ take i w ++ (32 ∷ drop (i + 1) w) =
    sym (take-append-drop i w) ∙ ap (λ (l : List ℕ). take i w ++ l) (rest ∙ ap (λ (b : ℕ). b ∷ drop (i + 1) w) e) in
    ap words parts ∙ slice_split_at is_space (take i w) 32 (drop (i + 1) w) free refl

-- the words of a line that is cut at a space
pub words-append : (xs ys : List ℕ) → words (xs ++ (32 ∷ ys)) ≡ words xs ++ words ys
words-append [] ys = refl
words-append (x ∷ xs) ys = rw (words-append xs ys) (first_word (is_space x) x (words xs) (words ys) (some_words xs))
  where
    first_word : (b : Bool) (x : ℕ) (a c : List (List ℕ)) → (a ≡ [] → ⊥)
        → cond b ([] ∷ (a ++ c)) (onto_first x (a ++ c)) ≡ cond b ([] ∷ a) (onto_first x a) ++ c
    first_word true x a c ne = refl
    first_word false x [] c ne = absurd (ne refl)
    first_word false x (p ∷ ps) c ne = refl

-- the front of a list that begins with this byte
pub take_behind : (w : List ℕ) (b k : ℕ) → 1 ≤ length w → get_or w 0 0 ≡ b → take (k + 1) w ≡ b ∷ take k (take (length w - 1) (drop 1 w))
take_behind [] b k some e = absurd (omega arith)
take_behind (c ∷ w) b k some e =
    let one : k + 1 ≡ suc k = omega arith in
    ap (λ (n : ℕ). take n (c ∷ w)) one ∙ ap (λ (x : ℕ). x ∷ take k w) e
    ∙ ap (λ (l : List ℕ). b ∷ take k l) (sym (take_all (length (c ∷ w) - 1) w (omega arith)))

-- a line that begins with a text is at least as long
front_within : (w t : List ℕ) → w ≡ t ++ drop (length t) w → length t ≤ length w
front_within w t e = omega (arith, ap length e, length-append t (drop (length t) w))

-- a line that begins with a text and a space
pub text_cut : (w t t' : List ℕ) → t' ≡ t → w ≡ t' ++ drop (length t') w → (length w ≡ length t → ⊥) → get_or w (length t) 0 ≡ 32
    → words w ≡ words t ++ words (take (length w - (length t + 1)) (drop (length t + 1) w))
text_cut w t t' is e ne space =
    let e' : w ≡ t ++ drop (length t) w = subst (λ (l : List ℕ). w ≡ l ++ drop (length l) w) is e in
    let lt : length t < length w = omega (arith, front_within w t e') in
    let rest : drop (length t) w ≡ get_or w (length t) 0 ∷ drop (length t + 1) w = rw add-one (drop-cons w (length t) 0 lt) in
    ap words (e' ∙ ap (λ (l : List ℕ). t ++ l) (rest ∙ ap (λ (x : ℕ). x ∷ drop (length t + 1) w) space))
    ∙ words-append t (drop (length t + 1) w)
    ∙ ap (λ (l : List ℕ). words t ++ words l)
    (sym (take_all (length w - (length t + 1)) (drop (length t + 1) w) (omega (arith, length-drop (length t + 1) w))))

-- a line of a text's words, and others, begins with the text
pub begins_again : (w t : List ℕ) (ws : List (List ℕ)) → words w ≡ words t ++ ws → (rest : List ℕ) × (w ≡ t ++ rest)
    × (0 < length rest → get_or rest 0 0 ≡ 32)
begins_again w t [] e = (
  [],
  sym (join-words w) ∙ ap (join_with_byte 32) (e ∙ append-nil (words t)) ∙ join-words t ∙ sym (append-nil t),
  λ some. absurd (omega arith),
)
begins_again w t (v ∷ vs) e = (
  32 ∷ join_with_byte 32 (v ∷ vs),
  sym (join-words w) ∙ ap (join_with_byte 32) e ∙ line_more (words t) v vs (some_words t)
      ∙ ap (λ (l : List ℕ). l ++ (32 ∷ join_with_byte 32 (v ∷ vs))) (join-words t),
  λ some. refl,
)
  where
    line_more : (a : List (List ℕ)) (v : List ℕ) (vs : List (List ℕ)) → (a ≡ [] → ⊥)
        → join_with_byte 32 (a ++ v ∷ vs) ≡ join_with_byte 32 a ++ (32 ∷ join_with_byte 32 (v ∷ vs))
    line_more [] v vs ne = absurd (ne refl)
    line_more (p ∷ ps) v vs ne = line-append p ps v vs

-- so a line that doesn't begin with the text has other words
pub other_words : (w t t' : List ℕ) (ws : List (List ℕ)) → t' ≡ t → ((rest : List ℕ) → w ≡ t' ++ rest → ⊥) → words w ≡ words t ++ ws → ⊥
other_words w t t' ws is other same =
    let b = begins_again w t ws same in
    other b.0 (b.1 ∙ ap (λ (l : List ℕ). l ++ b.0) (sym is))

-- nor has a line in which its last word goes on
pub longer_words : (w t t' : List ℕ) (ws : List (List ℕ)) → t' ≡ t → w ≡ t' ++ drop (length t') w → (length w ≡ length t → ⊥)
    → (get_or w (length t) 0 ≡ 32 → ⊥) → words w ≡ words t ++ ws → ⊥
longer_words w t t' ws is e ne no_space same =
    let e' : w ≡ t ++ drop (length t) w = subst (λ (l : List ℕ). w ≡ l ++ drop (length l) w) is e in
    let b = begins_again w t ws same in
    let rest-is : drop (length t) w ≡ b.0 = append_cancel_left t (drop (length t) w) b.0 (sym e' ∙ b.1) in
    let some : 0 < length b.0 = omega (arith, front_within w t e', sym (ap length rest-is), length-drop (length t) w) in
    let first : get_or w (length t + 0) 0 ≡ get_or b.0 0 0 =
    ap (λ (l : List ℕ). get_or l (length t + 0) 0) b.1 ∙ get_or-append-add t b.0 0 0 in
    let same_place : length t + 0 ≡ length t = omega arith in
    no_space (ap (λ (k : ℕ). get_or w k 0) (sym same_place) ∙ first ∙ b.2 some)

-- nor has a line of no words
pub no_words : (t : List ℕ) (old ws : List (List ℕ)) → old ≡ [] → old ≡ words t ++ ws → ⊥
no_words t old ws none e = nothing (words t) (some_words t) (sym e ∙ none)
  where
    nothing : (a : List (List ℕ)) → (a ≡ [] → ⊥) → a ++ ws ≡ [] → ⊥
    nothing [] ne e = ne refl
    nothing (p ∷ ps) ne e = absurd cc

-- ---- signed numbers, and two numbers with a dot between them

pub front_positive : (w : List ℕ) (n : ℕ) (z : ℤ) → number_of (2 ^ 64) w ≡ Some n → Some z ≡ from_zero_of n → signed_of w ≡ Some z
unfolding positive_of
front_positive w n z e is =
    let t = number_takes (2 ^ 64) w n e in
    let first : get_or w 0 0 ≡ 45 → ⊥ = λ h.
    omega (arith, decimal_first n t.0, sym (ap (λ (l : List ℕ). get_or l 0 0) t.1) ∙ h) in
    plain_word w first ∙ ap (λ (o : Option ℕ). o >>= from_zero_of) e ∙ sym is

pub front_negative : (w : List ℕ) (n : ℕ) (z : ℤ) → number_of (2 ^ 64) w ≡ Some n → Some z ≡ below_zero_of n → signed_of (45 ∷ w) ≡ Some z
unfolding signed_of negative_of
front_negative w n z e is = ap (λ (o : Option ℕ). o >>= below_zero_of) e ∙ sym is

-- a sign or a dot is no space
pub marked_space_free : (b : ℕ) (w : List ℕ) → is_space b ≡ false → IsSpaceFree w → IsSpaceFree (b ∷ w)
marked_space_free b w e free =
    All-append (λ b. is_space b ≡ false) (b ∷ []) w (All-from_recursion (λ b. is_space b ≡ false) (b ∷ []) (e, tt)) free

-- the front of a line up to the second of two numbers with a dot between them
pub dotted_front : (w : List ℕ) (i k : ℕ) → i < length w → get_or w i 0 ≡ 46
    → take (i + 1 + k) w ≡ take i w ++ (46 ∷ take k (take (length w - (i + 1)) (drop (i + 1) w)))
dotted_front w i k lt dot =
    take-add (i + 1) k w ∙ ap (λ (l : List ℕ). l ++ take k (drop (i + 1) w)) (take_more w i 0 lt)
    ∙ append_assoc (take i w) (get_or w i 0 ∷ []) (take k (drop (i + 1) w))
    ∙ ap (λ (b : ℕ). take i w ++ (b ∷ take k (drop (i + 1) w))) dot
    ∙ ap (λ (l : List ℕ). take i w ++ (46 ∷ take k l)) (sym (take_all (length w - (i + 1)) (drop (i + 1) w) (omega (arith, length-drop (i + 1) w))))

-- the first dot behind a number
pub dot_place : (d w : List ℕ) (n : ℕ) → number_of (2 ^ 64) d ≡ Some n → position (λ b. b == 46) (d ++ (46 ∷ w)) ≡ Some (length d)
dot_place d w n e =
    let t = number_takes (2 ^ 64) d n e in
    let all : AllDigits 10 d = subst (λ (l : List ℕ). AllDigits 10 l) (sym t.1) (decimal_is_IsNumeral n t.0).0.1 in
    let whole = d ++ (46 ∷ w) in
    let long : length d < length whole = omega (arith, length-append d (46 ∷ w)) in
    let before : (k : ℕ) → k < length d → eqb (get_or whole k 0) 46 ≡ false = λ k lt.
    ne_eqb (get_or whole k 0) 46 (λ h. let r = digit_at d k all lt in omega (arith, get_or_append_left d (46 ∷ w) 0 k lt)) in
    let at : length d < length whole → eqb (get_or whole (length d) 0) 46 ≡ true = λ h. eq-eqb _ 46 (get_or-append_seam d 46 w 0) in
    let place : position_or_len (λ b. b == 46) whole ≡ length d =
    position_or_len_is (λ b. b == 46) whole (length d) 0 (omega arith) before at in
    ap (λ (n : ℕ). cond (ltb n (length whole)) (Some n) None) place
    ∙ cond-true (ltb (length d) (length whole)) _ _ (lt-ltb (length d) (length whole) long)

pub front_dotted : (d w : List ℕ) (a b : ℕ) → number_of (2 ^ 64) d ≡ Some a → number_of (2 ^ 64) w ≡ Some b
    → dotted_of (d ++ (46 ∷ w)) ≡ Some (a, b)
unfolding dotted_of
front_dotted d w a b e f =
    let front : take (length d) (d ++ (46 ∷ w)) ≡ d = take-append_seam d (46 ∷ w) in
    let back : drop (length d + 1) (d ++ (46 ∷ w)) ≡ w = drop-append-add d (46 ∷ w) 1 in
    rw (dot_place d w a e, front, back, e, f) refl

-- a number in front, and what follows it
pub number_cut : (w : List ℕ) (i n : ℕ) → number_of (2 ^ 64) (take i w) ≡ Some n → w ≡ decimal n ++ take (length w - i) (drop i w)
number_cut w i n e =
    sym (take-append-drop i w) ∙ ap (λ (l : List ℕ). l ++ drop i w) (number_takes (2 ^ 64) (take i w) n e).1
    ∙ ap (λ (l : List ℕ). decimal n ++ l) (sym (take_all (length w - i) (drop i w) (omega (arith, length-drop i w))))

-- a digit in front, a mark, and what follows it
pub digit_cut : (w : List ℕ) (mark n : ℕ) → 2 ≤ length w → get_or w 1 0 ≡ mark → get_or w 0 0 ≡ 48 + n → n < 10
    → w ≡ decimal n ++ (mark ∷ take (length w - 2) (drop 2 w))
digit_cut [] mark n two after digit small = absurd (omega arith)
digit_cut (a ∷ []) mark n two after digit small = absurd (omega arith)
digit_cut (a ∷ b ∷ w) mark n two after digit small =
    let rest = take (length (a ∷ b ∷ w) - 2) w in
    ap (λ (x : ℕ). x ∷ b ∷ w) digit ∙ ap (λ (x : ℕ). (48 + n) ∷ x ∷ w) after
    ∙ ap (λ (l : List ℕ). (48 + n) ∷ mark ∷ l) (sym (take_all (length (a ∷ b ∷ w) - 2) w (omega arith)))
    ∙ ap (λ (d : List ℕ). d ++ (mark ∷ rest)) (sym (decimal_digit n small))

-- a reader of words reads the one in front
pub word_taken : {A : Type 0} (read : List ℕ → Option A) (w : List ℕ) (ws old : List (List ℕ)) (v : A) → old ≡ w ∷ ws → read w ≡ Some v
    → word_at read old ≡ Some (v, ws)
unfolding word_at
word_taken read w ws old v e is = ap (word_at read) e ∙ rw is refl

-- a reader that goes on from what another reads of a word
pub word_at_more : {A B : Type 0} (read : List ℕ → Option A) (more : A → Option B) (ws : List (List ℕ))
    → word_at (λ w. read w >>= more) ws ≡ (word_at read ws >>= λ p. more p.0 >>= λ v. found v p.1)
unfolding word_at
word_at_more read more [] = refl
word_at_more {A = A} {B = B} read more (w ∷ ws) = steps (read w)
  where
    steps : (o : Option A) → ((o >>= more) >>= λ v. found v ws) ≡ ((o >>= λ v. found v ws) >>= λ p. more p.0 >>= λ v. found v p.1)
    steps None = refl
    steps (Some x) = refl
