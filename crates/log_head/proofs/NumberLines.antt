-- Lines of numbers, and the one way in which they are spelled.
use Rattle.std.proofs.Common.{append_assoc, ◌≡◌, ◌≢◌, ℕ, ◌+◌, ◌<◌, ◌≤◌, ◌^◌, List, [], ◌∷◌, ◌++◌, Some, None, length, take, get_or, All, refl, sym, ap, subst, ◌∙◌, arith}
use Rattle.std.specs.Prelude.{map}
use Rattle.std.specs.List.{AllByRecursion, join_with_byte}
use Rattle.std.specs.Fmt.{decimal}
use Rattle.std.proofs.lemmas.Fmt.{decimal_injective, decimal_nonempty}
use Rattle.std.proofs.lemmas.List.{append-nil}
use Rattle.std.proofs.lemmas.List.Elements.{All-nil, All-cons, All-head, All-tail, All-append, All-get_or}
use Rattle.std.proofs.lemmas.Grind.{take_at_read}
use Rattle.line_words.specs.Words.{words}
use Rattle.line_words.specs.Reading.{number_of, word_at}
use Rattle.line_words.proofs.WordLemmas.{IsWord, IsWordByte, decimal_word, words-join, join-words, some_words}
use Rattle.line_words.proofs.Numbers.{number_takes, number_again, bind_some}
use Rattle.line_words.proofs.FrontLemmas.{word_taken}
use Rattle.site_folder.specs.Identity.{IsOneLine}
use Rattle.log_head.specs.Heads.{IsU64, numbers_text, spaced}

-- numbers behind a space
pub spaced_text : (n : ℕ) (ns : List ℕ) → spaced (n ∷ ns) ≡ 32 ∷ numbers_text (n ∷ ns)
spaced_text n [] = ap (λ (l : List ℕ). 32 ∷ l) (append-nil (decimal n))
spaced_text n (m ∷ ns) = ap (λ (l : List ℕ). 32 ∷ decimal n ++ l) (spaced_text m ns)

pub spaced-append : (ns ms : List ℕ) → spaced (ns ++ ms) ≡ spaced ns ++ spaced ms
spaced-append [] ms = refl
spaced-append (n ∷ ns) ms =
    ap (λ (l : List ℕ). 32 ∷ decimal n ++ l) (spaced-append ns ms)
    ∙ sym (append_assoc (32 ∷ decimal n) (spaced ns) (spaced ms))

word_line : (w : List ℕ) → IsWord w → IsOneLine w
word_line [] h = All-nil (λ b. b ≢ 10)
word_line (b ∷ w) h = All-cons (λ b. b ≢ 10) b w (λ e. omega (arith, h.0)) (word_line w h.1)

-- they are one line
pub spaced_line : (ns : List ℕ) → All IsU64 ns → IsOneLine (spaced ns)
spaced_line [] fit = All-nil (λ b. b ≢ 10)
spaced_line (n ∷ ns) fit =
    All-cons (λ b. b ≢ 10) 32 (decimal n ++ spaced ns) (λ e. omega (arith, e))
    (All-append (λ b. b ≢ 10) (decimal n) (spaced ns) (word_line (decimal n) (decimal_word n (All-head IsU64 n ns fit)))
    (spaced_line ns (All-tail IsU64 n ns fit)))

all_words : (ns : List ℕ) → All IsU64 ns → AllByRecursion IsWord (map decimal ns)
all_words [] fit = tt
all_words (n ∷ ns) fit = (decimal_word n (All-head IsU64 n ns fit), all_words ns (All-tail IsU64 n ns fit))

-- the words of a line of numbers
pub words_of_numbers : (n : ℕ) (ns : List ℕ) → All IsU64 (n ∷ ns) → words (numbers_text (n ∷ ns)) ≡ map decimal (n ∷ ns)
words_of_numbers n ns fit =
    let all = all_words (n ∷ ns) fit in
    words-join (decimal n) (map decimal ns) all.0 all.1

same_decimals : (ns ms : List ℕ) → All IsU64 ns → All IsU64 ms → map decimal ns ≡ map decimal ms → ns ≡ ms
same_decimals [] [] fit too e = refl
same_decimals [] (m ∷ ms) fit too e = absurd cc
same_decimals (n ∷ ns) [] fit too e = absurd cc
same_decimals (n ∷ ns) (m ∷ ms) fit too e =
    let head : decimal n ≡ decimal m = cc in
    let tail : map decimal ns ≡ map decimal ms = cc in
    let one = decimal_injective n m (All-head IsU64 n ns fit) (All-head IsU64 m ms too) head in
    let rest = same_decimals ns ms (All-tail IsU64 n ns fit) (All-tail IsU64 m ms too) tail in
    ap (λ (k : ℕ). k ∷ ns) one ∙ ap (λ (l : List ℕ). m ∷ l) rest

-- a line of numbers spells one list of them
pub same_numbers : (ns : List ℕ) (m : ℕ) (ms : List ℕ) → All IsU64 ns → All IsU64 (m ∷ ms) → numbers_text ns ≡ numbers_text (m ∷ ms)
    → ns ≡ m ∷ ms
same_numbers [] m ms fit too e =
    let told : words [] ≡ map decimal (m ∷ ms) = ap words e ∙ words_of_numbers m ms too in
    let first : [] ≡ decimal m = cc in
    absurd (omega (arith, ap (length {A = ℕ}) first, decimal_nonempty m (All-head IsU64 m ms too)))
same_numbers (n ∷ ns) m ms fit too e =
    same_decimals (n ∷ ns) (m ∷ ms) fit too (sym (words_of_numbers n ns fit) ∙ ap words e ∙ words_of_numbers m ms too)

pub same_spaced : (n : ℕ) (ns : List ℕ) (m : ℕ) (ms : List ℕ) → All IsU64 (n ∷ ns) → All IsU64 (m ∷ ms) → spaced (n ∷ ns) ≡ spaced (m ∷ ms)
    → n ∷ ns ≡ m ∷ ms
same_spaced n ns m ms fit too e =
    let behind : 32 ∷ numbers_text (n ∷ ns) ≡ 32 ∷ numbers_text (m ∷ ms) = sym (spaced_text n ns) ∙ e ∙ spaced_text m ms in
    let text : numbers_text (n ∷ ns) ≡ numbers_text (m ∷ ms) = cc in
    same_numbers (n ∷ ns) m ms fit too text

-- ---- as they are read

-- the first word was a number
pub took_number : (n : ℕ) (old new : List (List ℕ)) → word_at (number_of (2 ^ 64)) old ≡ Some (n, new) → old ≡ decimal n ∷ new
unfolding word_at
took_number n [] new e = absurd cc
took_number n (w ∷ ws) new e =
    let found = bind_some (number_of (2 ^ 64) w) (λ v. Some (v, ws)) (n, new) e in
    let told : Some (found.0, ws) ≡ Some (n, new) = found.2 in
    let is : (found.0, ws) ≡ (n, new) = cc in
    let number : found.0 ≡ n = ap (λ (p : ℕ × List (List ℕ)). p.0) is in
    let rest : ws ≡ new = ap (λ (p : ℕ × List (List ℕ)). p.1) is in
    let spelled = (number_takes (2 ^ 64) w found.0 found.1).1 in
    ap (λ (v : List ℕ). v ∷ ws) (spelled ∙ ap decimal number) ∙ ap (λ (l : List (List ℕ)). decimal n ∷ l) rest

pub number_fits : (n : ℕ) (old new : List (List ℕ)) → word_at (number_of (2 ^ 64)) old ≡ Some (n, new) → n < 2 ^ 64
unfolding word_at
number_fits n [] new e = absurd cc
number_fits n (w ∷ ws) new e =
    let found = bind_some (number_of (2 ^ 64) w) (λ v. Some (v, ws)) (n, new) e in
    let told : Some (found.0, ws) ≡ Some (n, new) = found.2 in
    let is : (found.0, ws) ≡ (n, new) = cc in
    let number : found.0 ≡ n = ap (λ (p : ℕ × List (List ℕ)). p.0) is in
    subst (λ (k : ℕ). k < 2 ^ 64) number (number_takes (2 ^ 64) w found.0 found.1).0

no_number : (w : List ℕ) (ws : List (List ℕ)) (m : ℕ) → m < 2 ^ 64 → w ≡ decimal m → word_at (number_of (2 ^ 64)) (w ∷ ws) ≡ None → ⊥
no_number w ws m fits is none =
    let one : number_of (2 ^ 64) w ≡ Some m = ap (number_of (2 ^ 64)) is ∙ number_again (2 ^ 64) m (omega arith) fits in
    let some : word_at (number_of (2 ^ 64)) (w ∷ ws) ≡ Some (m, ws) = word_taken (number_of (2 ^ 64)) w ws (w ∷ ws) m refl one in
    absurd cc

-- one number more was read
pub numbers_next : (all : List (List ℕ)) (ns : List ℕ) (n : ℕ) (old new : List (List ℕ)) → all ≡ map decimal ns ++ old → old ≡ decimal n ∷ new
    → all ≡ map decimal (ns ++ n ∷ []) ++ new
numbers_next all ns n old new is next = is ∙ ap (λ (l : List (List ℕ)). map decimal ns ++ l) next ∙ sym (one_more ns)
  where
    one_more : (ms : List ℕ) → map decimal (ms ++ n ∷ []) ++ new ≡ map decimal ms ++ decimal n ∷ new
    one_more [] = refl
    one_more (m ∷ ms) = ap (λ (l : List (List ℕ)). decimal m ∷ l) (one_more ms)

-- a line of numbers has no other word
pub no_other_word : (read : List ℕ) (old : List (List ℕ)) (ms : List ℕ) → All IsU64 ms → map decimal read ++ old ≡ map decimal ms → old ≢ []
    → word_at (number_of (2 ^ 64)) old ≡ None → ⊥
no_other_word [] [] ms fit e some none = some refl
no_other_word [] (w ∷ ws) [] fit e some none = absurd cc
no_other_word [] (w ∷ ws) (m ∷ ms) fit e some none =
    let is : w ≡ decimal m = cc in
    no_number w ws m (All-head IsU64 m ms fit) is none
no_other_word (n ∷ ns) old [] fit e some none = absurd cc
no_other_word (n ∷ ns) old (m ∷ ms) fit e some none =
    let tail : map decimal ns ++ old ≡ map decimal ms = cc in
    no_other_word ns old ms (All-tail IsU64 m ms fit) tail some none

-- all words were numbers
pub text_read : (line : List ℕ) (ns : List ℕ) (left : List (List ℕ)) → words line ≡ map decimal ns ++ left → left ≡ [] → line ≡ numbers_text ns
text_read line ns left e none =
    let all : words line ≡ map decimal ns = e ∙ ap (λ (l : List (List ℕ)). map decimal ns ++ l) none ∙ append-nil (map decimal ns) in
    sym (join-words line) ∙ ap (join_with_byte 32) all

-- a line of numbers is what was read, or was read further
pub not_numbers : (line : List ℕ) (ns : List ℕ) (left : List (List ℕ)) → words line ≡ map decimal ns ++ left → left ≢ []
    → word_at (number_of (2 ^ 64)) left ≡ None → (m : ℕ) (ms : List ℕ) → All IsU64 (m ∷ ms) → line ≢ numbers_text (m ∷ ms)
not_numbers line ns left is some none m ms fit e =
    no_other_word ns left (m ∷ ms) fit (sym is ∙ ap words e ∙ words_of_numbers m ms fit) some none

-- ---- loops

pub spaced_next : (xs : List ℕ) (i : ℕ) (before : List ℕ) → i < length xs
    → before ++ spaced (take (i + 1) xs) ≡ (before ++ spaced (take i xs)) ++ 32 ∷ decimal (get_or xs i 0)
spaced_next xs i before lt =
    let one : spaced (get_or xs i 0 ∷ []) ≡ 32 ∷ decimal (get_or xs i 0) =
    ap (λ (l : List ℕ). 32 ∷ l) (append-nil (decimal (get_or xs i 0))) in
    ap (λ (l : List ℕ). before ++ spaced l) (take_at_read xs i 0 lt).1
    ∙ ap (λ (l : List ℕ). before ++ l) (spaced-append (take i xs) (get_or xs i 0 ∷ []))
    ∙ ap (λ (l : List ℕ). before ++ (spaced (take i xs) ++ l)) one
    ∙ sym (append_assoc before (spaced (take i xs)) (32 ∷ decimal (get_or xs i 0)))

pub too_large : (xs : List ℕ) (i : ℕ) → i < length xs → 2 ^ 32 ≤ get_or xs i 0 → All (λ n. n < 2 ^ 32) xs → ⊥
too_large xs i lt large all = omega (arith, large, All-get_or (λ n. n < 2 ^ 32) xs i 0 lt all)

pub fit_more : (ns : List ℕ) (n : ℕ) → All IsU64 ns → n < 2 ^ 64 → All IsU64 (ns ++ n ∷ [])
fit_more ns n all fits = All-append IsU64 ns (n ∷ []) all (All-cons IsU64 n [] fits (All-nil IsU64))
