-- Lines of notes, and the one way in which bytes are cut at a byte.
use Rattle.std.proofs.Common.{append_assoc, ◌≡◌, ◌≢◌, ℕ, zero, suc, ◌<◌, ◌^◌, ◌/◌, ◌%◌, ◌==◌, true, false, List, [], ◌∷◌, ◌++◌, All, codes, slice_index, refl, sym, ap, subst, ◌∙◌, arith}
use Rattle.std.specs.List.{list_any}
use Rattle.std.specs.Fmt.{decimal}
use Rattle.std.proofs.lemmas.Bool.{or_parts, or_from, eq-eqb, ne_eqb}
use Rattle.std.proofs.lemmas.List.{append_cancel_left, append_cancel_right}
use Rattle.std.proofs.lemmas.Fmt.{decimal_injective}
use Rattle.std.proofs.lemmas.List.Elements.{All-nil, All-cons, All-head, All-tail, All-same, All-append}
use Rattle.hex.specs.Hex.{encode_with, encode_upper, upper_digits}
use Rattle.field_bounds.specs.declared.id.TxnId.{TxnId}
use Rattle.line_words.proofs.WordLemmas.{IsWord as IsSeen, decimal_word}
use Rattle.caller_keys.specs.Keys.{IsKey, KeyNote, IsNote, note_of, note_line}
use Rattle.caller_keys.specs.Reading.{spelled}

-- no byte is this one
abbrev pub Without : ℕ → List ℕ → Type 0
Without c bytes = All (λ b. b ≢ c) bytes

-- ---- cuts at a byte

has_it : (c : ℕ) (a b : List ℕ) → Without c (a ++ c ∷ b) → ⊥
has_it c [] b h = All-head (λ b. b ≢ c) c b h refl
has_it c (x ∷ a) b h = has_it c a b (All-tail (λ b. b ≢ c) x (a ++ c ∷ b) h)

-- the byte stands in no bytes without it
pub no_cut : (c : ℕ) (bytes a b : List ℕ) → Without c bytes → bytes ≡ a ++ c ∷ b → ⊥
no_cut c bytes a b h is = has_it c a b (All-same (λ b. b ≢ c) (a ++ c ∷ b) bytes (sym is) h)

-- two cuts of the same bytes at the first such byte are one
pub record Same (a b x y : List ℕ) : Type 0 where
  pub front : a ≡ b
  pub rest : x ≡ y

pub one_cut : (c : ℕ) (a b x y : List ℕ) → Without c a → Without c b → a ++ c ∷ x ≡ b ++ c ∷ y → Same a b x y
one_cut c [] [] x y p q e = record { front = refl; rest = cc }
one_cut c [] (b ∷ bs) x y p q e = let is : b ≡ c = cc in absurd (All-head (λ b. b ≢ c) b bs q is)
one_cut c (a ∷ as1) [] x y p q e = let is : a ≡ c = cc in absurd (All-head (λ b. b ≢ c) a as1 p is)
one_cut c (a ∷ as1) (b ∷ bs) x y p q e =
    let tails : as1 ++ c ∷ x ≡ bs ++ c ∷ y = cc in
    let r = one_cut c as1 bs x y (All-tail (λ b. b ≢ c) a as1 p) (All-tail (λ b. b ≢ c) b bs q) tails in
    let heads : a ≡ b = cc in
    record { front = ap (λ (z : ℕ). z ∷ as1) heads ∙ ap (λ (l : List ℕ). b ∷ l) r.front; rest = r.rest }

-- ---- bytes without a byte

pub by_test : (c : ℕ) (w : List ℕ) → list_any (λ b. b == c) w ≡ false → Without c w
by_test c [] e = All-nil (λ b. b ≢ c)
by_test c (b ∷ w) e =
    let h = or_parts (b == c) (list_any (λ b. b == c) w) e in
    All-cons (λ b. b ≢ c) b w (λ is. let same : (b == c) ≡ true = eq-eqb b c is in let not : (b == c) ≡ false = h.0 in cc) (by_test c w h.1)

pub tested : (c : ℕ) (w : List ℕ) → Without c w → list_any (λ b. b == c) w ≡ false
tested c [] h = refl
tested c (b ∷ w) h =
    or_from (b == c) (list_any (λ b. b == c) w) (ne_eqb b c (All-head (λ b. b ≢ c) b w h)) (tested c w (All-tail (λ b. b ≢ c) b w h))

-- a byte that isn't seen is in no word of bytes that are
pub seen_without : (c : ℕ) (w : List ℕ) → c < 33 → IsSeen w → Without c w
seen_without c [] low h = All-nil (λ b. b ≢ c)
seen_without c (b ∷ w) low h = All-cons (λ b. b ≢ c) b w (λ e. omega (arith, h.0, e)) (seen_without c w low h.1)

pub number_without : (c n : ℕ) → c < 33 → n < 2 ^ 64 → Without c (decimal n)
number_without c n low lt = seen_without c (decimal n) low (decimal_word n lt)

digit_apart : (c : ℕ) (t : List ℕ) → 0 ≢ c → Without c t → (k : ℕ) → slice_index t k ≢ c
digit_apart c [] apart h k = apart
digit_apart c (b ∷ t) apart h zero = All-head (λ b. b ≢ c) b t h
digit_apart c (b ∷ t) apart h (suc k) = digit_apart c t apart (All-tail (λ b. b ≢ c) b t h) k

digits_without : (xs : List ℕ) → Without 10 (encode_with upper_digits xs)
unfolding encode_with
digits_without [] = All-nil (λ b. b ≢ 10)
digits_without (b ∷ rest) =
    let apart : (k : ℕ) → slice_index upper_digits k ≢ 10 = digit_apart 10 upper_digits (λ e. cc) (by_test 10 upper_digits refl) in
    All-cons (λ b. b ≢ 10) (slice_index upper_digits (b / 16)) (slice_index upper_digits (b % 16) ∷ encode_with upper_digits rest) (apart (b / 16))
    (All-cons (λ b. b ≢ 10) (slice_index upper_digits (b % 16)) (encode_with upper_digits rest) (apart (b % 16)) (digits_without rest))

-- ---- the line of a note

-- the line without its line feed
abbrev pub body_of : KeyNote → List ℕ
body_of n = spelled n.txn.epoch n.txn.number (encode_upper n.key)

pub line_is : (n : KeyNote) → body_of n ++ 10 ∷ [] ≡ note_line n
line_is n = refl

-- what is spelled, from its front on
pub regrouped : (epoch number : ℕ) (digits : List ℕ)
    → spelled epoch number digits ≡ codes "K " ++ (decimal epoch ++ 32 ∷ (decimal number ++ 32 ∷ digits))
regrouped epoch number digits =
    ap (λ (l : List ℕ). codes "K " ++ l) (append_assoc (decimal epoch) (32 ∷ decimal number) (32 ∷ digits))

pub wide : (n : ℕ) → n < 2 ^ 32 → n < 2 ^ 64
wide n lt = omega (arith, lt)

pub body_without : (n : KeyNote) → IsNote n → Without 10 (body_of n)
body_without n is =
    let epoch = number_without 10 n.txn.epoch (omega arith) (wide n.txn.epoch is.epoch) in
    let number = number_without 10 n.txn.number (omega arith) (wide n.txn.number is.number) in
    let digits = All-cons (λ b. b ≢ 10) 32 (encode_upper n.key) (λ e. cc) (digits_without n.key) in
    let second = All-cons (λ b. b ≢ 10) 32 (decimal n.txn.number) (λ e. cc) number in
    let first = All-append (λ b. b ≢ 10) (codes "K ") (decimal n.txn.epoch) (by_test 10 (codes "K ") refl) epoch in
    let both = All-append (λ b. b ≢ 10) (codes "K " ++ decimal n.txn.epoch) (32 ∷ decimal n.txn.number) first second in
    All-append (λ b. b ≢ 10) (codes "K " ++ decimal n.txn.epoch ++ 32 ∷ decimal n.txn.number) (32 ∷ encode_upper n.key) both digits

-- ---- what is spelled

-- a number and a space tell one number and one rest
pub record SameNumber (m n : ℕ) (x y : List ℕ) : Type 0 where
  pub number : m ≡ n
  pub rest : x ≡ y

pub same_number : (m n : ℕ) (x y : List ℕ) → m < 2 ^ 64 → n < 2 ^ 64 → decimal m ++ 32 ∷ x ≡ decimal n ++ 32 ∷ y → SameNumber m n x y
same_number m n x y fits too is =
    let same = one_cut 32 (decimal m) (decimal n) x y (number_without 32 m (omega arith) fits) (number_without 32 n (omega arith) too) is in
    record { number = decimal_injective m n fits too same.front; rest = same.rest }

-- a word that is no number, and a space
pub not_number : (bytes word rest : List ℕ) → Without 32 word → bytes ≡ word ++ 32 ∷ rest → ((n : ℕ) → n < 2 ^ 64 → word ≢ decimal n)
    → (n : ℕ) (more : List ℕ) → n < 2 ^ 64 → bytes ≢ decimal n ++ 32 ∷ more
not_number bytes word rest one is none n more fits e =
    none n fits (one_cut 32 word (decimal n) rest more one (number_without 32 n (omega arith) fits) (sym is ∙ e)).front

-- what is spelled tells two numbers and the digits
pub record SameSpelled (e f m n : ℕ) (x y : List ℕ) : Type 0 where
  pub epoch : e ≡ f
  pub number : m ≡ n
  pub digits : x ≡ y

pub same_spelled : (e f m n : ℕ) (x y : List ℕ) → e < 2 ^ 64 → f < 2 ^ 64 → m < 2 ^ 64 → n < 2 ^ 64 → spelled e m x ≡ spelled f n y
    → SameSpelled e f m n x y
same_spelled e f m n x y fe ff fm fn is =
    let behind : decimal e ++ 32 ∷ (decimal m ++ 32 ∷ x) ≡ decimal f ++ 32 ∷ (decimal n ++ 32 ∷ y) =
    append_cancel_left (codes "K ") _ _ (sym (regrouped e m x) ∙ is ∙ regrouped f n y) in
    let first = same_number e f (decimal m ++ 32 ∷ x) (decimal n ++ 32 ∷ y) fe ff behind in
    let second = same_number m n x y fm fn first.rest in
    record { epoch = first.number; number = second.number; digits = second.rest }

-- the numbers behind the first one, as they were read
pub not_second : (bytes : List ℕ) (e : ℕ) (rest : List ℕ) → e < 2 ^ 64 → bytes ≡ codes "K " ++ (decimal e ++ 32 ∷ rest)
    → ((n : ℕ) (more : List ℕ) → n < 2 ^ 64 → rest ≢ decimal n ++ 32 ∷ more) → (f n : ℕ) (digits : List ℕ) → f < 2 ^ 64 → n < 2 ^ 64
    → bytes ≢ spelled f n digits
not_second bytes e rest fits is none f n digits ff fn also =
    let behind : decimal e ++ 32 ∷ rest ≡ decimal f ++ 32 ∷ (decimal n ++ 32 ∷ digits) =
    append_cancel_left (codes "K ") _ _ (sym is ∙ also ∙ regrouped f n digits) in
    none n digits fn (same_number e f rest (decimal n ++ 32 ∷ digits) fits ff behind).rest

-- ---- lines that are no note's

-- a note's line is cut in one way before its line feed
body_is : (n : KeyNote) (line : List ℕ) → note_line n ≡ line ++ 10 ∷ [] → body_of n ≡ line
body_is n line is = append_cancel_right (body_of n) line (10 ∷ []) is

told : (n : KeyNote) (line : List ℕ) (epoch number : ℕ) (digits : List ℕ) → epoch < 2 ^ 64 → number < 2 ^ 64 → line ≡ spelled epoch number digits
    → IsNote n → note_line n ≡ line ++ 10 ∷ [] → SameSpelled n.txn.epoch epoch n.txn.number number (encode_upper n.key) digits
told n line epoch number digits fe fn spells is also =
    same_spelled n.txn.epoch epoch n.txn.number number (encode_upper n.key) digits (wide n.txn.epoch is.epoch) fe (wide n.txn.number is.number) fn
    (body_is n line also ∙ spells)

-- a line that isn't spelled so
pub not_spelled : (line : List ℕ) → ((epoch number : ℕ) (digits : List ℕ) → epoch < 2 ^ 64 → number < 2 ^ 64 → line ≢ spelled epoch number digits)
    → (n : KeyNote) → IsNote n → note_line n ≢ line ++ 10 ∷ []
not_spelled line none n is also =
    none n.txn.epoch n.txn.number (encode_upper n.key) (wide n.txn.epoch is.epoch) (wide n.txn.number is.number) (sym (body_is n line also))

-- numbers that no transaction has
pub other_numbers : (line : List ℕ) (epoch number : ℕ) (digits : List ℕ) → epoch < 2 ^ 64 → number < 2 ^ 64 → line ≡ spelled epoch number digits
    → (epoch < 2 ^ 32 → number < 2 ^ 32 → ⊥) → (n : KeyNote) → IsNote n → note_line n ≢ line ++ 10 ∷ []
other_numbers line epoch number digits fe fn spells none n is also =
    let same = told n line epoch number digits fe fn spells is also in
    none (subst (λ (k : ℕ). k < 2 ^ 32) same.epoch is.epoch) (subst (λ (k : ℕ). k < 2 ^ 32) same.number is.number)

-- digits that are no key's
pub other_digits : (line : List ℕ) (epoch number : ℕ) (digits : List ℕ) → epoch < 2 ^ 64 → number < 2 ^ 64 → line ≡ spelled epoch number digits
    → ((key : List ℕ) → IsKey key → digits ≢ encode_upper key) → (n : KeyNote) → IsNote n → note_line n ≢ line ++ 10 ∷ []
other_digits line epoch number digits fe fn spells none n is also =
    none n.key is.key (sym (told n line epoch number digits fe fn spells is also).digits)

-- a line that tells a note is its line
pub note_told : (line : List ℕ) (epoch number : ℕ) (digits key : List ℕ) (txn : TxnId) → line ≡ spelled epoch number digits → txn.epoch ≡ epoch
    → txn.number ≡ number → digits ≡ encode_upper key → line ++ 10 ∷ [] ≡ note_line (note_of key txn)
note_told line epoch number digits key txn spells e m d =
    ap (λ (l : List ℕ). l ++ 10 ∷ []) (spells ∙ ap (λ (k : ℕ). spelled k number digits) (sym e)
    ∙ ap (λ (k : ℕ). spelled txn.epoch k digits) (sym m) ∙ ap (λ (l : List ℕ). spelled txn.epoch txn.number l) d)
