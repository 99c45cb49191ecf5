-- Words, cut at spaces.
use Rattle.std.proofs.Common.{append_assoc, ◌≡◌, ℕ, ◌+◌, ◌^◌, ◌<◌, ◌≤◌, Bool, true, false, cond, not, ltb, List, [], ◌∷◌, ◌++◌, length, take, drop, Option, Some, None, refl, sym, ap, subst, ◌∙◌, arith}
use Rattle.std.specs.Prelude.{◌==◌, ◌&&◌, ◌≢◌, position, MatchBool, is_some}
use denote.Ref.{Bor}
use Rattle.std.specs.List.{position_or_len, All, join_with_byte, AllByRecursion}
use Rattle.std.proofs.lemmas.Bool.{ltb-true, ltb-false, ne_eqb, and_parts}
use Rattle.std.proofs.lemmas.List.Splits.{slice_split_first, slice_split_none, slice_split_at, join_with_byte-slice_split, length-slice_split}
use Rattle.std.proofs.lemmas.List.Sums.{fails_before_first}
use Rattle.std.proofs.lemmas.List.Elements.{All-from_get_or, All-from_recursion}
use Rattle.std.proofs.lemmas.Option.{cond_some}
use Rattle.std.specs.Str.Parse.{AllDigits}
use Rattle.std.specs.Fmt.{decimal}
use Rattle.std.proofs.lemmas.Str.Parse.{digit_from_value}
use Rattle.std.proofs.lemmas.Fmt.{decimal_is_IsNumeral}
use Rattle.line_words.specs.Words.{words, words_of}

abbrev pub is_space : ℕ → Bool
is_space b = b == 32

-- up to the first space
pub words_first : (bytes : List ℕ) (i : ℕ) → position (λ b. b == 32) bytes ≡ Some i → (i < length bytes)
    × (words bytes ≡ take i bytes ∷ words (drop (i + 1) bytes))
words_first bytes i e =
    let p = cond_some (ltb (position_or_len is_space bytes) (length bytes)) (position_or_len is_space bytes) i e in
    let lt : position_or_len is_space bytes < length bytes = ltb-true _ _ p.0 in
    let i-is : position_or_len is_space bytes ≡ i = p.1 in (
      subst (λ (n : ℕ). n < length bytes) i-is lt,
      slice_split_first is_space bytes 0 lt
          ∙ ap (λ (n : ℕ). take n bytes ∷ words (drop (n + 1) bytes)) i-is,
    )

none_past : {A : Type 0} (b : Bool) (x : A) → cond b (Some x) None ≡ None → b ≡ false
none_past true x e = absurd cc
none_past false x e = refl

-- with no space
pub words_last : (bytes : List ℕ) → position (λ b. b == 32) bytes ≡ None → words bytes ≡ bytes ∷ []
words_last bytes e =
    let le : length bytes ≤ position_or_len is_space bytes = ltb-false _ _ (none_past _ _ e) in
    slice_split_none is_space bytes (All-from_get_or (λ x. is_space x ≡ false) bytes 0
    (λ k lt. fails_before_first is_space bytes k 0 (omega arith)))

-- a byte that can be seen: no space, no line feed, ASCII
abbrev pub IsWordByte : ℕ → Type 0
IsWordByte b = (33 ≤ b) × (b ≤ 126)

-- a word of such bytes
abbrev pub IsWord : List ℕ → Type 0
IsWord w = AllByRecursion IsWordByte w

no_space : (w : List ℕ) → IsWord w → All (λ b. is_space b ≡ false) w
no_space w h = All-from_recursion _ w (weaker w h)
  where
    weaker : (w : List ℕ) → IsWord w → AllByRecursion (λ b. is_space b ≡ false) w
    weaker [] h = h
    weaker (b ∷ w) h = (ne_eqb b 32 (λ e. omega (arith, h.0)), weaker w h.1)

-- cutting undoes joining
pub words-join : (w : List ℕ) (ws : List (List ℕ)) → IsWord w → AllByRecursion IsWord ws → words (join_with_byte 32 (w ∷ ws)) ≡ w ∷ ws
words-join w [] h hs = slice_split_none is_space w (no_space w h)
words-join w (v ∷ ws) h hs = slice_split_at is_space w 32 (join_with_byte 32 (v ∷ ws)) (no_space w h) refl
    ∙ ap (λ (l : List (List ℕ)). w ∷ l) (words-join v ws hs.0 hs.1)

-- joining undoes cutting
pub join-words : (bytes : List ℕ) → join_with_byte 32 (words bytes) ≡ bytes
join-words bytes = join_with_byte-slice_split 32 bytes

pub some_words : (bytes : List ℕ) → words bytes ≡ [] → ⊥
some_words bytes e = omega (arith, length-slice_split is_space bytes, ap length e)

pub is_empty_says : (left : Option (Bor (List ℕ))) (b : Bool) → is_some left ≡ not b → MatchBool b (words_of left ≡ []) (words_of left ≢ [])
is_empty_says None true e = refl
is_empty_says None false e = absurd cc
is_empty_says (Some bytes) true e = absurd cc
is_empty_says (Some bytes) false e = some_words bytes.now

-- digits can be seen
digits_word : (ds : List ℕ) → AllDigits 10 ds → IsWord ds
digits_word [] h = tt
digits_word (c ∷ ds) h = (digit_byte c (digit_from_value c h.0), digits_word ds h.1)
  where
    digit_byte : (c : ℕ) → (48 ≤ c) × (c ≤ 57) → IsWordByte c
    digit_byte c d = (omega (arith, d.0), omega (arith, d.1))

pub decimal_word : (n : ℕ) → n < 2 ^ 64 → IsWord (decimal n)
decimal_word n lt = digits_word (decimal n) (decimal_is_IsNumeral n lt).0.1

pub IsWord-append : (a b : List ℕ) → IsWord a → IsWord b → IsWord (a ++ b)
IsWord-append [] b h k = k
IsWord-append (c ∷ a) b h k = (h.0, IsWord-append a b h.1 k)

-- the same as a test
abbrev pub is_word : List ℕ → Bool
is_word [] = true
is_word (b ∷ w) = ltb 32 b && ltb b 127 && is_word w

pub word_from_test : (w : List ℕ) → is_word w ≡ true → IsWord w
word_from_test [] e = tt
word_from_test (b ∷ w) e =
    let p = and_parts (ltb 32 b && ltb b 127) (is_word w) e in
    let q = and_parts (ltb 32 b) (ltb b 127) p.0 in
    let least : 32 < b = ltb-true 32 b q.0 in
    let most : b < 127 = ltb-true b 127 q.1 in
    ((omega arith, omega arith), word_from_test w p.1)

-- two lines with a space between them are the line of all words
pub line-append : (w : List ℕ) (ws : List (List ℕ)) (v : List ℕ) (vs : List (List ℕ))
    → join_with_byte 32 (w ∷ ws ++ v ∷ vs) ≡ join_with_byte 32 (w ∷ ws) ++ (32 ∷ join_with_byte 32 (v ∷ vs))
line-append w [] v vs = refl
line-append w (x ∷ ws) v vs = ap (λ (l : List ℕ). w ++ (32 ∷ l)) (line-append x ws v vs)
    ∙ sym (append_assoc w (32 ∷ join_with_byte 32 (x ∷ ws)) (32 ∷ join_with_byte 32 (v ∷ vs)))
