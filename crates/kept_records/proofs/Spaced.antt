-- Words that are written with a space before each.
use Rattle.std.proofs.Common.{◌≡◌, ℕ, ◌+◌, ◌<◌, List, [], ◌∷◌, ◌++◌, length, take, get_or, refl, sym, ap, ◌∙◌, append_assoc}
use Rattle.std.specs.Fmt.{decimal, signed_decimal}
use Rattle.std.specs.List.{join_with_byte}
use Rattle.std.proofs.lemmas.List.{take_more, append-nil}
use Rattle.std.proofs.lemmas.List.Concat.{flat_map-append}
use Rattle.field_bounds.specs.declared.entry.Escrow.{Escrow}
use Rattle.line_words.specs.Words.{line}
use Rattle.kept_records.specs.declared.record.Record.{Record}
use Rattle.kept_records.specs.Text.{text, letter_of, words_of, words_spaced, escrow_words, rights_words, group_words, cut_words, cuts_words, total_words}
use Rattle.kept_records.specs.declared.total.Total.{Total}
use Rattle.kept_records.specs.declared.total.Cut.{Cut}

-- a line is its first word and the others with a space before each
pub line_spaced : (w : List ℕ) (ws : List (List ℕ)) → join_with_byte 32 (w ∷ ws) ≡ w ++ words_spaced ws
line_spaced w [] = sym (append-nil w)
line_spaced w (v ∷ ws) = ap (λ (l : List ℕ). w ++ 32 ∷ l) (line_spaced v ws)

pub escrow_words_push : (es : List Escrow) (e : Escrow)
    → escrow_words (es ++ e ∷ []) ≡ escrow_words es ++ (decimal e.field.0 ∷ signed_decimal e.change ∷ [])
escrow_words_push [] e = refl
escrow_words_push (x ∷ es) e = ap (λ (l : List (List ℕ)). decimal x.field.0 ∷ signed_decimal x.change ∷ l) (escrow_words_push es e)

pub spaced_two : (v w : List ℕ) → words_spaced (v ∷ w ∷ []) ≡ (32 ∷ v) ++ (32 ∷ w)
spaced_two v w = ap (λ (l : List ℕ). (32 ∷ v) ++ (32 ∷ l)) (append-nil w)

-- the words of one more escrow
pub escrow_pushed : (start before mid after : List ℕ) (es : List Escrow) (i : ℕ) (e d : Escrow) → i < length es → e ≡ get_or es i d
    → before ≡ start ++ words_spaced (escrow_words (take i es)) → mid ≡ before ++ 32 ∷ decimal e.field.0
    → after ≡ mid ++ 32 ∷ signed_decimal e.change
    → after ≡ start ++ words_spaced (escrow_words (take (i + 1) es))
escrow_pushed start before mid after es i e d lt is b m a =
    let front = take i es in
    let more : take (i + 1) es ≡ front ++ e ∷ [] = take_more es i d lt ∙ ap (λ (x : Escrow). front ++ x ∷ []) (sym is) in
    let words : words_spaced (escrow_words (front ++ e ∷ [])) ≡ words_spaced (escrow_words front)
    ++ ((32 ∷ decimal e.field.0) ++ (32 ∷ signed_decimal e.change)) =
    ap words_spaced (escrow_words_push front e) ∙ flat_map-append (λ w. 32 ∷ w) (escrow_words front)
    (decimal e.field.0 ∷ signed_decimal e.change ∷ [])
    ∙ ap (λ (l : List ℕ). words_spaced (escrow_words front) ++ l) (spaced_two (decimal e.field.0) (signed_decimal e.change)) in
    a ∙ ap (λ (l : List ℕ). l ++ 32 ∷ signed_decimal e.change) (m ∙ ap (λ (l : List ℕ). l ++ 32 ∷ decimal e.field.0) b)
    ∙ append_assoc (start ++ words_spaced (escrow_words front)) (32 ∷ decimal e.field.0) (32 ∷ signed_decimal e.change)
    ∙ append_assoc start (words_spaced (escrow_words front)) ((32 ∷ decimal e.field.0) ++ (32 ∷ signed_decimal e.change))
    ∙ ap (λ (l : List ℕ). start ++ l) (sym words)
    ∙ ap (λ (l : List Escrow). start ++ words_spaced (escrow_words l)) (sym more)

-- the text behind what there was, piece by piece
pub text_behind : (r : Record) (letter : ℕ) (front first all whole : List ℕ) → letter ≡ letter_of r → first ≡ front ++ letter ∷ []
    → all ≡ first ++ words_spaced (words_of r) → whole ≡ all ++ 10 ∷ [] → whole ≡ front ++ text r
text_behind r letter front first all whole l f a w =
    let words : List ℕ = (letter ∷ []) ++ words_spaced (words_of r) in
    let is : words ≡ line ((letter_of r ∷ []) ∷ words_of r) =
    ap (λ (c : ℕ). (c ∷ []) ++ words_spaced (words_of r)) l ∙ sym (line_spaced (letter_of r ∷ []) (words_of r)) in
    w ∙ ap (λ (x : List ℕ). x ++ 10 ∷ []) (a ∙ ap (λ (x : List ℕ). x ++ words_spaced (words_of r)) f
    ∙ append_assoc front (letter ∷ []) (words_spaced (words_of r)))
    ∙ append_assoc front words (10 ∷ [])
    ∙ ap (λ (x : List ℕ). front ++ (x ++ 10 ∷ [])) is

-- ---- the words of a summary

rights_words_push : (rs : List (ℕ × ℕ)) (r : ℕ × ℕ) → rights_words (rs ++ r ∷ []) ≡ rights_words rs ++ (decimal r.0 ∷ decimal r.1 ∷ [])
rights_words_push [] r = refl
rights_words_push (x ∷ rs) r = ap (λ (l : List (List ℕ)). decimal x.0 ∷ decimal x.1 ∷ l) (rights_words_push rs r)

group_words_push : (letter : ℕ) (ts : List Total) (t : Total)
    → group_words letter (ts ++ t ∷ []) ≡ group_words letter ts ++ ((letter ∷ []) ∷ total_words t.site t.field t.kind t.total)
group_words_push letter [] t = ap (λ (l : List (List ℕ)). (letter ∷ []) ∷ l) (append-nil (total_words t.site t.field t.kind t.total))
group_words_push letter (x ∷ ts) t =
    let head = total_words x.site x.field x.kind x.total in
    ap (λ (l : List (List ℕ)). (letter ∷ []) ∷ (head ++ l)) (group_words_push letter ts t)
    ∙ ap (λ (l : List (List ℕ)). (letter ∷ []) ∷ l)
    (sym (append_assoc head (group_words letter ts) ((letter ∷ []) ∷ total_words t.site t.field t.kind t.total)))

-- words that were added to those of a front
more_words : (start before after : List ℕ) (front more : List (List ℕ)) → before ≡ start ++ words_spaced front
    → after ≡ before ++ words_spaced more → after ≡ start ++ words_spaced (front ++ more)
more_words start before after front more b a =
    a ∙ ap (λ (l : List ℕ). l ++ words_spaced more) b ∙ append_assoc start (words_spaced front) (words_spaced more)
    ∙ ap (λ (l : List ℕ). start ++ l) (sym (flat_map-append (λ w. 32 ∷ w) front more))

-- the words of one more field's rights
pub rights_pushed : (start before mid after : List ℕ) (rs : List (ℕ × ℕ)) (i : ℕ) (r d : ℕ × ℕ) → i < length rs → r ≡ get_or rs i d
    → before ≡ start ++ words_spaced (rights_words (take i rs)) → mid ≡ before ++ 32 ∷ decimal r.0 → after ≡ mid ++ 32 ∷ decimal r.1
    → after ≡ start ++ words_spaced (rights_words (take (i + 1) rs))
rights_pushed start before mid after rs i r d lt is b m a =
    let front = take i rs in
    let more : take (i + 1) rs ≡ front ++ r ∷ [] = take_more rs i d lt ∙ ap (λ (x : ℕ × ℕ). front ++ x ∷ []) (sym is) in
    let two : after ≡ before ++ words_spaced (decimal r.0 ∷ decimal r.1 ∷ []) =
    a ∙ ap (λ (l : List ℕ). l ++ 32 ∷ decimal r.1) m ∙ append_assoc before (32 ∷ decimal r.0) (32 ∷ decimal r.1)
    ∙ ap (λ (l : List ℕ). before ++ l) (sym (spaced_two (decimal r.0) (decimal r.1))) in
    more_words start before after (rights_words front) (decimal r.0 ∷ decimal r.1 ∷ []) b two
    ∙ ap (λ (l : List (List ℕ)). start ++ words_spaced l) (sym (rights_words_push front r))
    ∙ ap (λ (l : List (ℕ × ℕ)). start ++ words_spaced (rights_words l)) (sym more)

-- the words of one more total of a group
pub group_pushed : (letter : ℕ) (start before mid after : List ℕ) (ts : List Total) (i : ℕ) (t d : Total) → i < length ts
    → t ≡ get_or ts i d
    → before ≡ start ++ words_spaced (group_words letter (take i ts)) → mid ≡ before ++ 32 ∷ letter ∷ []
    → after ≡ mid ++ words_spaced (total_words t.site t.field t.kind t.total)
    → after ≡ start ++ words_spaced (group_words letter (take (i + 1) ts))
group_pushed letter start before mid after ts i t d lt is b m a =
    let front = take i ts in
    let told = total_words t.site t.field t.kind t.total in
    let more : take (i + 1) ts ≡ front ++ t ∷ [] = take_more ts i d lt ∙ ap (λ (x : Total). front ++ x ∷ []) (sym is) in
    let two : after ≡ before ++ words_spaced ((letter ∷ []) ∷ told) =
    a ∙ ap (λ (l : List ℕ). l ++ words_spaced told) m ∙ append_assoc before (32 ∷ letter ∷ []) (words_spaced told) in
    more_words start before after (group_words letter front) ((letter ∷ []) ∷ told) b two
    ∙ ap (λ (l : List (List ℕ)). start ++ words_spaced l) (sym (group_words_push letter front t))
    ∙ ap (λ (l : List Total). start ++ words_spaced (group_words letter l)) (sym more)

cuts_words_push : (ts : List Cut) (t : Cut) → cuts_words (ts ++ t ∷ []) ≡ cuts_words ts ++ ((116 ∷ []) ∷ cut_words t.field t.kind t.total)
cuts_words_push [] t = refl
cuts_words_push (x ∷ ts) t = ap (λ (l : List (List ℕ)). (116 ∷ []) ∷ (cut_words x.field x.kind x.total ++ l)) (cuts_words_push ts t)

-- the words of one more total given up
pub cut_pushed : (start before mid after : List ℕ) (ts : List Cut) (i : ℕ) (t d : Cut) → i < length ts → t ≡ get_or ts i d
    → before ≡ start ++ words_spaced (cuts_words (take i ts)) → mid ≡ before ++ 32 ∷ 116 ∷ []
    → after ≡ mid ++ words_spaced (cut_words t.field t.kind t.total)
    → after ≡ start ++ words_spaced (cuts_words (take (i + 1) ts))
cut_pushed start before mid after ts i t d lt is b m a =
    let front = take i ts in
    let told = cut_words t.field t.kind t.total in
    let more : take (i + 1) ts ≡ front ++ t ∷ [] = take_more ts i d lt ∙ ap (λ (x : Cut). front ++ x ∷ []) (sym is) in
    let two : after ≡ before ++ words_spaced ((116 ∷ []) ∷ told) =
    a ∙ ap (λ (l : List ℕ). l ++ words_spaced told) m ∙ append_assoc before (32 ∷ 116 ∷ []) (words_spaced told) in
    more_words start before after (cuts_words front) ((116 ∷ []) ∷ told) b two
    ∙ ap (λ (l : List (List ℕ)). start ++ words_spaced l) (sym (cuts_words_push front t))
    ∙ ap (λ (l : List Cut). start ++ words_spaced (cuts_words l)) (sym more)
