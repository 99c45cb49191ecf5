-- Tables of readers read the words of values, and no others, where each row does so of its values.
use Rattle.std.proofs.Common.{◌≡◌, ℕ, true, List, [], ◌∷◌, ◌++◌, refl, sym, ap, subst, ◌∙◌, inl, inr}
use Rattle.std.specs.Prelude.{bytes_eq}
use Rattle.std.specs.List.{AllByRecursion, list_all}
use Rattle.std.proofs.lemmas.Bool.{and_parts}
use Rattle.std.proofs.lemmas.Option.{some_pair_parts}
use Rattle.std.proofs.lemmas.Slice.Eq.{bytes_eq-Decides}
use Rattle.line_words.proofs.SignedNumbers.{chosen}
use Rattle.line_words.proofs.WordLemmas.{IsWord, is_word, word_from_test}
use Rattle.line_words.proofs.Forms.{IsRead, IsForm, found, taking, taking_form, word_again, made_of}
use Rattle.line_words.proofs.WordKinds.{only_read}
use Rattle.entry_text.specs.Reading.{WordReader, Reader, map_at, one_word, two_words, three_words, four_words, five_words, phrase, read_beside, table_at}

-- What the reader gives is a value that fits, whose words are this one and those that were read.
abbrev pub IsRow : {A : Type 0} (Fits : A → Type 0) (texts : A → List (List ℕ)) → List ℕ → Reader A → Type 0
IsRow {A} Fits texts w at =
    (ws : List (List ℕ)) (v : A) (rest : List (List ℕ)) → at ws ≡ found v rest → Fits v × (w ∷ ws ≡ texts v ++ rest)

-- Each row of the table does so.
abbrev pub IsTable : {A : Type 0} (Fits : A → Type 0) (texts : A → List (List ℕ)) → List (List ℕ × Reader A) → Type 0
IsTable Fits texts table = AllByRecursion (λ row. IsRow Fits texts row.0 row.1) table

-- one and the others
infixr 5 ◌&◌
abbrev pub ◌&◌ : {A B : Type 0} → A → B → A × B
a & b = (a, b)

beside_takes : {A : Type 0} (Fits : A → Type 0) (texts : A → List (List ℕ)) (table : List (List ℕ × Reader A))
    → IsTable Fits texts table → (w : List ℕ) → IsRow Fits texts w (read_beside table w)
beside_takes Fits texts [] rows w ws v rest e = absurd cc
beside_takes Fits texts (k ∷ table) rows w ws v rest e =
    elim (chosen (bytes_eq w k.0) (k.1 ws) (read_beside table w ws) (found v rest) e) [
      | inl h ↦ let t = rows.0 ws v rest h.1 in (t.0, ap (λ (u : List ℕ). u ∷ ws) ((bytes_eq-Decides w k.0).0 h.0) ∙ t.1)
      | inr h ↦ beside_takes Fits texts table rows.1 w ws v rest h.1
    ]

pub table_takes : {A : Type 0} (Fits : A → Type 0) (texts : A → List (List ℕ)) (table : List (List ℕ × Reader A)) → IsTable Fits texts table
    → (ws : List (List ℕ)) (v : A) (rest : List (List ℕ)) → table_at table ws ≡ found v rest → Fits v × (ws ≡ texts v ++ rest)
unfolding table_at
table_takes Fits texts table rows [] v rest e = absurd cc
table_takes Fits texts table rows (w ∷ ws) v rest e = beside_takes Fits texts table rows w ws v rest e

-- ---- rows of words that are told

pub words_from_test : (ws : List (List ℕ)) → list_all is_word ws ≡ true → AllByRecursion IsWord ws
words_from_test [] e = tt
words_from_test (w ∷ ws) e =
    let p = and_parts (is_word w) (list_all is_word ws) e in
    (word_from_test w p.0, words_from_test ws p.1)

phrase_words : {A : Type 0} (ks : List (List ℕ)) → list_all is_word ks ≡ true → (b : A) (ws : List (List ℕ)) (v : A) (rest : List (List ℕ))
    → phrase ks b ws ≡ found v rest → (b ≡ v) × (ws ≡ ks ++ rest)
phrase_words [] plain b ws v rest e = some_pair_parts b v ws rest e
phrase_words (k ∷ ks) plain b ws v rest e =
    let p = and_parts (is_word k) (list_all is_word ks) plain in
    taking (only_read k p.0) _ ws _ e (λ u r1 f1 w1 e1.
    let t = phrase_words ks p.1 b r1 v rest e1 in (t.0, w1 ∙ ap (λ (l : List (List ℕ)). k ∷ l) t.1))

-- a row's word and a phrase
pub phrase_row : {A : Type 0} (Fits : A → Type 0) (texts : A → List (List ℕ)) (b : A) (w : List ℕ) (ks : List (List ℕ))
    → list_all is_word ks ≡ true → Fits b → texts b ≡ w ∷ ks → IsRow Fits texts w (phrase ks b)
phrase_row Fits texts b w ks plain fits spelled ws v rest e =
    let t = phrase_words ks plain b ws v rest e in
    (subst Fits t.0 fits, ap (λ (l : List (List ℕ)). w ∷ l) t.1 ∙ ap (λ (l : List (List ℕ)). l ++ rest) (sym spelled ∙ ap texts t.0))

pub phrase_again : {A : Type 0} (ks : List (List ℕ)) → list_all is_word ks ≡ true → (v : A) (rest : List (List ℕ))
    → phrase ks v (ks ++ rest) ≡ found v rest
phrase_again [] plain v rest = refl
phrase_again (k ∷ ks) plain v rest =
    let p = and_parts (is_word k) (list_all is_word ks) plain in
    word_again (only_read k p.0) _ tt _ tt ∙ phrase_again ks p.1 v rest

-- ---- rows of so many words: what is made of them fits, and is spelled by the row's word and by theirs

pub map_row : {A V : Type 0} {F : A → Type 0} {at : Reader A} (Fits : V → Type 0) (texts : V → List (List ℕ)) {w : List ℕ}
    {t : A → List (List ℕ)} (law : IsForm F t at) (make : A → V)
    → ((a : A) → F a → Fits (make a) × (texts (make a) ≡ w ∷ t a)) → IsRow Fits texts w (map_at at make)
map_row Fits texts law make spelled ws v rest e =
    taking_form law _ ws _ e (λ a r1 f1 w1 e1.
    let s = spelled a f1 in
    made_of Fits texts _ (make a) v r1 rest e1 s.0 (cc (w1, s.1)))

pub one_row : {A V : Type 0}
    {Fa : A → Type 0} {ta : A → List ℕ} {ra : WordReader A}
    (Fits : V → Type 0) (texts : V → List (List ℕ)) {w : List ℕ}
    (of_a : IsRead Fa ta ra) (make : A → V)
    → ((a : A) → Fa a → Fits (make a) × (texts (make a) ≡ w ∷ ta a ∷ []))
    → IsRow Fits texts w (one_word ra make)
one_row Fits texts of_a make spelled ws v rest e =
    taking of_a _ ws _ e (λ a r1 f1 w1 e1.
    let s = spelled a f1 in
    made_of Fits texts _ (make a) v r1 rest e1 s.0 (cc (w1, s.1)))

pub two_row : {A B V : Type 0}
    {Fa : A → Type 0} {ta : A → List ℕ} {ra : WordReader A} {Fb : B → Type 0} {tb : B → List ℕ} {rb : WordReader B}
    (Fits : V → Type 0) (texts : V → List (List ℕ)) {w : List ℕ}
    (of_a : IsRead Fa ta ra) (of_b : IsRead Fb tb rb) (make : A → B → V)
    → ((a : A) (b : B) → Fa a → Fb b → Fits (make a b) × (texts (make a b) ≡ w ∷ ta a ∷ tb b ∷ []))
    → IsRow Fits texts w (two_words ra rb make)
two_row Fits texts of_a of_b make spelled ws v rest e =
    taking of_a _ ws _ e (λ a r1 f1 w1 e1.
    taking of_b _ r1 _ e1 (λ b r2 f2 w2 e2.
    let s = spelled a b f1 f2 in
    made_of Fits texts _ (make a b) v r2 rest e2 s.0 (cc (w1, w2, s.1))))

pub three_row : {A B C V : Type 0}
    {Fa : A → Type 0} {ta : A → List ℕ} {ra : WordReader A} {Fb : B → Type 0} {tb : B → List ℕ} {rb : WordReader B}
    {Fc : C → Type 0} {tc : C → List ℕ} {rc : WordReader C}
    (Fits : V → Type 0) (texts : V → List (List ℕ)) {w : List ℕ}
    (of_a : IsRead Fa ta ra) (of_b : IsRead Fb tb rb) (of_c : IsRead Fc tc rc) (make : A → B → C → V)
    → ((a : A) (b : B) (c : C) → Fa a → Fb b → Fc c → Fits (make a b c) × (texts (make a b c) ≡ w ∷ ta a ∷ tb b ∷ tc c ∷ []))
    → IsRow Fits texts w (three_words ra rb rc make)
three_row Fits texts of_a of_b of_c make spelled ws v rest e =
    taking of_a _ ws _ e (λ a r1 f1 w1 e1.
    taking of_b _ r1 _ e1 (λ b r2 f2 w2 e2.
    taking of_c _ r2 _ e2 (λ c r3 f3 w3 e3.
    let s = spelled a b c f1 f2 f3 in
    made_of Fits texts _ (make a b c) v r3 rest e3 s.0 (cc (w1, w2, w3, s.1)))))

pub four_row : {A B C D V : Type 0}
    {Fa : A → Type 0} {ta : A → List ℕ} {ra : WordReader A} {Fb : B → Type 0} {tb : B → List ℕ} {rb : WordReader B}
    {Fc : C → Type 0} {tc : C → List ℕ} {rc : WordReader C} {Fd : D → Type 0} {td : D → List ℕ} {rd : WordReader D}
    (Fits : V → Type 0) (texts : V → List (List ℕ)) {w : List ℕ}
    (of_a : IsRead Fa ta ra) (of_b : IsRead Fb tb rb) (of_c : IsRead Fc tc rc) (of_d : IsRead Fd td rd) (make : A → B → C → D → V)
    → ((a : A) (b : B) (c : C) (d : D) → Fa a → Fb b → Fc c → Fd d
    → Fits (make a b c d) × (texts (make a b c d) ≡ w ∷ ta a ∷ tb b ∷ tc c ∷ td d ∷ []))
    → IsRow Fits texts w (four_words ra rb rc rd make)
four_row Fits texts of_a of_b of_c of_d make spelled ws v rest e =
    taking of_a _ ws _ e (λ a r1 f1 w1 e1.
    taking of_b _ r1 _ e1 (λ b r2 f2 w2 e2.
    taking of_c _ r2 _ e2 (λ c r3 f3 w3 e3.
    taking of_d _ r3 _ e3 (λ d r4 f4 w4 e4.
    let s = spelled a b c d f1 f2 f3 f4 in
    made_of Fits texts _ (make a b c d) v r4 rest e4 s.0 (cc (w1, w2, w3, w4, s.1))))))

pub five_row : {A B C D E V : Type 0}
    {Fa : A → Type 0} {ta : A → List ℕ} {ra : WordReader A} {Fb : B → Type 0} {tb : B → List ℕ} {rb : WordReader B}
    {Fc : C → Type 0} {tc : C → List ℕ} {rc : WordReader C} {Fd : D → Type 0} {td : D → List ℕ} {rd : WordReader D}
    {Fe : E → Type 0} {te : E → List ℕ} {re : WordReader E}
    (Fits : V → Type 0) (texts : V → List (List ℕ)) {w : List ℕ}
    (of_a : IsRead Fa ta ra) (of_b : IsRead Fb tb rb) (of_c : IsRead Fc tc rc) (of_d : IsRead Fd td rd) (of_e : IsRead Fe te re)
    (make : A → B → C → D → E → V)
    → ((a : A) (b : B) (c : C) (d : D) (e : E) → Fa a → Fb b → Fc c → Fd d → Fe e
    → Fits (make a b c d e) × (texts (make a b c d e) ≡ w ∷ ta a ∷ tb b ∷ tc c ∷ td d ∷ te e ∷ []))
    → IsRow Fits texts w (five_words ra rb rc rd re make)
five_row Fits texts of_a of_b of_c of_d of_e make spelled ws v rest e =
    taking of_a _ ws _ e (λ a r1 f1 w1 e1.
    taking of_b _ r1 _ e1 (λ b r2 f2 w2 e2.
    taking of_c _ r2 _ e2 (λ c r3 f3 w3 e3.
    taking of_d _ r3 _ e3 (λ d r4 f4 w4 e4.
    taking of_e _ r4 _ e4 (λ e r5 f5 w5 e5.
    let s = spelled a b c d e f1 f2 f3 f4 f5 in
    made_of Fits texts _ (make a b c d e) v r5 rest e5 s.0 (cc (w1, w2, w3, w4, w5, s.1)))))))
