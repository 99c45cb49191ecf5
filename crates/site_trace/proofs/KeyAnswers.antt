-- A key, or a position, in front of a space.
use Rattle.std.proofs.Common.{◌≡◌, ◌≢◌, ℕ, Bool, true, false, List, [], ◌∷◌, ◌++◌, codes, inl, inr, refl, sym, ap, subst, ◌∙◌, arith}
use Rattle.std.specs.Prelude.{MatchBool}
use Rattle.std.specs.List.{AllPass}
use Rattle.std.specs.Fmt.{decimal}
use Rattle.std.proofs.lemmas.List.{append_assoc, append_cancel_left}
use Rattle.std.proofs.lemmas.List.Elements.{All-nil, All-cons, All-head, All-tail, All-same, All-append}
use Rattle.caller_keys.specs.Keys.{is_key_byte, IsKey}
use Rattle.site_trace.specs.Lines.{AnswersKey, IsTxn}
use Rattle.site_trace.specs.Reading.{StandsInFront, TellsKey}
use Rattle.site_trace.proofs.Sides.{IsSpaceless, decimal_spaceless}

key_byte : (b : ℕ) → is_key_byte b ≡ true → b ≢ 32
unfolding is_key_byte
key_byte b passes is =
    let none : is_key_byte b ≡ false = ap is_key_byte is in
    cc

all_spaceless : (key : List ℕ) → AllPass is_key_byte key → IsSpaceless key
all_spaceless [] all = All-nil (λ b. b ≢ 32)
all_spaceless (b ∷ key) all =
    All-cons (λ b. b ≢ 32) b key (key_byte b (All-head (λ b. is_key_byte b ≡ true) b key all))
    (all_spaceless key (All-tail (λ b. is_key_byte b ≡ true) b key all))

pub key_spaceless : (key : List ℕ) → IsKey key → IsSpaceless key
key_spaceless key is = all_spaceless key is.letters

pub txn_spaceless : (word : List ℕ) → IsTxn word → IsSpaceless word
txn_spaceless word is =
    let number : IsSpaceless (46 ∷ decimal is.txn.number) =
    All-cons (λ b. b ≢ 32) 46 (decimal is.txn.number) (λ e. omega (arith, e)) (decimal_spaceless is.txn.number (omega (arith, is.fits))) in
    All-same (λ b. b ≢ 32) word _ is.text
    (All-append (λ b. b ≢ 32) (decimal is.txn.epoch) (46 ∷ decimal is.txn.number)
    (decimal_spaceless is.txn.epoch (omega (arith, is.fits))) number)

has_space : (a b : List ℕ) → IsSpaceless (a ++ 32 ∷ b) → ⊥
has_space [] b none = All-head (λ b. b ≢ 32) 32 b none refl
has_space (x ∷ a) b none = has_space a b (All-tail (λ b. b ≢ 32) x (a ++ 32 ∷ b) none)

-- where no space is, no word stands in front of one
pub none_in_front : (P Q : List ℕ → Type 0) (bytes : List ℕ) → IsSpaceless bytes → StandsInFront P Q bytes → ⊥
none_in_front P Q bytes none stands = has_space stands.word stands.behind (All-same (λ b. b ≢ 32) _ bytes (sym stands.text) none)

-- bytes are cut in one way at their first space
record OneCut (a b x y : List ℕ) : Type 0 where
  front : a ≡ b
  rest : x ≡ y

one_cut : (a b x y : List ℕ) → IsSpaceless a → IsSpaceless b → a ++ 32 ∷ x ≡ b ++ 32 ∷ y → OneCut a b x y
one_cut [] [] x y p q e = record { front = refl; rest = cc }
one_cut [] (b ∷ bs) x y p q e = let is : b ≡ 32 = cc in absurd (All-head (λ b. b ≢ 32) b bs q is)
one_cut (a ∷ as1) [] x y p q e = let is : a ≡ 32 = cc in absurd (All-head (λ b. b ≢ 32) a as1 p is)
one_cut (a ∷ as1) (b ∷ bs) x y p q e =
    let tails : as1 ++ 32 ∷ x ≡ bs ++ 32 ∷ y = cc in
    let heads : a ≡ b = cc in
    let cut = one_cut as1 bs x y (All-tail (λ b. b ≢ 32) a as1 p) (All-tail (λ b. b ≢ 32) b bs q) tails in
    record { front = ap (λ (z : ℕ). z ∷ as1) heads ∙ ap (λ (l : List ℕ). b ∷ l) cut.front; rest = cut.rest }

cut_of : (P Q : List ℕ → Type 0) → ((w : List ℕ) → P w → IsSpaceless w) → (bytes word behind : List ℕ) → IsSpaceless word
    → bytes ≡ word ++ 32 ∷ behind → (t : StandsInFront P Q bytes) → OneCut word t.word behind t.behind
cut_of P Q words bytes word behind spaceless parts t =
    one_cut word t.word behind t.behind spaceless (words t.word t.is) (sym parts ∙ t.text)

-- where the first word is of the kind, what stands behind the space is or isn't
pub tells_by : (P Q : List ℕ → Type 0) → ((w : List ℕ) → P w → IsSpaceless w) → (bytes word behind : List ℕ) (b : Bool)
    → IsSpaceless word → bytes ≡ word ++ 32 ∷ behind → P word → MatchBool b (Q behind) (Q behind → ⊥)
    → MatchBool b (StandsInFront P Q bytes) (StandsInFront P Q bytes → ⊥)
tells_by P Q words bytes word behind true spaceless parts is tells =
    record { word = word; behind = behind; is = is; tells = tells; text = parts }
tells_by P Q words bytes word behind false spaceless parts is none =
    λ t. none (subst Q (sym (cut_of P Q words bytes word behind spaceless parts t).rest) t.tells)

-- where it isn't, none stands there
pub other_word : (P Q : List ℕ → Type 0) → ((w : List ℕ) → P w → IsSpaceless w) → (bytes word behind : List ℕ) (b : Bool)
    → IsSpaceless word → bytes ≡ word ++ 32 ∷ behind → (P word → ⊥) → b ≡ false
    → MatchBool b (StandsInFront P Q bytes) (StandsInFront P Q bytes → ⊥)
other_word P Q words bytes word behind true spaceless parts none is = absurd cc
other_word P Q words bytes word behind false spaceless parts none is =
    λ t. none (subst P (sym (cut_of P Q words bytes word behind spaceless parts t).front) t.is)

-- ---- the whole answer

-- what an answer tells behind the words in front of its key
pub answer_tells : (line rest : List ℕ) → line ≡ codes "kept key " ++ rest → AnswersKey line → TellsKey rest
answer_tells line rest parts answers =
    let same : rest ≡ answers.key ++ (answers.since ++ (codes " -> " ++ answers.told)) =
    append_cancel_left (codes "kept key ") rest _ (sym parts ∙ answers.text) in
    elim answers.is_since [
      | inl none ↦ record {
        word = answers.key;
        behind = codes "-> " ++ answers.told;
        is = answers.is_key;
        tells = inl (record { told = answers.told; is_told = answers.is_told; text = refl });
        text = same ∙ ap (λ (l : List ℕ). answers.key ++ (l ++ (codes " -> " ++ answers.told))) none;
      }
      | inr some ↦ record {
        word = answers.key;
        behind = codes "since " ++ (some.0 ++ 32 ∷ (codes "-> " ++ answers.told));
        is = answers.is_key;
        tells = inr (record {
          rest = some.0 ++ 32 ∷ (codes "-> " ++ answers.told);
          tells = record {
            word = some.0;
            behind = codes "-> " ++ answers.told;
            is = some.1;
            tells = record { told = answers.told; is_told = answers.is_told; text = refl };
            text = refl;
          };
          text = refl;
        });
        text = same ∙ ap (λ (l : List ℕ). answers.key ++ (l ++ (codes " -> " ++ answers.told))) some.2
            ∙ ap (λ (l : List ℕ). answers.key ++ l) (append_assoc (codes " since ") some.0 (codes " -> " ++ answers.told));
      }
    ]

-- such bytes behind those words are an answer
pub tells_answers : (line rest : List ℕ) → line ≡ codes "kept key " ++ rest → TellsKey rest → AnswersKey line
tells_answers line rest parts tells =
    elim tells.tells [
      | inl plain ↦ record {
        key = tells.word;
        since = [];
        told = plain.told;
        is_key = tells.is;
        is_since = inl refl;
        is_told = plain.is_told;
        text = parts ∙ ap (λ (l : List ℕ). codes "kept key " ++ l) (tells.text ∙ ap (λ (l : List ℕ). tells.word ++ 32 ∷ l) plain.text);
      }
      | inr since ↦ record {
        key = tells.word;
        since = codes " since " ++ since.tells.word;
        told = since.tells.tells.told;
        is_key = tells.is;
        is_since = inr (since.tells.word, since.tells.is, refl);
        is_told = since.tells.tells.is_told;
        text = parts ∙ ap (λ (l : List ℕ). codes "kept key " ++ l)
            (tells.text ∙ ap (λ (l : List ℕ). tells.word ++ 32 ∷ l)
            (since.text ∙ ap (λ (l : List ℕ). codes "since " ++ l)
            (since.tells.text ∙ ap (λ (l : List ℕ). since.tells.word ++ 32 ∷ l) since.tells.tells.text))
            ∙ ap (λ (l : List ℕ). tells.word ++ l)
            (sym (append_assoc (codes " since ") since.tells.word (codes " -> " ++ since.tells.tells.told))));
      }
    ]

-- so it is told of the whole line by what stands behind those words
pub answers_by : (line rest : List ℕ) (b : Bool) → line ≡ codes "kept key " ++ rest → MatchBool b (TellsKey rest) (TellsKey rest → ⊥)
    → MatchBool b (AnswersKey line) (AnswersKey line → ⊥)
answers_by line rest true parts tells = tells_answers line rest parts tells
answers_by line rest false parts none = λ answers. none (answer_tells line rest parts answers)
