-- Words that a reader reads, and lists of words: one law for each kind of argument.
use Rattle.std.proofs.Common.{◌≡◌, ℕ, List, [], ◌∷◌, ◌++◌, Option, Some, refl, sym, ap, subst, ◌∙◌}
use Rattle.std.specs.Prelude.{IfSome}
use Rattle.std.specs.List.{AllByRecursion}
use Rattle.std.proofs.lemmas.Option.{same_Some, some_pair_parts}
use Rattle.line_words.specs.Reading.{◌>>=◌, word_at}
use Rattle.line_words.proofs.Numbers.{bind_some, some_from}
use Rattle.line_words.proofs.WordLemmas.{IsWord}

-- The reader reads the values' texts and no others.
pub record IsRead {A : Type 0} (Fits : A → Type 0) (text : A → List ℕ) (read : List ℕ → Option A) : Type 0 where
  pub takes : (w : List ℕ) (v : A) → read w ≡ Some v → Fits v × (w ≡ text v)
  pub again : (v : A) → Fits v → read (text v) ≡ Some v
  pub plain : (v : A) → Fits v → IsWord (text v)

-- what the answer of a reader says of the word
pub read_says : {A : Type 0} {Fits : A → Type 0} {text : A → List ℕ} {read : List ℕ
    → Option A} (law : IsRead Fits text read) (w : List ℕ) (r : Option A) → r ≡ read w
    → record { value : r ≡ read w; found : IfSome r (λ v. w ≡ text v); only : (v : A) → Fits v → w ≡ text v → r ≡ Some v }
read_says {read = read} law w r e = record {
  value = e;
  found = some_from r _ (λ v h. (law.takes w v (sym e ∙ h)).1);
  only = λ v fits h. e ∙ ap read h ∙ law.again v fits;
}

-- the first word is a value's, and the rest is read on
pub record Begins {A B : Type 0} (Fits : A → Type 0) (text : A → List ℕ) (next : A × List (List ℕ)
    → Option B) (ws : List (List ℕ)) (y : B) : Type 0 where
  pub value : A
  pub rest : List (List ℕ)
  pub fits : Fits value
  pub words : ws ≡ text value ∷ rest
  pub on : next (value, rest) ≡ Some y

pub word_takes : {A B : Type 0} {Fits : A → Type 0} {text : A → List ℕ} {read : List ℕ → Option A} (law : IsRead Fits text read) (next : A
    × List (List ℕ) → Option B) (ws : List (List ℕ)) (y : B) → (word_at read ws >>= next) ≡ Some y → Begins Fits text next ws y
unfolding word_at
word_takes law next [] y e = absurd cc
word_takes {read = read} law next (w ∷ ws) y e =
    let b = bind_some (read w >>= λ v. Some (v, ws)) next y e in
    let v = bind_some (read w) (λ v. Some (v, ws)) b.0 b.1 in
    let t = law.takes w v.0 v.1 in
    let pair-is : (v.0, ws) ≡ b.0 = same_Some (v.0, ws) b.0 v.2 in
    record { value = v.0; rest = ws; fits = t.0; words = ap (λ (u : List ℕ). u ∷ ws) t.1; on = ap next pair-is ∙ b.2 }

pub word_again : {A B : Type 0} {Fits : A → Type 0} {text : A → List ℕ} {read : List ℕ → Option A} (law : IsRead Fits text read) (next : A
    × List (List ℕ) → Option B) (v : A) (ws : List (List ℕ)) → Fits v → (word_at read (text v ∷ ws) >>= next) ≡ next (v, ws)
unfolding word_at
word_again law next v ws fits = rw (law.again v fits) refl

-- the same, for the rest of a proof: the value and the rest are then plain variables
pub taking : {A B : Type 0} {Fits : A → Type 0} {text : A → List ℕ} {read : List ℕ → Option A} (law : IsRead Fits text read) (next : A
    × List (List ℕ) → Option B) (ws : List (List ℕ)) (y : B) → (word_at read ws >>= next) ≡ Some y → {P : Type 0}
    → ((v : A) (rest : List (List ℕ)) → Fits v → ws ≡ text v ∷ rest → next (v, rest) ≡ Some y → P) → P
taking law next ws y e then = let t = word_takes law next ws y e in then t.value t.rest t.fits t.words t.on

-- ---- values of several words

abbrev pub found : {A : Type 0} → A → List (List ℕ) → Option (A × List (List ℕ))
found v rest = Some (v, rest)

-- The reader reads the values' words and no others, whatever words follow.
pub record IsForm {A : Type 0} (Fits : A → Type 0) (texts : A → List (List ℕ)) (at : List (List ℕ)
    → Option (A × List (List ℕ))) : Type 0 where
  pub takes : (ws : List (List ℕ)) (v : A) (rest : List (List ℕ)) → at ws ≡ found v rest → Fits v × (ws ≡ texts v ++ rest)
  pub again : (v : A) (rest : List (List ℕ)) → Fits v → at (texts v ++ rest) ≡ found v rest
  pub plain : (v : A) → Fits v → AllByRecursion IsWord (texts v)

-- a value that was put together is the one that was found
pub made_of : {A : Type 0} (Fits : A → Type 0) (texts : A → List (List ℕ)) (ws : List (List ℕ)) (b v : A) (after rest : List (List ℕ))
    → found b after ≡ found v rest → Fits b → ws ≡ texts b ++ after → Fits v × (ws ≡ texts v ++ rest)
made_of Fits texts ws b v after rest e fits is =
    let p = some_pair_parts b v after rest e in
    (subst Fits p.0 fits, is ∙ ap (λ (x : _). texts x ++ after) p.0 ∙ ap (λ (r : List (List ℕ)). texts v ++ r) p.1)

pub taking_form : {A B : Type 0} {Fits : A → Type 0} {texts : A → List (List ℕ)} {at : List (List ℕ)
    → Option (A × List (List ℕ))} (law : IsForm Fits texts at) (next : A × List (List ℕ) → Option B) (ws : List (List ℕ)) (y : B)
    → (at ws >>= next) ≡ Some y → {P : Type 0} → ((v : A) (rest : List (List ℕ)) → Fits v → ws ≡ texts v ++ rest → next (v, rest) ≡ Some y
    → P) → P
taking_form {at = at} law next ws y e then =
    let b = bind_some (at ws) next y e in
    let t = law.takes ws b.0.0 b.0.1 b.1 in
    then b.0.0 b.0.1 t.0 t.1 b.2

pub form_again : {A B : Type 0} {Fits : A → Type 0} {texts : A → List (List ℕ)} {at : List (List ℕ)
    → Option (A × List (List ℕ))} (law : IsForm Fits texts at) (next : A × List (List ℕ) → Option B) (v : A) (ws : List (List ℕ)) → Fits v
    → (at (texts v ++ ws) >>= next) ≡ next (v, ws)
form_again {A = A} law next v ws fits = ap (λ (o : Option (A × List (List ℕ))). o >>= next) (law.again v ws fits)
