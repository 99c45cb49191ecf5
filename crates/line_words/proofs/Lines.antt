-- A whole line: the reader of a line reads the values' lines and no others.
use Rattle.std.proofs.Common.{◌≡◌, ℕ, List, [], ◌∷◌, ◌++◌, Option, Some, sym, ap, subst, ◌∙◌}
use Rattle.std.specs.List.{AllByRecursion}
use Rattle.std.proofs.lemmas.List.{append-nil}
use Rattle.line_words.specs.Words.{words, line}
use Rattle.line_words.specs.Reading.{◌>>=◌, only_value}
use Rattle.line_words.proofs.Numbers.{bind_some}
use Rattle.line_words.proofs.WordLemmas.{IsWord, words-join, join-words}
use Rattle.line_words.proofs.Forms.{IsForm}
use Rattle.line_words.proofs.WordKinds.{ended_takes}

pub line_found : {A : Type 0} {Fits : A → Type 0} {texts : A → List (List ℕ)} {at : List (List ℕ)
    → Option (A × List (List ℕ))} (law : IsForm Fits texts at) (bytes : List ℕ) (v : A) → (at (words bytes) >>= only_value) ≡ Some v
    → bytes ≡ line (texts v)
line_found {texts = texts} {at = at} law bytes v e =
    let b = bind_some (at (words bytes)) only_value v e in
    let t = law.takes (words bytes) v [] (b.1 ∙ ended_takes b.0 v b.2) in
    sym (join-words bytes) ∙ ap line (t.1 ∙ append-nil (texts v))

pub line_fits : {A : Type 0} {Fits : A → Type 0} {texts : A → List (List ℕ)} {at : List (List ℕ)
    → Option (A × List (List ℕ))} (law : IsForm Fits texts at) (bytes : List ℕ) (v : A) → (at (words bytes) >>= only_value) ≡ Some v
    → Fits v
line_fits {at = at} law bytes v e =
    let b = bind_some (at (words bytes)) only_value v e in
    (law.takes (words bytes) v [] (b.1 ∙ ended_takes b.0 v b.2)).0

pub line_only : {A : Type 0} {Fits : A → Type 0} {texts : A → List (List ℕ)} {at : List (List ℕ)
    → Option (A × List (List ℕ))} (law : IsForm Fits texts at) (v : A) (w : List ℕ) (ws : List (List ℕ)) → texts v ≡ w ∷ ws → Fits v
    → (at (words (line (texts v))) >>= only_value) ≡ Some v
line_only {A = A} {texts = texts} {at = at} law v w ws some fits =
    let plain : AllByRecursion IsWord (w ∷ ws) = subst (λ (l : List (List ℕ)). AllByRecursion IsWord l) some (law.plain v fits) in
    let cut : words (line (texts v)) ≡ texts v ++ [] =
    ap (λ (l : List (List ℕ)). words (line l)) some ∙ words-join w ws plain.0 plain.1 ∙ sym some ∙ sym (append-nil (texts v)) in
    ap (λ (o : Option (A × List (List ℕ))). o >>= only_value) (ap at cut ∙ law.again v [] fits)
