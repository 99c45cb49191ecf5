-- Reading pairs one after the other, as a loop does.
use Rattle.std.proofs.Common.{◌≡◌, ℕ, List, [], ◌∷◌, ◌++◌, Option, Some, None, refl, sym, ap, ◌∙◌, append_assoc, ℤ}
use Rattle.std.proofs.lemmas.List.{append-nil}
use Rattle.field_bounds.specs.declared.entry.Escrow.{Escrow}
use Rattle.line_words.specs.Reading.{◌>>=◌}
use Rattle.kept_records.specs.Text.{max_place}
use Rattle.kept_records.specs.Reading.{number_within, change_of, escrows_from}

-- what was read before, and what is still read
abbrev pub with_front : List Escrow → Option (List Escrow) → Option (List Escrow)
with_front front read = read >>= λ es. Some (front ++ es)

abbrev pub pair : ℕ → ℤ → Escrow
pair f c = record { field = record { 0 = f }; change = c }

regroup : (front : List Escrow) (e : Escrow) (read : Option (List Escrow))
    → with_front front (read >>= λ es. Some (e ∷ es)) ≡ with_front (front ++ e ∷ []) read
regroup front e None = refl
regroup front e (Some es) = ap (λ (l : List Escrow). Some l) (sym (append_assoc front (e ∷ []) es))

goes_on : (front : List Escrow) (w v : List ℕ) (ws : List (List ℕ)) (f : ℕ) (c : ℤ) (total : Option (List Escrow))
    → number_within 0 max_place w ≡ Some f → change_of v ≡ Some c
    → with_front front (escrows_from (w ∷ v ∷ ws)) ≡ total → with_front (front ++ pair f c ∷ []) (escrows_from ws) ≡ total
unfolding escrows_from
goes_on front w v ws f c total a b so_far =
    let one : with_front front (escrows_from (w ∷ v ∷ ws)) ≡ with_front (front ++ pair f c ∷ []) (escrows_from ws) =
    rw (a, b) (regroup front (pair f c) (escrows_from ws)) in
    sym one ∙ so_far

no_field : (front : List Escrow) (w : List ℕ) (ws : List (List ℕ)) (total : Option (List Escrow)) → number_within 0 max_place w ≡ None
    → with_front front (escrows_from (w ∷ ws)) ≡ total → total ≡ None
unfolding escrows_from
no_field front w [] total a so_far = sym so_far
no_field front w (v ∷ ws) total a so_far = let one : with_front front (escrows_from (w ∷ v ∷ ws)) ≡ None = rw a refl in sym so_far ∙ one

no_word : (front : List Escrow) (w : List ℕ) (total : Option (List Escrow)) → with_front front (escrows_from (w ∷ [])) ≡ total
    → total ≡ None
unfolding escrows_from
no_word front w total so_far = sym so_far

no_change : (front : List Escrow) (w v : List ℕ) (ws : List (List ℕ)) (f : ℕ) (total : Option (List Escrow))
    → number_within 0 max_place w ≡ Some f → change_of v ≡ None → with_front front (escrows_from (w ∷ v ∷ ws)) ≡ total → total ≡ None
unfolding escrows_from
no_change front w v ws f total a b so_far = let one : with_front front (escrows_from (w ∷ v ∷ ws)) ≡ None = rw (a, b) refl in
    sym so_far ∙ one

all_read : (front : List Escrow) (total : Option (List Escrow)) → with_front front (escrows_from []) ≡ total → total ≡ Some front
unfolding escrows_from
all_read front total so_far = sym so_far ∙ ap (λ (l : List Escrow). Some l) (append-nil front)

-- the same, where the words are told by what taking one says
pub step : (front : List Escrow) (all ws : List (List ℕ)) (w v : List ℕ) (rest : List (List ℕ)) (f : ℕ) (c : ℤ)
    (total : Option (List Escrow)) → with_front front (escrows_from all) ≡ total → all ≡ w ∷ ws → ws ≡ v ∷ rest
    → number_within 0 max_place w ≡ Some f → change_of v ≡ Some c → with_front (front ++ pair f c ∷ []) (escrows_from rest) ≡ total
step front all ws w v rest f c total so_far a b n ch =
    goes_on front w v rest f c total n ch (ap (λ (l : List (List ℕ)). with_front front (escrows_from l))
    (sym (a ∙ ap (λ (l : List (List ℕ)). w ∷ l) b)) ∙ so_far)

pub ends_field : (front : List Escrow) (all ws : List (List ℕ)) (w : List ℕ) (total : Option (List Escrow))
    → with_front front (escrows_from all) ≡ total → all ≡ w ∷ ws → number_within 0 max_place w ≡ None → total ≡ None
ends_field front all ws w total so_far a n = no_field front w ws total n
    (ap (λ (l : List (List ℕ)). with_front front (escrows_from l)) (sym a) ∙ so_far)

pub ends_word : (front : List Escrow) (all ws : List (List ℕ)) (w : List ℕ) (total : Option (List Escrow))
    → with_front front (escrows_from all) ≡ total → all ≡ w ∷ ws → ws ≡ [] → total ≡ None
ends_word front all ws w total so_far a b = no_word front w total
    (ap (λ (l : List (List ℕ)). with_front front (escrows_from l)) (sym (a ∙ ap (λ (l : List (List ℕ)). w ∷ l) b)) ∙ so_far)

pub ends_change : (front : List Escrow) (all ws : List (List ℕ)) (w v : List ℕ) (rest : List (List ℕ)) (f : ℕ)
    (total : Option (List Escrow)) → with_front front (escrows_from all) ≡ total → all ≡ w ∷ ws → ws ≡ v ∷ rest
    → number_within 0 max_place w ≡ Some f → change_of v ≡ None → total ≡ None
ends_change front all ws w v rest f total so_far a b n ch =
    no_change front w v rest f total n ch (ap (λ (l : List (List ℕ)). with_front front (escrows_from l))
    (sym (a ∙ ap (λ (l : List (List ℕ)). w ∷ l) b)) ∙ so_far)

pub ends_all : (front : List Escrow) (all : List (List ℕ)) (total : Option (List Escrow)) → with_front front (escrows_from all) ≡ total
    → all ≡ [] → total ≡ Some front
ends_all front all total so_far a = all_read front total (ap (λ (l : List (List ℕ)). with_front front (escrows_from l)) (sym a) ∙ so_far)
