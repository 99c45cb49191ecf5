-- The pieces of a header, joined.
use Rattle.std.proofs.Common.{◌≡◌, ℕ, suc, ◌<◌, List, [], ◌∷◌, ◌++◌, length, take, drop, get_or, append_assoc, sym, ◌∙◌, ap, arith, length-drop}
use Rattle.std.proofs.Math.Seq.{take-suc}
use Rattle.std.proofs.lemmas.List.{get_or-drop, flat_map_more}
use Rattle.field_bounds.specs.Schema.{FieldValue}
use Rattle.world_logs.specs.HeaderText.{field_text, others_text}

-- six pieces, one behind the other
pub six_pieces : (h h1 h2 h3 h4 h5 h6 a b c d e f : List ℕ) → h1 ≡ h ++ a → h2 ≡ h1 ++ b → h3 ≡ h2 ++ c → h4 ≡ h3 ++ d
    → h5 ≡ h4 ++ e → h6 ≡ h5 ++ f → h6 ≡ h ++ (a ++ (b ++ (c ++ (d ++ (e ++ f)))))
six_pieces h h1 h2 h3 h4 h5 h6 a b c d e f p1 p2 p3 p4 p5 p6 =
    p6 ∙ ap (λ (l : List ℕ). l ++ f) (p5 ∙ ap (λ (l : List ℕ). l ++ e) (p4 ∙ ap (λ (l : List ℕ). l ++ d)
    (p3 ∙ ap (λ (l : List ℕ). l ++ c) (p2 ∙ ap (λ (l : List ℕ). l ++ b) p1)))) ∙ simp append_assoc

-- a first piece, and four behind it
pub five_pieces : (h1 h2 h3 h4 h5 a b c d e : List ℕ) → h1 ≡ a → h2 ≡ h1 ++ b → h3 ≡ h2 ++ c → h4 ≡ h3 ++ d → h5 ≡ h4 ++ e
    → h5 ≡ a ++ (b ++ (c ++ (d ++ e)))
five_pieces h1 h2 h3 h4 h5 a b c d e p1 p2 p3 p4 p5 =
    p5 ∙ ap (λ (l : List ℕ). l ++ e) (p4 ∙ ap (λ (l : List ℕ). l ++ d) (p3 ∙ ap (λ (l : List ℕ). l ++ c)
    (p2 ∙ ap (λ (l : List ℕ). l ++ b) p1))) ∙ simp append_assoc

-- one field more behind those so far
pub one_more : (h0 h h1 h2 : List ℕ) (fs : List FieldValue) (n m : ℕ) (d : FieldValue) → n ≡ suc m → n < length fs
    → h ≡ h0 ++ others_text (take m (drop 1 fs)) → h1 ≡ h ++ 44 ∷ [] → h2 ≡ h1 ++ field_text (get_or fs n d)
    → h2 ≡ h0 ++ others_text (take (suc m) (drop 1 fs))
one_more h0 h h1 h2 fs n m d is below so_far comma field =
    let xs : List FieldValue = drop 1 fs in
    let more : FieldValue → List ℕ = λ (f : FieldValue). 44 ∷ field_text f in
    let x : FieldValue = get_or fs n d in
    let at : get_or xs m d ≡ x = get_or-drop 1 fs m d ∙ ap (λ (i : ℕ). get_or fs i d) (omega (arith, is)) in
    let longer : take (suc m) xs ≡ take m xs ++ x ∷ [] =
    take-suc xs m d (omega (arith, is, below, length-drop 1 fs)) ∙ ap (λ (y : FieldValue). take m xs ++ y ∷ []) at in
    field ∙ ap (λ (l : List ℕ). l ++ field_text x) comma ∙ append_assoc h (44 ∷ []) (field_text x)
    ∙ ap (λ (l : List ℕ). l ++ more x) so_far ∙ flat_map_more more h0 (take m xs) x
    ∙ ap (λ (l : List FieldValue). h0 ++ others_text l) (sym longer)
