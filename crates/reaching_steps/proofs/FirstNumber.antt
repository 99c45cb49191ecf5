-- The number of the first such statement, in a list that has the oldest first.
use Rattle.std.proofs.Common.{◌≡◌, ◌≢◌, ℕ, suc, ◌+◌, ◌<◌, true, List, [], ◌∷◌, ◌++◌, take, drop, reverse, length, get_or, refl, sym, ◌∙◌, ap, arith, add-one}
use Rattle.std.proofs.Math.Seq.{take-suc}
use Rattle.std.proofs.lemmas.Bool.{ne_eqb}
use Rattle.std.proofs.lemmas.List.{reverse-append, length-reverse, length-take-le, take-append-drop}
use Rattle.field_bounds.specs.declared.entry.Statement.{Statement}
use Rattle.reaching_steps.specs.Reach.{same_statement, number_of}

next_is : (told : List Statement) (i : ℕ) (d : Statement) → i < length told
    → reverse (take (i + 1) told) ≡ get_or told i d ∷ reverse (take i told)
next_is told i d below =
    rw (add-one, take-suc told i d below) (reverse-append (take i told) (get_or told i d ∷ []))

-- what comes later changes no number
later : (x : Statement) (more ys : List Statement) → number_of x ys ≢ 0 → number_of x (more ++ ys) ≡ number_of x ys
later x [] ys some = refl
later x (y ∷ more) ys some =
    let before = later x more ys some in
    rw (ne_eqb (number_of x (more ++ ys)) 0 (λ e. some (sym before ∙ e))) before

-- this one
pub here_is : (x : Statement) (told : List Statement) (i : ℕ) (d : Statement) → i < length told → same_statement (get_or told i d) x ≡ true
    → number_of x (reverse (take i told)) ≡ 0
    → i + 1 ≡ number_of x (reverse told)
here_is x told i d below same none =
    let ys : List Statement = reverse (take (i + 1) told) in
    let more : List Statement = reverse (drop (i + 1) told) in
    let long : length (reverse (take i told)) ≡ i = length-reverse (take i told) ∙ length-take-le i told (omega (arith, below)) in
    let at : number_of x ys ≡ suc i = rw (next_is told i d below, none, same) (ap suc long) in
    let parts : reverse told ≡ more ++ ys = ap (λ (l : List Statement). reverse l) (sym (take-append-drop (i + 1) told))
    ∙ reverse-append (take (i + 1) told) (drop (i + 1) told) in
    let all = later x more ys (λ e. omega (arith, e, at)) in
    let one : i + 1 ≡ suc i = omega arith in
    one ∙ sym at ∙ sym all ∙ sym (ap (number_of x) parts)
