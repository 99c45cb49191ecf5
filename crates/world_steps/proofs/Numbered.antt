-- The statement of a number in a list that has the oldest first.
use Rattle.std.proofs.Common.{◌≡◌, ℕ, suc, ◌-◌, ◌<◌, ◌≤◌, List, [], ◌∷◌, length, reverse, get_or, sym, ap, subst, ◌∙◌, refl, arith, Some, None, inl, inr, ◌⊎◌}
use Rattle.std.proofs.lemmas.Bool.{cases_eq, eq-eqb, ne_eqb}
use Rattle.std.proofs.lemmas.List.{length-reverse, get_or-reverse}
use Rattle.field_bounds.specs.declared.entry.Statement.{Statement}
use Rattle.world_steps.specs.World.{statement_at}

numbered_zero : (ys : List Statement) → statement_at 0 ys ≡ None
numbered_zero [] = refl
numbered_zero (y ∷ ys) = rw (ne_eqb 0 (suc (length ys)) (λ e. omega (arith, e))) (numbered_zero ys)

numbered_beyond : (k : ℕ) (ys : List Statement) → length ys < k → statement_at k ys ≡ None
numbered_beyond k [] h = refl
numbered_beyond k (y ∷ ys) h = rw (ne_eqb k (suc (length ys)) (λ e. omega (arith, e, h))) (numbered_beyond k ys (omega (arith, h)))

numbered_at : (i : ℕ) (ys : List Statement) (d : Statement) → i < length ys
    → statement_at (suc i) ys ≡ Some (get_or ys (length ys - 1 - i) d)
numbered_at i [] d h = absurd (omega (arith, h))
numbered_at i (y ∷ ys) d h =
    elim (cases_eq i (length ys)) [
      | inl same ↦
          let first : 0 ≡ length (y ∷ ys) - 1 - i = omega (arith, same) in
          rw (eq-eqb (suc i) (suc (length ys)) (ap suc same)) (ap (λ (j : ℕ). Some (get_or (y ∷ ys) j d)) first)
      | inr other ↦
          let less : i < length ys = omega (arith, h, other) in
          let next : suc (length ys - 1 - i) ≡ length (y ∷ ys) - 1 - i = omega (arith, less) in
          rw (ne_eqb (suc i) (suc (length ys)) (λ e. other (omega (arith, e))))
          (numbered_at i ys d less ∙ ap (λ (j : ℕ). Some (get_or (y ∷ ys) j d)) next)
    ]

pub numbered_is : (k : ℕ) (told : List Statement) (d : Statement) → 0 < k → k ≤ length told
    → statement_at k (reverse told) ≡ Some (get_or told (k - 1) d)
numbered_is k told d some within =
    let i : ℕ = k - 1 in
    let back : suc i ≡ k = omega (arith, some) in
    let long = length-reverse told in
    let within-i : i < length (reverse told) = omega (arith, some, within, long) in
    let j : ℕ = length (reverse told) - 1 - i in
    let j-within : j < length told = omega (arith, within-i, long) in
    let twice : length told - 1 - j ≡ i = omega (arith, within-i, long) in
    subst (λ (n : ℕ). statement_at n (reverse told) ≡ Some (get_or told i d)) back
    (numbered_at i (reverse told) d within-i ∙ ap Some (get_or-reverse told j d j-within) ∙ ap (λ (n : ℕ). Some (get_or told n d)) twice)

pub none_numbered : (k : ℕ) (told : List Statement) → (k ≡ 0) ⊎ (length told < k) → statement_at k (reverse told) ≡ None
none_numbered k told h =
    elim h [
      | inl zero-is ↦ subst (λ (n : ℕ). statement_at n (reverse told) ≡ None) (sym zero-is) (numbered_zero (reverse told))
      | inr beyond ↦ numbered_beyond k (reverse told) (omega (arith, beyond, length-reverse told))
    ]
