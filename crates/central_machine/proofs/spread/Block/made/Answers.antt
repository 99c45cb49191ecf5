use Rattle.std.proofs.Common.{◌≡◌, ◌∙◌, ℕ, zero, suc, List, refl, get_or, replicate, eqb, arith, inl, inr}
use Rattle.std.proofs.lemmas.List.{get_or-set_same, get_or-set_other}
use Rattle.std.proofs.lemmas.Bool.{cases_Bool, eqb-true, eqb-false}
use Rattle.central_machine.proofs.spread.Block.made.Goals as goal

zeros : (n p : ℕ) → get_or {A = ℕ} (replicate n 0) p 0 ≡ 0
zeros zero p = refl
zeros (suc n) zero = refl
zeros (suc n) (suc p) = zeros n p

pub returns-clause-numbers : goal.returns-clause-numbers
returns-clause-numbers c p =
    let zs : List ℕ = replicate 16 0 in
    elim (cases_Bool (eqb c.args.offset p)) [
      | inl same ↦ rw (same, eqb-true c.args.offset p same) (get_or-set_same zs p c.args.n 0 (omega (arith, eqb-true c.args.offset p same, c.requires)))
      | inr apart ↦ rw apart (get_or-set_other zs c.args.offset p c.args.n 0 (λ e. eqb-false c.args.offset p apart (omega (arith, e))) ∙ zeros 16 p)
    ]
