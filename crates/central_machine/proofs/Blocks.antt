-- What a block is that got its numbers behind those of the others.
use Rattle.std.proofs.Common.{◌≡◌, ◌≢◌, ◌∙◌, ℕ, zero, suc, ◌<◌, ◌&&◌, cond, List, [], ◌∷◌, ◌++◌, length, refl, sym, inl, inr, set, get_or, eqb, Option, Some, None, false}
use Rattle.std.specs.Prelude.{slice_get}
use Rattle.std.proofs.lemmas.List.{get_or-set_same, get_or-set_other}
use Rattle.std.proofs.lemmas.Bool.{cases_Bool, eqb-true, eqb-false, ne_eqb, eq-eqb}
use Rattle.central_machine.specs.declared.spread.Block.{Block}
use Rattle.central_machine.specs.Spread.{is_of, number_in}

absent : (block p : ℕ) (x : Option Block) → is_of block x ≡ false → number_in block p x ≡ 0
absent block p None h = refl
absent block p (Some x) h = rw h refl

behind : (blocks : List Block) (y : Block) (j b p : ℕ) → y.owner ≢ b
    → number_in b p (slice_get (blocks ++ y ∷ []) j) ≡ number_in b p (slice_get blocks j)
behind [] y zero b p apart = rw (ne_eqb y.owner b apart) refl
behind [] y (suc j) b p apart = refl
behind (x ∷ xs) y zero b p apart = refl
behind (x ∷ xs) y (suc j) b p apart = behind xs y j b p apart

last_of : (blocks : List Block) (y : Block) → slice_get (blocks ++ y ∷ []) (length blocks) ≡ Some y
last_of [] y = refl
last_of (x ∷ xs) y = last_of xs y

module _ (spots : List ℕ) (blocks : List Block) (block offset n : ℕ) (y : Block)
    (inside : block < length spots) (owner : y.owner ≡ block)
    (numbers : (p : ℕ) → get_or y.numbers p 0 ≡ cond (eqb offset p) n 0)
    (missing : is_of block (slice_get blocks (get_or spots block 0)) ≡ false) where
  here : (p : ℕ) → number_in block p (slice_get (blocks ++ y ∷ []) (get_or (set spots block (length blocks)) block 0))
      ≡ cond (eqb offset p) n (number_in block p (slice_get blocks (get_or spots block 0)))
  here p =
      rw (
        get_or-set_same spots block (length blocks) 0 inside,
        last_of blocks y,
        owner,
        eq-eqb block block refl,
        absent block p (slice_get blocks (get_or spots block 0)) missing,
      ) (numbers p)

  made_in : (b p : ℕ) → number_in b p (slice_get (blocks ++ y ∷ []) (get_or (set spots block (length blocks)) b 0))
      ≡ cond (eqb block b && eqb offset p) n (number_in b p (slice_get blocks (get_or spots b 0)))
  made_in b p =
      elim (cases_Bool (eqb block b)) [
        | inl same ↦ let e = eqb-true block b same in rw (same, sym e) (here p)
        | inr apart ↦ let ne = eqb-false block b apart in
            rw (apart, get_or-set_other spots block b (length blocks) 0 (λ e. ne (sym e)))
            (behind blocks y (get_or spots b 0) b p (λ e. ne (sym owner ∙ e)))
      ]

  -- where the lists are told by equations
  pub made_told : (later : List Block) (last : ℕ) → later ≡ blocks ++ y ∷ [] → last ≡ length blocks → (b p : ℕ)
      → number_in b p (slice_get later (get_or (set spots block last) b 0))
      ≡ cond (eqb block b && eqb offset p) n (number_in b p (slice_get blocks (get_or spots b 0)))
  made_told later last list long b p = rw (list, long) (made_in b p)
