use Rattle.std.proofs.Common.{◌≡◌, ℕ, ◌+◌, ◌-◌, ◌<◌, List, [], ◌∷◌, ◌++◌, length, get_or, subst, sym, ap, ◌∙◌, inl, inr, arith}
use Rattle.std.proofs.lemmas.Bool.{cases_eq}
use Rattle.std.proofs.lemmas.List.{length-append, get_or_append_left, get_or-append_right}
use Rattle.field_bounds.specs.Parts.{part_of}
use Rattle.central_machine.proofs.amounts.FieldAmounts.parts_of.Goals as goal

-- a list of the numbers so far, with the next one behind it
one_more : (xs : List ℕ) (n x : ℕ) (P : ℕ → ℕ) → length xs ≡ n → ((f : ℕ) → f < n → get_or xs f 0 ≡ P f) → x ≡ P n
    → (f : ℕ) → f < n + 1 → get_or (xs ++ x ∷ []) f 0 ≡ P f
one_more xs n x P long was now f below =
    elim (cases_eq f n) [
      | inl same ↦
          let none : n - n ≡ 0 = omega arith in
          let last = get_or-append_right xs (x ∷ []) n n 0 long (omega arith) ∙ ap (λ (i : ℕ). get_or (x ∷ []) i 0) none ∙ now in
          subst (λ (i : ℕ). get_or (xs ++ x ∷ []) i 0 ≡ P i) (sym same) last
      | inr apart ↦ get_or_append_left xs (x ∷ []) 0 f (omega (arith, long, below, apart)) ∙ was f (omega (arith, below, apart))
    ]

pub loop-field-preserved : goal.loop-field-preserved
loop-field-preserved c =
    let was = c.loop-field.invariant in
    let made = c.loop-field.made.items in
    let longer = c.in_ok-push.ensures.items in
    record {
      count = omega (arith, was.count, ap length longer, length-append made (c.part.result ∷ []));
      each = λ f below. subst (λ (xs : List ℕ). get_or xs f 0 ≡ part_of c.args.schema.now c.args.site.0 f c.args.kind) (sym longer)
          (one_more made c.loop-field.field c.part.result (λ (g : ℕ). part_of c.args.schema.now c.args.site.0 g c.args.kind)
          was.count was.each c.part.ensures.value f below);
    }
