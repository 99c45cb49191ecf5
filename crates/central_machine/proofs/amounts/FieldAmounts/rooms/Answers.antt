use Rattle.std.proofs.Common.{◌≡◌, ℕ, ◌+◌, ◌-◌, ◌<◌, List, [], ◌∷◌, ◌++◌, length, get_or, subst, sym, ap, ◌∙◌, inl, inr, arith}
use Rattle.std.specs.Prelude.{pos, ◌+ℤ◌}
use Rattle.std.proofs.lemmas.Bool.{cases_eq}
use Rattle.std.proofs.lemmas.Int.{ints}
use Rattle.std.proofs.lemmas.List.{length-append, get_or_append_left, get_or-append_right}
use Rattle.field_bounds.specs.Parts.{field_at}
use Rattle.central_machine.proofs.amounts.FieldAmounts.rooms.Goals as goal

-- what holds of each number of a list, and of the next one behind it
each_more : (P : ℕ → ℕ → Type 0) (xs : List ℕ) (n x : ℕ) → length xs ≡ n → ((f : ℕ) → f < n → P f (get_or xs f 0)) → P n x
    → (f : ℕ) → f < n + 1 → P f (get_or (xs ++ x ∷ []) f 0)
each_more P xs n x long was now f below =
    elim (cases_eq f n) [
      | inl same ↦
          let none : n - n ≡ 0 = omega arith in
          let last = get_or-append_right xs (x ∷ []) n n 0 long (omega arith) ∙ ap (λ (i : ℕ). get_or (x ∷ []) i 0) none in
          subst (λ (i : ℕ). P i (get_or (xs ++ x ∷ []) i 0)) (sym same) (subst (λ (y : ℕ). P n y) (sym last) now)
      | inr apart ↦ subst (λ (y : ℕ). P f y) (sym (get_or_append_left xs (x ∷ []) 0 f (omega (arith, long, below, apart))))
          (was f (omega (arith, below, apart)))
    ]

pub loop-field-preserved : goal.loop-field-preserved
loop-field-preserved c =
    let was = c.loop-field.invariant in
    let schema = c.args.schema.now in
    let b = c.bounds_of-bounds in
    let lowers = c.in_ok-push.ensures.items in
    let raises = c.in_ok-push-2.ensures.items in
    let room : (field_at schema c.loop-field.field).floor +ℤ pos c.distance.result ≡ (field_at schema c.loop-field.field).value =
    omega (arith, ints, c.distance.ensures, b.ensures.floor, b.ensures.value) in
    let above : (field_at schema c.loop-field.field).value +ℤ pos c.distance-in-loop-field.result ≡ (field_at schema c.loop-field.field).ceiling =
    omega (arith, ints, c.distance-in-loop-field.ensures, b.ensures.value, b.ensures.ceiling) in
    record {
      lowers = omega (arith, was.lowers, ap length lowers, length-append c.loop-field.lower.items (c.distance.result ∷ []));
      raises = omega (arith, was.raises, ap length raises, length-append c.loop-field.raise.items (c.distance-in-loop-field.result ∷ []));
      low = λ f below. subst (λ (xs : List ℕ). ((field_at schema f).floor +ℤ pos (get_or xs f 0)) ≡ (field_at schema f).value)
          (sym lowers)
          (each_more (λ (g y : ℕ). ((field_at schema g).floor +ℤ pos y) ≡ (field_at schema g).value)
          c.loop-field.lower.items c.loop-field.field c.distance.result was.lowers was.low room f below);
      high = λ f below. subst (λ (xs : List ℕ). ((field_at schema f).value +ℤ pos (get_or xs f 0)) ≡ (field_at schema f).ceiling)
          (sym raises)
          (each_more (λ (g y : ℕ). ((field_at schema g).value +ℤ pos y) ≡ (field_at schema g).ceiling)
          c.loop-field.raise.items c.loop-field.field c.distance-in-loop-field.result was.raises was.high above f below);
    }
