-- What is put at a field's place, and escrows one after another.
use Rattle.std.proofs.Common.{◌≡◌, ℕ, ◌+◌, ◌-◌, ◌<◌, ◌≤◌, Bool, true, false, ◌&&◌, cond, List, take, get_or, length, refl, sym, ◌∙◌, ap, inl, inr, arith, eqb}
use Rattle.std.specs.Prelude.{unsigned_abs}
use Rattle.std.proofs.lemmas.Bool.{cases_Bool}
use Rattle.field_bounds.specs.declared.kind.Kind.{Kind}
use Rattle.field_bounds.specs.declared.entry.Escrow.{Escrow}
use Rattle.field_bounds.specs.Kind.{same_kind, kind_of, other}
use Rattle.field_bounds.specs.Effects.{takes}
use Rattle.central_machine.specs.declared.amounts.FieldAmounts.{FieldAmounts}
use Rattle.central_machine.specs.declared.journal.OpenRow.{OpenRow}
use Rattle.central_machine.specs.declared.field_sums.FieldSums.{FieldSums}
use Rattle.central_machine.specs.FieldAmounts.{amount, has_slot, IsPut, capped_sum}
use Rattle.central_machine.specs.Running.{sizes_taken}
use Rattle.central_machine.specs.Open.{all_escrows}
use Rattle.central_machine.specs.Sums.{Grows, Shrinks, Closes}
use Rattle.central_machine.proofs.Puts.{same_place}
use Rattle.central_machine.proofs.Ending.{turned_same, weigh_turned, less_less, more_more, one_more, row_less}

-- ---- what is put at a field's place

module _ (f : ℕ) (n m : FieldAmounts) (kind : Kind) (size : ℕ) where
  pub grown : IsPut n m f kind (capped_sum (amount n f kind + size)) → Grows n m f kind size
  grown put = record { more = λ g k slot. put.put g k slot ∙ here g k; places = put.places }
    where
      here : (g : ℕ) (k : Kind) → cond (eqb f g && same_kind kind k) (capped_sum (amount n f kind + size)) (amount n g k)
          ≡ cond (eqb f g && same_kind kind k) (capped_sum (amount n g k + size)) (amount n g k)
      here g k =
          elim (cases_Bool (eqb f g && same_kind kind k)) [
            | inl is ↦ let same = same_place (λ h j. amount n h j) f g kind k is in rw (is, same) refl
            | inr isnt ↦ rw isnt refl
          ]

  pub shrunk : IsPut n m f kind (amount n f kind - size) → Shrinks n m f kind size
  shrunk put = record { less = λ g k slot. put.put g k slot ∙ here g k; places = put.places }
    where
      here : (g : ℕ) (k : Kind) → cond (eqb f g && same_kind kind k) (amount n f kind - size) (amount n g k)
          ≡ cond (eqb f g && same_kind kind k) (amount n g k - size) (amount n g k)
      here g k =
          elim (cases_Bool (eqb f g && same_kind kind k)) [
            | inl is ↦ let same = same_place (λ h j. amount n h j) f g kind k is in rw (is, same) refl
            | inr isnt ↦ rw isnt refl
          ]

-- ---- escrows one after another

less_there : (a q : ℕ) (b : Bool) → cond b (a - q) a ≡ a - cond b q 0
less_there a q true = refl
less_there a q false = omega arith

pub capped_there : (a q : ℕ) (b : Bool) → a ≤ 18446744073709551615 → cond b (capped_sum (a + q)) a ≡ capped_sum (a + cond b q 0)
capped_there a q true fits = refl
capped_there a q false fits = omega (arith, fits)

module _ (xs : List Escrow) (i : ℕ) (d : Escrow) (below : i < length xs) (f : ℕ) (k : Kind)
    (first now then : FieldAmounts) (slot : has_slot now f ≡ true) where
  pub less_in : Shrinks now then (get_or xs i d).field.0 (kind_of (get_or xs i d).change) (unsigned_abs (get_or xs i d).change)
      → amount now f k ≡ amount first f k - sizes_taken f k (take i xs)
      → amount then f k ≡ amount first f k - sizes_taken f k (take (i + 1) xs)
  less_in put was =
      less_less (amount first f k) (sizes_taken f k (take i xs)) (takes f k (get_or xs i d))
      (amount now f k) (amount then f k) was
      (put.less f k slot ∙ less_there (amount now f k) (unsigned_abs (get_or xs i d).change)
      (eqb (get_or xs i d).field.0 f && same_kind (kind_of (get_or xs i d).change) k))
      ∙ ap (λ (n : ℕ). amount first f k - n) (sym (one_more xs i d below f k))

  pub more_in : Grows now then (get_or xs i d).field.0 (other (kind_of (get_or xs i d).change)) (unsigned_abs (get_or xs i d).change)
      → amount now f k ≡ capped_sum (amount first f k + sizes_taken f (other k) (take i xs))
      → amount then f k ≡ capped_sum (amount first f k + sizes_taken f (other k) (take (i + 1) xs))
  more_in put was =
      more_more (amount first f k) (sizes_taken f (other k) (take i xs)) (takes f (other k) (get_or xs i d))
      (amount now f k) (amount then f k) was
      (put.more f k slot
      ∙ capped_there (amount now f k) (unsigned_abs (get_or xs i d).change)
      (eqb (get_or xs i d).field.0 f && same_kind (other (kind_of (get_or xs i d).change)) k) (omega (arith, was))
      ∙ ap (λ (n : ℕ). capped_sum (amount now f k + n))
      (weigh_turned (eqb (get_or xs i d).field.0 f) _ _ (unsigned_abs (get_or xs i d).change)
      (turned_same true (kind_of (get_or xs i d).change) k)))
      ∙ ap (λ (n : ℕ). capped_sum (amount first f k + n)) (sym (one_more xs i d below f (other k)))

-- the escrows of one row more aren't open any more
pub closes_row : (n m o : FieldSums) (rows : List OpenRow) (i : ℕ) (d : OpenRow) → i < length rows
    → (xs : List Escrow) → xs ≡ (get_or rows i d).escrows.items → Closes n m (all_escrows (take i rows)) → Closes m o xs
    → Closes n o (all_escrows (take (i + 1) rows))
closes_row n m o rows i d below xs is first then = record {
  less = λ f k slot. row_less rows i d below f k xs is (amount n.aside f k) (amount m.aside f k) (amount o.aside f k)
      (first.less f k slot) (then.less f k (first.places f ∙ slot));
  places = λ g. then.places g ∙ first.places g;
  rest = record { room = then.rest.room ∙ first.rest.room; cut = then.rest.cut ∙ first.rest.cut };
}
