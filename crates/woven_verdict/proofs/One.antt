-- Histories have one trace that weaves them by the lowest turns.
use Rattle.std.proofs.Common.{◌≡◌, ◌≢◌, ◌⊎◌, ℕ, zero, suc, ◌+◌, ◌<◌, ◌≤◌, List, [], ◌∷◌, length, refl, sym, ap, subst, ◌∙◌, inl, inr, ⊎_elim, arith, Some}
use Rattle.std.proofs.lemmas.Option.{slice_get_within, same_Some}
use native.Mathlib.Decide.{ℕ_discrete}
use mathlib.Core.Logic.{dite}
use Rattle.field_bounds.specs.declared.entry.Entry.{Entry}
use Rattle.trace_weave.specs.Weave.{history_at, count_placed, next_of, MayFollow, IsPicked, AreWhole, Waits, IsLowest, WeavesLowest}

le_or : (m n : ℕ) → (m ≤ n) ⊎ (n ≤ m)
le_or zero n = inl (omega arith)
le_or (suc m) zero = inr (omega arith)
le_or (suc m) (suc n) = ⊎_elim (λ (a : m ≤ n). inl (omega arith)) (λ (b : n ≤ m). inr (omega arith)) (le_or m n)

same_pick : (p q : ℕ) → (p < q → ⊥) → (q < p → ⊥) → p ≡ q
same_pick p q notless notmore =
    dite (ℕ_discrete p q) (λ (is : p ≡ q). is)
    (λ (other : p ≢ q). ⊎_elim (λ (a : p ≤ q). absurd (notless (omega arith))) (λ (b : q ≤ p). absurd (notmore (omega arith))) (le_or p q))

module _ (hs : List (List Entry)) where
  -- as many lowest picks are the same, and so are their traces
  same_length : (ps qs : List ℕ) (t u : List Entry) → IsPicked hs ps t → IsLowest hs ps t → IsPicked hs qs u → IsLowest hs qs u
      → length ps ≡ length qs → (ps ≡ qs) × (t ≡ u)
  same_length [] [] [] [] a b c d len = (refl, refl)
  same_length [] [] [] (f ∷ u) a b c d len = absurd c
  same_length [] [] (e ∷ t) u a b c d len = absurd a
  same_length [] (q ∷ qs) t u a b c d len = absurd (omega arith)
  same_length (p ∷ ps) [] t u a b c d len = absurd (omega arith)
  same_length (p ∷ ps) (q ∷ qs) [] u a b c d len = absurd a
  same_length (p ∷ ps) (q ∷ qs) (e ∷ t) [] a b c d len = absurd c
  same_length (p ∷ ps) (q ∷ qs) (e ∷ t) (f ∷ u) a b c d len =
      let before : (ps ≡ qs) × (t ≡ u) = same_length ps qs t u a.2 b.1 c.2 d.1 (omega arith) in
      let next : next_of hs q ps ≡ Some f = subst (λ (l : List ℕ). next_of hs q l ≡ Some f) (sym before.0) c.0 in
      let may : MayFollow t f = subst (λ (l : List Entry). MayFollow l f) (sym before.1) c.1 in
      let wait : (j : ℕ) → j < q → Waits hs ps t j =
      subst (λ (l : List ℕ). (j : ℕ) → j < q → Waits hs l t j) (sym before.0)
      (subst (λ (l : List Entry). (j : ℕ) → j < q → Waits hs qs l j) (sym before.1) d.0) in
      let pick : p ≡ q = same_pick p q (λ (under : p < q). wait p under e a.0 a.1) (λ (under : q < p). b.0 q under f next may) in
      let here : next_of hs p ps ≡ Some f = subst (λ (k : ℕ). next_of hs k ps ≡ Some f) (sym pick) next in
      let entry : e ≡ f = same_Some e f (sym a.0 ∙ here) in (
        ap (λ (k : ℕ). k ∷ ps) pick ∙ ap (λ (l : List ℕ). q ∷ l) before.0,
        ap (λ (x : Entry). x ∷ t) entry ∙ ap (λ (l : List Entry). f ∷ l) before.1,
      )

  -- behind whole histories nothing is picked any more
  no_longer : (ps qs : List ℕ) (t u : List Entry) → IsPicked hs ps t → IsLowest hs ps t → IsPicked hs qs u → IsLowest hs qs u
      → length ps ≤ length qs → AreWhole hs ps → (ps ≡ qs) × (t ≡ u)
  no_longer ps [] t u a b c d len whole = same_length ps [] t u a b c d (omega arith)
  no_longer ps (q ∷ qs) t [] a b c d len whole = absurd c
  no_longer ps (q ∷ qs) t (f ∷ u) a b c d len whole =
      dite (ℕ_discrete (length ps) (suc (length qs)))
      (λ (same : length ps ≡ suc (length qs)). same_length ps (q ∷ qs) t (f ∷ u) a b c d same)
      (λ (other : length ps ≢ suc (length qs)).
      let before : (ps ≡ qs) × (t ≡ u) = no_longer ps qs t u a b c.2 d.1 (omega arith) whole in
      let next : next_of hs q ps ≡ Some f = subst (λ (l : List ℕ). next_of hs q l ≡ Some f) (sym before.0) c.0 in
      let below : count_placed q ps < length (history_at hs q) = slice_get_within (history_at hs q) (count_placed q ps) f next in
      let all : count_placed q ps ≡ length (history_at hs q) = whole q in absurd (omega arith))

  pub one_trace : (t u : List Entry) → WeavesLowest hs t → WeavesLowest hs u → t ≡ u
  one_trace t u v w =
      ⊎_elim
      (λ (a : length v.picks ≤ length w.picks).
      (no_longer v.picks w.picks t u v.picked v.lowest w.picked w.lowest a v.whole).1)
      (λ (b : length w.picks ≤ length v.picks).
      sym (no_longer w.picks v.picks u t w.picked w.lowest v.picked v.lowest b w.whole).1)
      (le_or (length v.picks) (length w.picks))
