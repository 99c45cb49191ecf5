-- Sums over a sound trace, taken site by site.
use Rattle.std.proofs.Common.{◌≡◌, ℕ, suc, subst, ◌+◌, ◌-◌, ◌≤◌, ◌&&◌, Bool, false, List, ap, sym, refl, ◌∙◌, arith, leb}
use Rattle.std.proofs.lemmas.Bool.{leb-true, le-leb}
use Rattle.std.proofs.lemmas.Bool.Decides.{same_from_decides, Decides-and, Decides-like}
use Rattle.std.proofs.lemmas.Int.{ints}
use Rattle.std.specs.Bool.{Decides}
use Rattle.central_rules.proofs.Decided.{le_z_is}
use Rattle.std.specs.Prelude.{ℤ, pos, ◌+ℤ◌, ◌-ℤ◌, ◌≤ℤ◌, int_le, unsigned_abs}
use Rattle.field_bounds.specs.declared.kind.Kind.{Kind}
use Rattle.field_bounds.specs.declared.kind.Kind.TheVariants.{Lower, Raise}
use Rattle.field_bounds.specs.declared.id.TxnId.{TxnId}
use Rattle.central_rules.specs.declared.front.Bounds.{Bounds}
use Rattle.central_rules.specs.Verdict.{within_bound}
use Rattle.field_bounds.specs.declared.entry.Entry.{Entry}
use Rattle.field_bounds.specs.Schema.{SchemaValue}
use Rattle.field_bounds.specs.Parts.{field_at, sum_below}
use Rattle.field_bounds.specs.Effects.{fresh, granted_sizes}
use Rattle.field_bounds.specs.Central.{own, at_site, sizes, committed_value, open_sizes, cuts, is_committed_in, IsSound}
use Rattle.field_bounds.proofs.Traces.{sizes_split, changes_split, effects_sizes}
use Rattle.field_bounds.proofs.Sums.{sum_below-same}

-- how far a number lies above one that is no greater
abbrev pub above : ℤ → ℤ → ℕ
above low high = unsigned_abs (high -ℤ low)

module _ (schema : SchemaValue) (t : List Entry) (sound : IsSound schema t) where
  pub by_sites : (p : ℕ → TxnId → Bool) (f : ℕ) (k : Kind)
      → sizes p f k t ≡ sum_below schema.sites (λ s. granted_sizes (p s) f k (at_site schema t s))
  by_sites p f k =
      sizes_split p f k schema t sound.sites
      ∙ sum_below-same schema.sites (λ s. sizes (λ _. p s) f k (own s t)) (λ s. granted_sizes (p s) f k (at_site schema t s))
      (λ s below. sym (effects_sizes (fresh schema s) (p s) f k false (own s t)))

pub committed_is : (schema : SchemaValue) (t : List Entry) (f : ℕ)
    → committed_value schema t f ≡ (field_at schema f).value +ℤ
    (pos (sizes (is_committed_in schema t) f Raise t) -ℤ pos (sizes (is_committed_in schema t) f Lower t))
committed_is schema t f = ap (λ (x : ℤ). (field_at schema f).value +ℤ x) (changes_split (is_committed_in schema t) f t)

-- ---- a test of whole numbers as one of numbers without sign

-- so much is taken, and what is cut off leaves room for it
room_is : (a b c : ℕ) → Decides (leb a b && leb c (b - a)) ((a ≤ b) × (c ≤ b - a))
room_is a b c = Decides-and (leb a b) (leb c (b - a)) (leb-true a b, le-leb a b) (leb-true c (b - a), le-leb c (b - a))

low_is : (F V : ℤ) (r l h q c : ℕ) → F ≤ℤ V
    → Decides (leb (l + h + q) (above F V + r) && leb c ((above F V + r) - (l + h + q)))
    ((F +ℤ pos c) ≤ℤ (((V +ℤ (pos r -ℤ pos l)) -ℤ pos h) -ℤ pos q))
low_is F V r l h q c below =
    Decides-like _ (λ (p : ((l + h + q) ≤ (above F V + r)) × (c ≤ (above F V + r) - (l + h + q))). omega (arith, ints, p.0, p.1))
    (λ le. (omega (arith, ints, le), omega (arith, ints, le)))
    (room_is (l + h + q) (above F V + r) c)

pub low_test : (F V : ℤ) (r l h q c : ℕ) → F ≤ℤ V
    → (leb (l + h + q) (above F V + r) && leb c ((above F V + r) - (l + h + q)))
    ≡ int_le (F +ℤ pos c) (((V +ℤ (pos r -ℤ pos l)) -ℤ pos h) -ℤ pos q)
low_test F V r l h q c below = same_from_decides _ _ (low_is F V r l h q c below)
    (le_z_is (F +ℤ pos c) (((V +ℤ (pos r -ℤ pos l)) -ℤ pos h) -ℤ pos q))

high_is : (C V : ℤ) (r l h q c : ℕ) → V ≤ℤ C
    → Decides (leb (r + h + q) (above V C + l) && leb c ((above V C + l) - (r + h + q)))
    ((((V +ℤ (pos r -ℤ pos l)) +ℤ pos h) +ℤ pos q) ≤ℤ (C -ℤ pos c))
high_is C V r l h q c below =
    Decides-like _ (λ (p : ((r + h + q) ≤ (above V C + l)) × (c ≤ (above V C + l) - (r + h + q))). omega (arith, ints, p.0, p.1))
    (λ le. (omega (arith, ints, le), omega (arith, ints, le)))
    (room_is (r + h + q) (above V C + l) c)

pub high_test : (C V : ℤ) (r l h q c : ℕ) → V ≤ℤ C
    → (leb (r + h + q) (above V C + l) && leb c ((above V C + l) - (r + h + q)))
    ≡ int_le (((V +ℤ (pos r -ℤ pos l)) +ℤ pos h) +ℤ pos q) (C -ℤ pos c)
high_test C V r l h q c below = same_from_decides _ _ (high_is C V r l h q c below)
    (le_z_is (((V +ℤ (pos r -ℤ pos l)) +ℤ pos h) +ℤ pos q) (C -ℤ pos c))

module _ (schema : SchemaValue) (t : List Entry) (f : ℕ) (b : Bounds) (r l h q c : ℕ)
    (raised : r ≡ sizes (is_committed_in schema t) f Raise t) (lowered : l ≡ sizes (is_committed_in schema t) f Lower t)
    (value : b.value ≡ (field_at schema f).value) where
  pub value_is : b.value +ℤ (pos r -ℤ pos l) ≡ committed_value schema t f
  value_is = rw (value, raised, lowered) (sym (committed_is schema t f))

  pub low_rule : b.floor ≡ (field_at schema f).floor → h ≡ open_sizes schema t f Lower → c ≡ cuts schema t f Lower
      → int_le (b.floor +ℤ pos c) (((b.value +ℤ (pos r -ℤ pos l)) -ℤ pos h) -ℤ pos q) ≡ within_bound schema t f q Lower
  low_rule floor held cut = rw (value_is, held, floor, cut) refl

  pub high_rule : b.ceiling ≡ (field_at schema f).ceiling → h ≡ open_sizes schema t f Raise → c ≡ cuts schema t f Raise
      → int_le (((b.value +ℤ (pos r -ℤ pos l)) +ℤ pos h) +ℤ pos q) (b.ceiling -ℤ pos c) ≡ within_bound schema t f q Raise
  high_rule ceiling held cut = rw (value_is, held, ceiling, cut) refl

-- a sum with one more term
pub sum_more : (n : ℕ) (F : ℕ → ℕ) → sum_below (n + 1) F ≡ sum_below n F + F n
sum_more n F = subst (λ (m : ℕ). sum_below m F ≡ sum_below n F + F n) (let e : suc n ≡ n + 1 = omega arith in e) refl
