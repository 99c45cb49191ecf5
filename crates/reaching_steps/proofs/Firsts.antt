-- The first site of which something holds.
use Rattle.std.proofs.Common.{ltb, ◌||◌, add-one}
use Rattle.std.proofs.lemmas.Bool.{or_cases, or_parts, or_left, or_right, ltb-true, ltb-false, lt-ltb}
use Rattle.field_bounds.specs.declared.kind.Kind.{Kind}
use Rattle.field_bounds.specs.declared.kind.Kind.TheVariants.{Lower, Raise}
use Rattle.field_bounds.specs.declared.entry.Entry.{Entry}
use Rattle.field_bounds.specs.Schema.{SchemaValue}
use Rattle.field_bounds.specs.Parts.{sum_below}
use Rattle.field_bounds.specs.Effects.{fresh, cut}
use Rattle.field_bounds.specs.Central.{at_site, cuts}
use Rattle.field_bounds.proofs.Sums.{term_below}
use Rattle.reaching_steps.specs.Reach.{is_tightened}
use Rattle.reaching_steps.specs.Body.{is_cut_at}
use Rattle.std.proofs.Common.{◌≡◌, ℕ, zero, suc, ◌+◌, ◌-◌, ◌<◌, ◌≤◌, ◌⊎◌, Bool, true, false, List, refl, sym, ◌∙◌, ap, inl, inr, arith, Option, Some, None}
use Rattle.std.specs.Prelude.{ℤ, IfOk, Result, Ok, Err}
use Rattle.reaching_steps.specs.declared.fault.ReachFault.TheVariants.{Outside}
use Rattle.reaching_steps.specs.declared.fault.ReachFault.{ReachFault}
use Rattle.reaching_steps.specs.Reach.{least, fault_if, lies_outside}

-- of what is promised of a value, where there is one
pub if_ok : {A E : Type 0} (r : Result A E) (P Q : A → Type 0) → ((a : A) → P a → Q a) → IfOk r P → IfOk r Q
if_ok (Ok x) P Q f h = f x h
if_ok (Err e) P Q f h = tt

later : (p : ℕ → Bool) (i m k : ℕ) → least i p ≡ Some m → least (k + i) p ≡ Some m
later p i m zero h = let same : 0 + i ≡ i = omega arith in ap (λ (n : ℕ). least n p) same ∙ h
later p i m (suc k) h =
    let next : suc k + i ≡ suc (k + i) = omega arith in
    let before = later p i m k h in
    ap (λ (n : ℕ). least n p) next ∙ rw before refl

pub found_is : (p : ℕ → Bool) (i n : ℕ) → i < n → least i p ≡ None → p i ≡ true → Some i ≡ least n p
found_is p i n below none on =
    let here : least (suc i) p ≡ Some i = rw (none, on) refl in
    let far : (n - suc i) + suc i ≡ n = omega (arith, below) in
    sym (ap (λ (m : ℕ). least m p) (sym far) ∙ later p (suc i) i (n - suc i) here)

pub none_is : (p : ℕ → Bool) (i n : ℕ) → i ≤ n → n ≤ i → least i p ≡ None → None ≡ least n p
none_is p i n low high none = let same : n ≡ i = omega (arith, low, high) in sym (ap (λ (m : ℕ). least m p) same ∙ none)

pub outside_is : (x : Option ReachFault) (lo hi low high target : ℤ) → lo ≡ low → hi ≡ high
    → x ≡ fault_if (lies_outside (lo, hi) target) (Outside lo hi) → x ≡ fault_if (lies_outside (low, high) target) (Outside low high)
outside_is x lo hi low high target is also told =
    told ∙ ap (λ (z : ℤ). fault_if (lies_outside (z, hi) target) (Outside z hi)) is
    ∙ ap (λ (z : ℤ). fault_if (lies_outside (low, z) target) (Outside low z)) also

-- ---- whether a bound was tightened

abbrev pub cut_at : SchemaValue → List Entry → ℕ → Kind → ℕ → ℕ
cut_at schema t f k s = cut (fresh schema s) f k (at_site schema t s)

either_some : (a b : ℕ) → (ltb 0 a || ltb 0 b) ≡ true → (0 < a) ⊎ (0 < b)
either_some a b h = elim (or_cases (ltb 0 a) (ltb 0 b) h) [ inl l ↦ inl (ltb-true 0 a l) | inr r ↦ inr (ltb-true 0 b r) ]

pub cut_found : (schema : SchemaValue) (t : List Entry) (f n s : ℕ) → n ≡ schema.sites → s < n → is_cut_at schema t f s ≡ true
    → true ≡ is_tightened schema t f
cut_found schema t f n s all below found =
    let more : (k : Kind) → 0 < cut_at schema t f k s → ltb 0 (cuts schema t f k) ≡ true =
    λ k some. lt-ltb _ _ (omega (arith, some, term_below schema.sites (cut_at schema t f k) s (omega (arith, below, all)))) in
    elim (either_some (cut_at schema t f Lower s) (cut_at schema t f Raise s) found) [
      | inl l ↦ sym (or_left (ltb 0 (cuts schema t f Lower)) (ltb 0 (cuts schema t f Raise)) (more Lower l))
      | inr r ↦ sym (or_right (ltb 0 (cuts schema t f Lower)) (ltb 0 (cuts schema t f Raise)) (more Raise r))
    ]

abbrev pub NoneCut : SchemaValue → List Entry → ℕ → ℕ → Type 0
NoneCut schema t f n = (sum_below n (cut_at schema t f Lower) ≡ 0) × (sum_below n (cut_at schema t f Raise) ≡ 0)

pub none_cut_more : (schema : SchemaValue) (t : List Entry) (f i : ℕ) → is_cut_at schema t f i ≡ false → NoneCut schema t f i
    → NoneCut schema t f (i + 1)
none_cut_more schema t f i h none =
    let parts = or_parts (ltb 0 (cut_at schema t f Lower i)) (ltb 0 (cut_at schema t f Raise i)) h in
    rw add-one (omega (arith, none.0, ltb-false _ _ parts.0), omega (arith, none.1, ltb-false _ _ parts.1))

pub never_cut : (schema : SchemaValue) (t : List Entry) (f i n : ℕ) → n ≡ schema.sites → i ≤ n → n ≤ i → NoneCut schema t f i
    → false ≡ is_tightened schema t f
never_cut schema t f i n all low high none =
    let same : i ≡ schema.sites = omega (arith, all, low, high) in
    let lower : cuts schema t f Lower ≡ 0 = rw same at none.0 in
    let raise : cuts schema t f Raise ≡ 0 = rw same at none.1 in
    rw (lower, raise) refl
