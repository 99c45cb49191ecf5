-- Sums over one trace of all sites, site by site.
use Rattle.std.proofs.Common.{◌≡◌, ℕ, suc, ◌+◌, ◌≤◌, ◌≢◌, Bool, true, false, ◌&&◌, ◌||◌, cond, Option, Some, None, List, [], ◌∷◌, refl, sym, zero-add, ◌∙◌, ap, arith, eqb, subst}
use Rattle.std.proofs.lemmas.Bool.{eq-eqb, ne_eqb}
use Rattle.std.specs.Prelude.{ℤ, pos, negsuc, ◌-ℤ◌, unsigned_abs}
use Rattle.std.proofs.lemmas.Int.{ints}
use Rattle.field_bounds.specs.declared.kind.Kind.{Kind}
use Rattle.field_bounds.specs.declared.kind.Kind.TheVariants.{Lower, Raise}
use Rattle.field_bounds.specs.declared.id.TxnId.{TxnId}
use Rattle.field_bounds.specs.declared.entry.Command.{Command}
use Rattle.field_bounds.specs.declared.entry.Command.TheVariants.{Escrow}
use Rattle.field_bounds.specs.declared.entry.Reply.{Reply}
use Rattle.field_bounds.specs.declared.entry.Reply.TheVariants.{Granted}
use Rattle.field_bounds.specs.declared.entry.Entry.{Entry}
use Rattle.field_bounds.specs.declared.effect.Effect.{Effect}
use Rattle.field_bounds.specs.declared.effect.Effect.TheVariants.{Grants}
use Rattle.field_bounds.specs.Kind.{kind_of, same_kind}
use Rattle.field_bounds.specs.Schema.{SchemaValue}
use Rattle.field_bounds.specs.Parts.{sum_below}
use Rattle.field_bounds.specs.Effects.{Base, fresh, effect_of, counts, with_effect, after, effects, doubt_kept_before, granted_sizes}
use Rattle.field_bounds.specs.Owed.{place, Fits, IsRun}
use Rattle.field_bounds.specs.Central.{own, size_of, sizes, change_of, changes, IsAtSites, IsSound}
use Rattle.field_bounds.proofs.Sums.{sum_below_bump, sum_below-zero}

-- ---- fronts

pub own_here : (s : ℕ) (e : Entry) (t : List Entry) → e.site.0 ≡ s → own s (e ∷ t) ≡ e ∷ own s t
own_here s e t h = ap (λ (b : Bool). cond b (e ∷ own s t) (own s t)) (eq-eqb e.site.0 s h)

pub own_there : (s : ℕ) (e : Entry) (t : List Entry) → e.site.0 ≢ s → own s (e ∷ t) ≡ own s t
own_there s e t h = ap (λ (b : Bool). cond b (e ∷ own s t) (own s t)) (ne_eqb e.site.0 s h)

run_front : (schema : SchemaValue) (s : ℕ) (base : Base) (b : Bool) (e : Entry) (o : List Entry) → IsRun schema s base (cond b (e ∷ o) o)
    → IsRun schema s base o
run_front schema s base true e o run = run.0
run_front schema s base false e o run = run

-- the front before the last entry of a sound trace is sound
pub sound_front : (schema : SchemaValue) (e : Entry) (t : List Entry) → IsSound schema (e ∷ t) → IsSound schema t
sound_front schema e t sound =
    record {
      sites = sound.sites.0;
      statements = sound.statements.0;
      runs =
          λ s below. run_front schema s (fresh schema s) (eqb e.site.0 s) e (own s t) (sound.runs s below);
    }

-- the last entry of a sound trace is owed after its site's entries before it
pub sound_fits : (schema : SchemaValue) (e : Entry) (t : List Entry) → IsSound schema (e ∷ t)
    → Fits (place schema e.site.0 (fresh schema e.site.0) (own e.site.0 t)) e.command e.reply
sound_fits schema e t sound =
    let run = subst (λ (o : List Entry). IsRun schema e.site.0 (fresh schema e.site.0) o) (own_here e.site.0 e t refl)
    (sound.runs e.site.0 sound.sites.1) in
    run.1

-- ---- sizes

-- the effect is a grant
abbrev grants : Option Effect → Bool
grants (Some (Grants txn field change)) = true
grants effect = false

module _ (base : Base) (p : TxnId → Bool) (f : ℕ) (k : Kind) where
  sizes_pass : (counted : Bool) (effect : Option Effect) (es : List Effect) → grants effect ≡ false
      → granted_sizes p f k (with_effect counted effect es) ≡ granted_sizes p f k es
  sizes_pass counted None es h = refl
  sizes_pass counted (Some (Grants txn field change)) es h = cc
  sizes_pass true (Some effect) es h = refl
  sizes_pass false (Some effect) es h = refl

  after_sizes : (kept : Bool) (s : ℕ) (c : Command) (r : Reply) (es : List Effect)
      → granted_sizes p f k (after base kept c r es) ≡ size_of (λ _. p) f k s c r + granted_sizes p f k es
  after_sizes kept s (Escrow txn field change) Granted es = refl
  after_sizes kept s c Granted es = sizes_pass true (effect_of base es c Granted) es refl ∙ sym (zero-add (granted_sizes p f k es))
  after_sizes kept s c r es = sizes_pass (counts kept r) (effect_of base es c r) es refl ∙ sym (zero-add (granted_sizes p f k es))

  -- what took effect has the escrows that were granted, whatever is kept
  pub effects_sizes : (kept : Bool) (o : List Entry) → granted_sizes p f k (effects base kept o) ≡ sizes (λ _. p) f k o
  effects_sizes kept [] = refl
  effects_sizes kept (e ∷ o) =
      omega (
        arith,
        after_sizes kept e.site.0 e.command e.reply (effects base (doubt_kept_before kept e.reply) o),
        effects_sizes (doubt_kept_before kept e.reply) o,
      )

size_of_site : (p : ℕ → TxnId → Bool) (f : ℕ) (k : Kind) (s : ℕ) (c : Command) (r : Reply)
    → size_of (λ _. p s) f k s c r ≡ size_of p f k s c r
size_of_site p f k s (Escrow txn field change) Granted = refl
size_of_site p f k s c r = refl

-- a sum over the trace is the sum over each site's entries
pub sizes_split : (p : ℕ → TxnId → Bool) (f : ℕ) (k : Kind) (schema : SchemaValue) (t : List Entry) → IsAtSites schema t
    → sizes p f k t ≡ sum_below schema.sites (λ s. sizes (λ _. p s) f k (own s t))
sizes_split p f k schema [] at = sym (sum_below-zero schema.sites)
sizes_split p f k schema (e ∷ t) at =
    let x = size_of p f k e.site.0 e.command e.reply in
    let of : ℕ → List Entry → ℕ = λ s l. sizes (λ _. p s) f k l in
    let here : of e.site.0 (own e.site.0 (e ∷ t)) ≡ of e.site.0 (own e.site.0 t) + x =
    ap (of e.site.0) (own_here e.site.0 e t refl) ∙ omega (arith, size_of_site p f k e.site.0 e.command e.reply) in
    let there : (j : ℕ) → j ≢ e.site.0 → of j (own j (e ∷ t)) ≡ of j (own j t) =
    λ j apart. ap (of j) (own_there j e t (λ eq. apart (sym eq))) in
    omega (
      arith,
      sizes_split p f k schema t at.0,
      sum_below_bump schema.sites (λ s. of s (own s t)) (λ s. of s (own s (e ∷ t))) e.site.0 x at.1 here there,
    )

-- ---- changes

change_weight : (f : ℕ) (field : ℕ) (p : Bool) (change : ℤ)
    → cond (eqb field f && p) change (pos 0)
    ≡ pos (cond (eqb field f && same_kind (kind_of change) Raise && p) (unsigned_abs change) 0) -ℤ pos
    (cond (eqb field f && same_kind (kind_of change) Lower && p) (unsigned_abs change) 0)
change_weight f field p (pos n) =
    elim (eqb field f) as (λ b. cond (b && p) (pos n) (pos 0) ≡ pos (cond (b && true && p) n 0) -ℤ pos (cond (b && false && p) n 0)) [
      | true ↦ elim p as (λ q. cond q (pos n) (pos 0) ≡ pos (cond q n 0) -ℤ pos 0) [ true ↦ omega (arith, ints) | false ↦ refl ]
      | false ↦ refl
    ]
change_weight f field p (negsuc n) =
    elim (eqb field f) as (λ b. cond (b && p) (negsuc n) (pos 0)
    ≡ pos (cond (b && false && p) (suc n) 0) -ℤ pos (cond (b && true && p) (suc n) 0)) [
      | true ↦ elim p as (λ q. cond q (negsuc n) (pos 0) ≡ pos 0 -ℤ pos (cond q (suc n) 0)) [ true ↦ omega (arith, ints) | false ↦ refl ]
      | false ↦ refl
    ]

change_split : (p : ℕ → TxnId → Bool) (f : ℕ) (s : ℕ) (c : Command) (r : Reply)
    → change_of p f s c r ≡ pos (size_of p f Raise s c r) -ℤ pos (size_of p f Lower s c r)
change_split p f s (Escrow txn field change) Granted = change_weight f field.0 (p s txn) change
change_split p f s c r = refl

-- the changes are the raisings less the lowerings
pub changes_split : (p : ℕ → TxnId → Bool) (f : ℕ) (t : List Entry) → changes p f t ≡ pos (sizes p f Raise t) -ℤ pos (sizes p f Lower t)
changes_split p f [] = refl
changes_split p f (e ∷ t) = omega (arith, ints, changes_split p f t, change_split p f e.site.0 e.command e.reply)

-- ---- more transactions that pass

counted-mono : (b p q : Bool) (n : ℕ) → (p ≡ true → q ≡ true) → cond (b && p) n 0 ≤ cond (b && q) n 0
counted-mono false p q n h = omega arith
counted-mono true false q n h = omega arith
counted-mono true true q n h = rw (h refl) (omega arith)

size_of-mono : (p q : ℕ → TxnId → Bool) → ((s : ℕ) (id : TxnId) → p s id ≡ true → q s id ≡ true)
    → (f : ℕ) (k : Kind) (s : ℕ) (c : Command) (r : Reply) → size_of p f k s c r ≤ size_of q f k s c r
size_of-mono p q h f k s (Escrow txn field change) Granted =
    counted-mono (eqb field.0 f && same_kind (kind_of change) k) (p s txn) (q s txn) (unsigned_abs change) (h s txn)
size_of-mono p q h f k s c r = omega arith

pub sizes-mono : (p q : ℕ → TxnId → Bool) → ((s : ℕ) (id : TxnId) → p s id ≡ true → q s id ≡ true) → (f : ℕ) (k : Kind) (t : List Entry)
    → sizes p f k t ≤ sizes q f k t
sizes-mono p q h f k [] = omega arith
sizes-mono p q h f k (e ∷ t) = omega (arith, sizes-mono p q h f k t, size_of-mono p q h f k e.site.0 e.command e.reply)

counted-or : (b p q : Bool) (n : ℕ) → cond (b && (p || q)) n 0 ≤ cond (b && p) n 0 + cond (b && q) n 0
counted-or false p q n = omega arith
counted-or true true q n = omega arith
counted-or true false q n = omega arith

size_of-or : (p q : ℕ → TxnId → Bool) (f : ℕ) (k : Kind) (s : ℕ) (c : Command) (r : Reply)
    → size_of (λ s' id. p s' id || q s' id) f k s c r ≤ size_of p f k s c r + size_of q f k s c r
size_of-or p q f k s (Escrow txn field change) Granted =
    counted-or (eqb field.0 f && same_kind (kind_of change) k) (p s txn) (q s txn) (unsigned_abs change)
size_of-or p q f k s c r = omega arith

pub sizes-or : (p q : ℕ → TxnId → Bool) (f : ℕ) (k : Kind) (t : List Entry)
    → sizes (λ s id. p s id || q s id) f k t ≤ sizes p f k t + sizes q f k t
sizes-or p q f k [] = omega arith
sizes-or p q f k (e ∷ t) = omega (arith, sizes-or p q f k t, size_of-or p q f k e.site.0 e.command e.reply)
