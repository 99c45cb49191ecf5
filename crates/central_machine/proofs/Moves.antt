-- What one more effect of a site, and one more entry of a trace, move in the sums over all sites.
use Rattle.std.proofs.Common.{◌≡◌, ◌≢◌, ℕ, zero, suc, ◌+◌, ◌<◌, ◌≤◌, Bool, true, false, ◌&&◌, cond, List, [], ◌∷◌, refl, sym, ap, subst, inl, inr, arith, eqb, Some, None}
use Rattle.std.proofs.lemmas.Bool.{cases_eq}
use Rattle.std.proofs.lemmas.Int.{ints}
use Rattle.std.specs.Prelude.{pos, ◌+ℤ◌, ◌-ℤ◌}
use Rattle.field_bounds.specs.declared.kind.Kind.{Kind}
use Rattle.field_bounds.specs.declared.kind.Kind.TheVariants.{Lower, Raise}
use Rattle.field_bounds.specs.declared.effect.Effect.{Effect}
use Rattle.field_bounds.specs.declared.effect.Effect.TheVariants.{Begins, Grants, Commits, Aborts, Gives, Accepts, Stops}
use Rattle.field_bounds.specs.declared.entry.Entry.{Entry}
use Rattle.field_bounds.specs.Kind.{same_kind}
use Rattle.field_bounds.specs.Schema.{SchemaValue}
use Rattle.field_bounds.specs.Parts.{sum_below}
use Rattle.field_bounds.specs.Effects.{Base, fresh, effects, is_committed, takes, granted_sizes, held_rights, cut, gifts, is_for_good}
use Rattle.field_bounds.specs.Central.{at_site, is_committed_in, is_open_in, committed_value, open_sizes, cuts, sizes, IsSound}
use Rattle.field_bounds.proofs.Lawful.{IsLawful}
use Rattle.field_bounds.proofs.Steps.{of_txn, held_grant, held_commit, held_abort}
use Rattle.field_bounds.proofs.Stops.{held_stop, kept_is_committed}
use Rattle.field_bounds.proofs.Sums.{sum_below-same, term_below}
use Rattle.field_bounds.proofs.Traces.{own_there, sound_front}
use Rattle.central_rules.proofs.Across.{by_sites, committed_is}

-- the sizes of the committed escrows of a site
abbrev pub committed_sizes : ℕ → Kind → List Effect → ℕ
committed_sizes f k es = granted_sizes (λ id. is_committed id es) f k es

-- ---- one more effect

-- what comes to the open escrows, and what goes from them
abbrev pub opened_by : ℕ → Kind → Effect → ℕ
opened_by f k (Grants txn field change) = takes f k (record { field = field; change = change })
opened_by f k e = 0

abbrev pub closed_by : ℕ → Kind → List Effect → Effect → ℕ
closed_by f k es (Commits txn) = of_txn txn f k es
closed_by f k es (Aborts txn) = of_txn txn f k es
closed_by f k es Stops = held_rights f k es
closed_by f k es e = 0

-- what is committed, and what is given up
abbrev pub committed_by : ℕ → Kind → List Effect → Effect → ℕ
committed_by f k es (Commits txn) = of_txn txn f k es
committed_by f k es e = 0

abbrev pub given_up_by : ℕ → Kind → Effect → ℕ
given_up_by f k (Gives None field kind amount) = cond (eqb field.0 f && same_kind kind k) amount 0
given_up_by f k e = 0

module _ (schema : SchemaValue) (base : Base) (es : List Effect) (f : ℕ) (k : Kind) where
  pub held_moves : (e : Effect) → IsLawful schema base (e ∷ es)
      → held_rights f k (e ∷ es) + closed_by f k es e ≡ held_rights f k es + opened_by f k e
  held_moves (Begins txn) lawful = refl
  held_moves (Grants txn field change) lawful =
      omega (arith, held_grant schema base es lawful.0 f k txn (record { field = field; change = change }) lawful.1.opened)
  held_moves (Commits txn) lawful = omega (arith, held_commit schema base es lawful.0 f k txn lawful.1.1)
  held_moves (Aborts txn) lawful = omega (arith, held_abort schema base es lawful.0 f k txn lawful.1.1)
  held_moves (Gives to field kind amount) lawful = refl
  held_moves (Accepts from field kind total) lawful = refl
  held_moves Stops lawful = omega (arith, held_stop schema base es lawful.0 f k)

  pub committed_moves : (e : Effect) → IsLawful schema base (e ∷ es)
      → committed_sizes f k (e ∷ es) ≡ committed_sizes f k es + committed_by f k es e
  committed_moves (Commits txn) lawful =
      omega (arith, kept_is_committed schema base (Commits txn ∷ es) lawful f k, kept_is_committed schema base es lawful.0 f k)
  committed_moves (Grants txn field change) lawful =
      omega (arith, kept_is_committed schema base (Grants txn field change ∷ es) lawful f k, kept_is_committed schema base es lawful.0 f k)
  committed_moves (Begins txn) lawful = omega arith
  committed_moves (Aborts txn) lawful = omega arith
  committed_moves (Gives to field kind amount) lawful = omega arith
  committed_moves (Accepts from field kind total) lawful = omega arith
  committed_moves Stops lawful = omega arith

  pub cut_moves : (e : Effect) → cut base f k (e ∷ es) ≡ cut base f k es + given_up_by f k e
  cut_moves (Gives None field kind amount) = at (eqb field.0 f) (same_kind kind k)
    where
      at : (a b : Bool) → base.cut f k + (cond (a && b && true) amount 0 + gifts is_for_good f k es) ≡ base.cut f k + gifts is_for_good f k es + cond (a && b) amount 0
      at true true = omega arith
      at true false = omega arith
      at false b = omega arith
  cut_moves (Gives (Some to) field kind amount) = at (eqb field.0 f) (same_kind kind k)
    where
      at : (a b : Bool) → base.cut f k + (cond (a && b && false) amount 0 + gifts is_for_good f k es) ≡ base.cut f k + gifts is_for_good f k es + 0
      at true true = omega arith
      at true false = omega arith
      at false b = omega arith
  cut_moves (Begins txn) = omega arith
  cut_moves (Grants txn field change) = omega arith
  cut_moves (Commits txn) = omega arith
  cut_moves (Aborts txn) = omega arith
  cut_moves (Accepts from field kind total) = omega arith
  cut_moves Stops = omega arith

-- ---- no entry

none_below : (n : ℕ) (F : ℕ → ℕ) → ((j : ℕ) → F j ≡ 0) → sum_below n F ≡ 0
none_below zero F none = refl
none_below (suc n) F none = omega (arith, none n, none_below n F none)

pub no_cuts : (schema : SchemaValue) (f : ℕ) (k : Kind) → cuts schema [] f k ≡ 0
no_cuts schema f k = none_below schema.sites (λ s. cut (fresh schema s) f k (at_site schema [] s)) (λ s. refl)

-- ---- one more entry

-- one term moves, and no other differs
sum_moves : (n : ℕ) (F G : ℕ → ℕ) (i x y : ℕ) → i < n → G i + x ≡ F i + y → ((j : ℕ) → j ≢ i → G j ≡ F j)
    → sum_below n G + x ≡ sum_below n F + y
sum_moves zero F G i x y below at rest = absurd (omega arith)
sum_moves (suc n) F G i x y below at rest =
    elim (cases_eq n i) [
      | inl same ↦
          let at_n : G n + x ≡ F n + y = subst (λ (j : ℕ). G j + x ≡ F j + y) (sym same) at in
          omega (arith, at_n, sum_below-same n G F (λ j less. rest j (λ e. omega (arith, e, same, less))))
      | inr apart ↦ omega (arith, rest n apart, sum_moves n F G i x y (omega (arith, below)) at rest)
    ]

module _ (schema : SchemaValue) (e : Entry) (t : List Entry) (sound : IsSound schema (e ∷ t)) where
  there : (r : ℕ) → r ≢ e.site.0 → at_site schema (e ∷ t) r ≡ at_site schema t r
  there r apart = ap (λ o. effects (fresh schema r) false o) (own_there r e t (λ eq. apart (sym eq)))

  -- a sum over all sites moves by what it moves by at the entry's site
  moves : (H : ℕ → List Effect → ℕ) (x y : ℕ)
      → H e.site.0 (at_site schema (e ∷ t) e.site.0) + x ≡ H e.site.0 (at_site schema t e.site.0) + y
      → sum_below schema.sites (λ r. H r (at_site schema (e ∷ t) r)) + x ≡ sum_below schema.sites (λ r. H r (at_site schema t r)) + y
  moves H x y at = sum_moves schema.sites (λ r. H r (at_site schema t r)) (λ r. H r (at_site schema (e ∷ t) r)) e.site.0 x y
      sound.sites.1 at (λ r apart. ap (H r) (there r apart))

  front : IsSound schema t
  front = sound_front schema e t sound

  pub open_moves : (f : ℕ) (k : Kind) (x y : ℕ)
      → held_rights f k (at_site schema (e ∷ t) e.site.0) + x ≡ held_rights f k (at_site schema t e.site.0) + y
      → open_sizes schema (e ∷ t) f k + x ≡ open_sizes schema t f k + y
  open_moves f k x y at = omega (
    arith,
    by_sites schema (e ∷ t) sound (is_open_in schema (e ∷ t)) f k,
    by_sites schema t front (is_open_in schema t) f k,
    moves (λ _. held_rights f k) x y at,
  )

  -- what a site holds is no more than what is open
  pub held_in_open : (f : ℕ) (k : Kind) → held_rights f k (at_site schema t e.site.0) ≤ open_sizes schema t f k
  held_in_open f k = omega (
    arith,
    by_sites schema t front (is_open_in schema t) f k,
    term_below schema.sites (λ r. held_rights f k (at_site schema t r)) e.site.0 sound.sites.1,
  )

  pub cuts_more : (f : ℕ) (k : Kind) (x : ℕ)
      → cut (fresh schema e.site.0) f k (at_site schema (e ∷ t) e.site.0) ≡ cut (fresh schema e.site.0) f k (at_site schema t e.site.0) + x
      → cuts schema (e ∷ t) f k ≡ cuts schema t f k + x
  cuts_more f k x at = let m = moves (λ r es. cut (fresh schema r) f k es) 0 x (omega (arith, at)) in omega (arith, m)

  moved : (f : ℕ) (k : Kind) (x : ℕ)
      → committed_sizes f k (at_site schema (e ∷ t) e.site.0) ≡ committed_sizes f k (at_site schema t e.site.0) + x
      → sizes (is_committed_in schema (e ∷ t)) f k (e ∷ t) ≡ sizes (is_committed_in schema t) f k t + x
  moved f k x at = omega (
    arith,
    by_sites schema (e ∷ t) sound (is_committed_in schema (e ∷ t)) f k,
    by_sites schema t front (is_committed_in schema t) f k,
    moves (λ _. committed_sizes f k) 0 x (omega (arith, at)),
  )

  -- the committed value rises by the raisings that are committed, and falls by the lowerings
  pub committed_more : (f : ℕ) (raised lowered : ℕ)
      → committed_sizes f Raise (at_site schema (e ∷ t) e.site.0) ≡ committed_sizes f Raise (at_site schema t e.site.0) + raised
      → committed_sizes f Lower (at_site schema (e ∷ t) e.site.0) ≡ committed_sizes f Lower (at_site schema t e.site.0) + lowered
      → committed_value schema (e ∷ t) f ≡ (committed_value schema t f +ℤ (pos raised -ℤ pos lowered))
  committed_more f raised lowered up down = omega (
    arith,
    ints,
    committed_is schema (e ∷ t) f,
    committed_is schema t f,
    moved f Raise raised up,
    moved f Lower lowered down,
  )
