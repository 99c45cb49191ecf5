use Rattle.std.proofs.Common.{◌≡◌, ℕ, ◌<◌, ◌≤◌, ◌==◌, Bool, true, false, not, ◌&&◌, ◌||◌, refl, inl, inr, ◌⊎◌, arith}
use Rattle.std.specs.Prelude.{nat_lt, nat_le}
use Rattle.std.proofs.lemmas.Bool.{and_parts, ltb-true, leb-true, eqb-true, lt-ltb, le-leb, eq-eqb}
use Rattle.field_bounds.specs.declared.id.TxnId.{TxnId}
use Rattle.field_bounds.specs.Effects.{is_up_to}
use Rattle.log_head.specs.Horizons.{HorizonValue, is_listed, is_passed, last_of, IsHorizonOf, ReachesFurther}
use Rattle.log_head.proofs.laws.horizons_reach_further.Goals as goal

or_parts : (a b : Bool) → (a || b) ≡ true → (a ≡ true) ⊎ (b ≡ true)
or_parts true b h = inl refl
or_parts false b h = inr h

abbrev UpTo : ℕ → ℕ → ℕ → ℕ → Type 0
UpTo e n e' n' = (e' < e) ⊎ ((e' ≡ e) × (n' ≤ n))

up_to : (latest txn : TxnId) → is_up_to latest txn ≡ true → UpTo latest.epoch latest.number txn.epoch txn.number
up_to latest txn h =
    elim (or_parts (nat_lt txn.epoch latest.epoch) ((txn.epoch == latest.epoch) && nat_le txn.number latest.number) h) [
      | inl less ↦ inl (ltb-true _ _ less)
      | inr same ↦
          let p = and_parts (txn.epoch == latest.epoch) (nat_le txn.number latest.number) same in
          inr (eqb-true _ _ p.0, leb-true _ _ p.1)
    ]

chain : (a b a' b' x y : ℕ) → UpTo a b a' b' → UpTo a' b' x y → UpTo a b x y
chain a b a' b' x y (inl p) (inl q) = inl (omega (arith, p, q))
chain a b a' b' x y (inl p) (inr q) = inl (omega (arith, p, q.0))
chain a b a' b' x y (inr p) (inl q) = inl (omega (arith, p.0, q))
chain a b a' b' x y (inr p) (inr q) = inr (omega (arith, p.0, q.0), omega (arith, p.1, q.1))

or_true : (a : Bool) → (a || true) ≡ true
or_true true = refl
or_true false = refl

passed_by : (h : HorizonValue) (txn : TxnId) → UpTo h.epoch h.number txn.epoch txn.number
    → (txn.epoch ≡ h.epoch → is_listed txn.number h.open_then ≡ false) → is_passed h txn ≡ true
passed_by h txn (inl less) free = rw (lt-ltb _ _ less) refl
passed_by h txn (inr same) free =
    rw (eq-eqb _ _ same.0, le-leb _ _ same.1, free same.0) (or_true (nat_lt txn.epoch h.epoch))

passed_up : (h : HorizonValue) (txn : TxnId) → is_passed h txn ≡ true → UpTo h.epoch h.number txn.epoch txn.number
passed_up h txn e =
    elim (or_parts (nat_lt txn.epoch h.epoch)
    ((txn.epoch == h.epoch) && nat_le txn.number h.number && not (is_listed txn.number h.open_then)) e) [
      | inl less ↦ inl (ltb-true _ _ less)
      | inr same ↦
          let p = and_parts ((txn.epoch == h.epoch) && nat_le txn.number h.number) (not (is_listed txn.number h.open_then)) same in
          let q = and_parts (txn.epoch == h.epoch) (nat_le txn.number h.number) p.0 in
          inr (eqb-true _ _ q.0, leb-true _ _ q.1)
    ]

module _ (old new : HorizonValue) (gone more : TxnId → Bool) (is : IsHorizonOf old gone) (reaches : ReachesFurther old new more)
    (txn : TxnId) where
  apart : (b : Bool) → b ≡ true → b ≡ false → ⊥
  apart true e h = absurd cc
  apart false e h = absurd cc

  -- it isn't listed, where it was passed before or its commit goes now
  free : (is_passed old txn ≡ true) ⊎ (more txn ≡ true) → txn.epoch ≡ new.epoch → is_listed txn.number new.open_then ≡ false
  free why same = by (is_listed txn.number new.open_then) refl
    where
      wrong : is_listed txn.number new.open_then ≡ true → ⊥
      wrong e = elim why [
        | inl passed ↦ apart (is_passed old txn) passed (reaches.listed txn same e).0
        | inr goes ↦ apart (more txn) goes (reaches.listed txn same e).1
      ]

      by : (b : Bool) → is_listed txn.number new.open_then ≡ b → b ≡ false
      by true e = absurd (wrong e)
      by false e = refl

  stays_passed : is_passed old txn ≡ true → is_passed new txn ≡ true
  stays_passed e =
      passed_by new txn (chain new.epoch new.number old.epoch old.number txn.epoch txn.number
      (up_to (last_of new) (last_of old) reaches.further) (passed_up old txn e)) (free (inl e))

  now_passed : more txn ≡ true → is_passed new txn ≡ true
  now_passed e = passed_by new txn (up_to (last_of new) txn (reaches.latest txn e)) (free (inr e))

  passed_now : (gone txn || more txn) ≡ true → is_passed new txn ≡ true
  passed_now e =
      elim (or_parts (gone txn) (more txn) e) [
        | inl before ↦ stays_passed (is txn before)
        | inr goes ↦ now_passed goes
      ]

pub returns : goal.returns
returns c = record { further = λ old new gone more is reaches txn e. passed_now old new gone more is reaches txn e }
