-- Which transactions are open, as a list of them tells.
use Rattle.std.proofs.Common.{◌≡◌, Bool, true, false, ◌&&◌, ◌||◌, List, [], ◌∷◌, filter, refl, sym, ap, ◌∙◌, inl, inr}
use Rattle.std.specs.List.{list_any}
use Rattle.std.proofs.lemmas.Bool.{cases_Bool}
use Rattle.field_bounds.specs.declared.id.TxnId.{TxnId}
use Rattle.field_bounds.specs.declared.effect.Effect.{Effect}
use Rattle.field_bounds.specs.declared.effect.Effect.TheVariants.{Begins, Grants, Commits, Aborts, Gives, Accepts, Stops}
use Rattle.field_bounds.specs.Effects.{same_txn, begun_txns, is_begun, is_open}
use Rattle.field_bounds.proofs.Lawful.{same_txn-true}

-- among the transactions begun that are open after some effects is just the one that was begun and is open after them
pub any_open : (t : TxnId) (es all : List Effect) → list_any (λ u. same_txn u t) (filter (λ id. is_open id all) (begun_txns es))
    ≡ (is_begun t es && is_open t all)
any_open t [] all = refl
any_open t (Begins txn ∷ es) all =
    elim (cases_Bool (is_open txn all)) [
      | inl opened ↦ rw opened (ap (λ b. same_txn txn t || b) (any_open t es all)
          ∙ joined (same_txn txn t) (is_begun t es) (is_open t all)
          (λ same. ap (λ (x : TxnId). is_open x all) (sym (same_txn-true txn t same)) ∙ opened))
      | inr closed ↦ rw closed (any_open t es all ∙ passed (same_txn txn t) (is_begun t es) (is_open t all)
          (λ same. ap (λ (x : TxnId). is_open x all) (sym (same_txn-true txn t same)) ∙ closed))
    ]
  where
    joined : (s b o : Bool) → (s ≡ true → o ≡ true) → (s || (b && o)) ≡ ((s || b) && o)
    joined true b o h = sym (h refl)
    joined false b o h = refl

    passed : (s b o : Bool) → (s ≡ true → o ≡ false) → (b && o) ≡ ((s || b) && o)
    passed true true o h = refl
    passed true false o h = sym (h refl)
    passed false b o h = refl
any_open t (Grants txn field change ∷ es) all = any_open t es all
any_open t (Commits txn ∷ es) all = any_open t es all
any_open t (Aborts txn ∷ es) all = any_open t es all
any_open t (Gives to field kind amount ∷ es) all = any_open t es all
any_open t (Accepts from field kind total ∷ es) all = any_open t es all
any_open t (Stops ∷ es) all = any_open t es all
