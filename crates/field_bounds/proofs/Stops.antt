-- What a stop does to the transactions and the rights of a site.
use Rattle.std.proofs.Common.{◌≡◌, ℕ, ◌+◌, Bool, true, false, not, ◌&&◌, ◌||◌, cond, List, [], ◌∷◌, filter, refl, arith, eqb}
use Rattle.std.proofs.lemmas.Bool.{eq-eqb, or_right}
use Rattle.std.specs.Prelude.{unsigned_abs}
use Rattle.field_bounds.specs.declared.kind.Kind.{Kind}
use Rattle.field_bounds.specs.declared.id.TxnId.{TxnId}
use Rattle.field_bounds.specs.declared.effect.Effect.{Effect}
use Rattle.field_bounds.specs.declared.effect.Effect.TheVariants.{Begins, Grants, Commits, Aborts, Gives, Accepts, Stops}
use Rattle.field_bounds.specs.Kind.{kind_of, same_kind}
use Rattle.field_bounds.specs.Schema.{SchemaValue}
use Rattle.field_bounds.specs.Effects.{Base, same_txn, is_begun, is_committed, is_dropped, is_aborted, is_open, begun_txns, open_txns, granted_sizes, share, held_rights}
use Rattle.field_bounds.proofs.Lawful.{IsLawful, covered, open_parts}
use Rattle.field_bounds.proofs.Steps.{granted-or, granted-same, weigh_none, of_txn, fate_here}

-- ---- transactions

closes : (b c d : Bool) → b ≡ true → (not c && not (b || d)) ≡ false
closes true true d h = refl
closes true false d h = refl
closes false c d h = cc

-- what was begun before a stop isn't open after it
pub closed_by_stop : (id : TxnId) (es : List Effect) → is_begun id es ≡ true → is_open id (Stops ∷ es) ≡ false
closed_by_stop id es begun_txns = closes (is_begun id es) (is_committed id es) (is_dropped id es) begun_txns

same_txn-refl : (id : TxnId) → same_txn id id ≡ true
same_txn-refl id = rw (eq-eqb id.epoch id.epoch refl, eq-eqb id.number id.number refl) refl

none_open : (all es : List Effect) → ((id : TxnId) → is_begun id es ≡ true → is_begun id all ≡ true)
    → filter (λ id. is_open id (Stops ∷ all)) (begun_txns es) ≡ []
none_open all [] h = refl
none_open all (Begins txn ∷ es) h =
    let here : is_begun txn (Begins txn ∷ es) ≡ true = rw (same_txn-refl txn) refl in
    rw (closed_by_stop txn all (h txn here)) (none_open all es
    (λ id begun_txns. h id (or_right (same_txn txn id) (is_begun id es) begun_txns)))
none_open all (Grants txn field change ∷ es) h = none_open all es h
none_open all (Commits txn ∷ es) h = none_open all es h
none_open all (Aborts txn ∷ es) h = none_open all es h
none_open all (Gives to field kind amount ∷ es) h = none_open all es h
none_open all (Accepts from field kind total ∷ es) h = none_open all es h
none_open all (Stops ∷ es) h = none_open all es h

-- after a stop no transaction is open
pub stop_closes_all : (es : List Effect) → open_txns (Stops ∷ es) ≡ []
stop_closes_all es = none_open es es (λ id begun_txns. begun_txns)

-- ---- rights

weigh_false : (on : Bool) (n : ℕ) → cond (on && false) n 0 ≡ 0
weigh_false true n = refl
weigh_false false n = refl

granted-none : (f : ℕ) (k : Kind) (es : List Effect) → granted_sizes (λ _. false) f k es ≡ 0
granted-none f k [] = refl
granted-none f k (Grants txn field change ∷ es) = omega (
  arith,
  granted-none f k es,
  weigh_false (eqb field.0 f && same_kind (kind_of change) k) (unsigned_abs change),
)
granted-none f k (Begins txn ∷ es) = granted-none f k es
granted-none f k (Commits txn ∷ es) = granted-none f k es
granted-none f k (Aborts txn ∷ es) = granted-none f k es
granted-none f k (Gives to field kind amount ∷ es) = granted-none f k es
granted-none f k (Accepts from field kind total ∷ es) = granted-none f k es
granted-none f k (Stops ∷ es) = granted-none f k es

stop_aborted : (b c d : Bool) → b ≡ true → (not c && (b || d)) ≡ ((not c && not d) || (not c && d))
stop_aborted true true d h = refl
stop_aborted true false true h = refl
stop_aborted true false false h = refl
stop_aborted false c d h = cc

open_excludes : (c d : Bool) → (not c && not d) ≡ true → (not c && d) ≡ false
open_excludes true d h = refl
open_excludes false true h = cc
open_excludes false false h = refl

module _ (schema : SchemaValue) (base : Base) (es : List Effect) (lawful : IsLawful schema base es) (f : ℕ) (k : Kind) where
  -- a stop frees all that is held
  pub share_stop : share base f k (Stops ∷ es) ≡ share base f k es + held_rights f k es
  share_stop =
      omega (
        arith,
        covered schema base es lawful f k,
        granted-same schema base (λ id. is_aborted id (Stops ∷ es)) (λ id. is_open id es || is_aborted id es) f k es lawful
            (λ id begun_txns. stop_aborted (is_begun id es) (is_committed id es) (is_dropped id es) begun_txns),
        granted-or (λ id. is_open id es) (λ id. is_aborted id es)
            (λ id is. open_excludes (is_committed id es) (is_dropped id es) is) f k es,
      )

  pub held_stop : held_rights f k (Stops ∷ es) ≡ 0
  held_stop =
      omega (
        arith,
        granted-same schema base (λ id. is_open id (Stops ∷ es)) (λ _. false) f k es lawful
            (λ id begun_txns. closed_by_stop id es begun_txns),
        granted-none f k es,
      )

-- ---- what a log of commits would keep

-- the sizes of the escrows that stand in the commits, each with those of its transaction
abbrev pub kept_sizes : ℕ → Kind → List Effect → ℕ
kept_sizes f k [] = 0
kept_sizes f k (Commits txn ∷ es) = of_txn txn f k es + kept_sizes f k es
kept_sizes f k (_ ∷ es) = kept_sizes f k es

pub kept_is_committed : (schema : SchemaValue) (base : Base) (es : List Effect) → IsLawful schema base es → (f : ℕ) (k : Kind)
    → kept_sizes f k es ≡ granted_sizes (λ id. is_committed id es) f k es
kept_is_committed schema base [] lawful f k = refl
kept_is_committed schema base (Commits txn ∷ es) lawful f k =
    omega (
      arith,
      kept_is_committed schema base es lawful.0 f k,
      granted-or (λ id. same_txn txn id) (λ id. is_committed id es)
          (λ id same. (fate_here schema base es lawful.0 f k txn id lawful.1.1 same).0) f k es,
    )
kept_is_committed schema base (Grants txn field change ∷ es) lawful f k =
    omega (
      arith,
      kept_is_committed schema base es lawful.0 f k,
      weigh_none (eqb field.0 f && same_kind (kind_of change) k) (is_committed txn es) (unsigned_abs change)
          (open_parts (is_committed txn es) (is_dropped txn es) lawful.1.opened).0,
    )
kept_is_committed schema base (Begins txn ∷ es) lawful f k = kept_is_committed schema base es lawful.0 f k
kept_is_committed schema base (Aborts txn ∷ es) lawful f k = kept_is_committed schema base es lawful.0 f k
kept_is_committed schema base (Gives to field kind amount ∷ es) lawful f k = kept_is_committed schema base es lawful.0 f k
kept_is_committed schema base (Accepts from field kind total ∷ es) lawful f k = kept_is_committed schema base es lawful.0 f k
kept_is_committed schema base (Stops ∷ es) lawful f k = kept_is_committed schema base es lawful.0 f k
