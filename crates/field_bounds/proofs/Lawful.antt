-- Effects that each were allowed leave no rights below zero.
use Rattle.std.proofs.Common.{◌≡◌, ℕ, ◌≤◌, Bool, true, false, not, ◌&&◌, ◌||◌, cond, List, [], ◌∷◌, refl, sym, ◌∙◌, ap, inl, inr, arith, eqb}
use Rattle.std.proofs.lemmas.Bool.{and_parts, eqb-true, cases_Bool, or_right}
use Rattle.std.specs.Prelude.{unsigned_abs}
use Rattle.field_bounds.specs.declared.kind.Kind.{Kind}
use Rattle.field_bounds.specs.declared.kind.Kind.TheVariants.{Lower, Raise}
use Rattle.field_bounds.specs.declared.id.TxnId.{TxnId}
use Rattle.field_bounds.specs.declared.effect.Effect.{Effect}
use Rattle.field_bounds.specs.declared.effect.Effect.TheVariants.{Begins, Grants, Commits, Aborts, Gives, Accepts, Stops}
use Rattle.field_bounds.specs.Kind.{kind_of, same_kind, other}
use Rattle.field_bounds.specs.Schema.{SchemaValue}
use Rattle.field_bounds.specs.Effects.{Base, same_txn, is_begun, is_committed, is_dropped, is_aborted, granted_sizes, rights_in, rights_out, share}
-- the definitions stand in specs/, and are passed on from here
pub use Rattle.field_bounds.specs.Lawful.{MayGrant, IsReceiver, MayGive, MayAccept, MayFollow, IsLawful}

pub same_txn-true : (a b : TxnId) → same_txn a b ≡ true → a ≡ b
same_txn-true a b h =
    let p = and_parts (eqb a.epoch b.epoch) (eqb a.number b.number) h in
    let x : a.epoch ≡ b.epoch = eqb-true _ _ p.0 in
    let y : a.number ≡ b.number = eqb-true _ _ p.1 in
    let made : ◌≡◌ {A = TxnId} (record { epoch = a.epoch; number = a.number }) (record { epoch = b.epoch; number = b.number }) = cc in
    made

pub same_kind-true : (a b : Kind) → same_kind a b ≡ true → a ≡ b
same_kind-true Lower Lower h = refl
same_kind-true Raise Raise h = refl
same_kind-true Lower Raise h = cc
same_kind-true Raise Lower h = cc

counted-mono : (b p q : Bool) (n : ℕ) → (p ≡ true → q ≡ true) → cond (b && p) n 0 ≤ cond (b && q) n 0
counted-mono false p q n h = omega arith
counted-mono true false q n h = omega arith
counted-mono true true q n h = rw (h refl) (omega arith)

-- more transactions that pass, a greater sum
pub granted-mono : (p q : TxnId → Bool) → ((id : TxnId) → p id ≡ true → q id ≡ true) → (f : ℕ) (k : Kind) (es : List Effect)
    → granted_sizes p f k es ≤ granted_sizes q f k es
granted-mono p q h f k [] = omega arith
granted-mono p q h f k (Grants txn field change ∷ es) =
    omega (
      arith,
      granted-mono p q h f k es,
      counted-mono (eqb field.0 f && same_kind (kind_of change) k) (p txn) (q txn)
          (unsigned_abs change) (h txn),
    )
granted-mono p q h f k (Begins txn ∷ es) = granted-mono p q h f k es
granted-mono p q h f k (Commits txn ∷ es) = granted-mono p q h f k es
granted-mono p q h f k (Aborts txn ∷ es) = granted-mono p q h f k es
granted-mono p q h f k (Gives to field kind amount ∷ es) = granted-mono p q h f k es
granted-mono p q h f k (Accepts from field kind total ∷ es) = granted-mono p q h f k es
granted-mono p q h f k (Stops ∷ es) = granted-mono p q h f k es

-- an escrow or a gift of the kind takes at most the share, and one of another kind or field takes nothing
taken : (share_of : ℕ → Kind → ℕ) (field f : ℕ) (kind k : Kind) (p : Bool) (n : ℕ) → n ≤ share_of field kind
    → cond (eqb field f && same_kind kind k && p) n 0 ≤ share_of f k
taken share_of field f kind k p n h =
    elim (cases_Bool (eqb field f && same_kind kind k && p)) as (λ _. cond (eqb field f && same_kind kind k && p) n 0 ≤ share_of f k) [
      | inl is ↦
          let parts = and_parts (eqb field f && same_kind kind k) p is in
          let both = and_parts (eqb field f) (same_kind kind k) parts.0 in
          let same : share_of field kind ≡ share_of f k = cc (eqb-true field f both.0, same_kind-true kind k both.1) in
          rw is (omega (arith, same))
      | inr isnt ↦ rw isnt (omega arith)
    ]

stays_dropped : (c d x : Bool) → (not c && d) ≡ true → (not c && (x || d)) ≡ true
stays_dropped true d x h = h
stays_dropped false d x h = or_right x d h

commits_open : (x c d : Bool) → (x ≡ true → d ≡ false) → (not c && d) ≡ true → (not (x || c) && d) ≡ true
commits_open x true d undropped h = cc
commits_open true false d undropped h = cc (undropped refl)
commits_open false false d undropped h = h

pub open_parts : (c d : Bool) → (not c && not d) ≡ true → (c ≡ false) × (d ≡ false)
open_parts true d h = cc
open_parts false true h = cc
open_parts false false h = (refl, refl)

-- the rights out are within the rights in, so that no share is cut off at zero
pub covered : (schema : SchemaValue) (base : Base) (es : List Effect) → IsLawful schema base es → (f : ℕ) (k : Kind)
    → rights_out f k es ≤ rights_in base f k es
covered schema base [] lawful f k = omega arith
covered schema base (Begins txn ∷ es) lawful f k = covered schema base es lawful.0 f k
covered schema base (Grants txn field change ∷ es) lawful f k =
    omega (
      arith,
      covered schema base es lawful.0 f k,
      taken (λ f' k'. share base f' k' es) field.0 f (kind_of change) k true (unsigned_abs change) lawful.1.enough,
    )
covered schema base (Commits txn ∷ es) lawful f k =
    omega (
      arith,
      covered schema base es lawful.0 f k,
      granted-mono (λ id. is_aborted id es) (λ id. is_aborted id (Commits txn ∷ es))
          (λ id. commits_open (same_txn txn id) (is_committed id es) (is_dropped id es)
          (λ same. ap (λ (x : TxnId). is_dropped x es) (sym (same_txn-true txn id same))
          ∙ (open_parts (is_committed txn es) (is_dropped txn es) lawful.1.1).1)) f k es,
      granted-mono (λ id. is_committed id es) (λ id. is_committed id (Commits txn ∷ es))
          (λ id h. or_right (same_txn txn id) (is_committed id es) h) f (other k) es,
    )
covered schema base (Aborts txn ∷ es) lawful f k =
    omega (
      arith,
      covered schema base es lawful.0 f k,
      granted-mono (λ id. is_aborted id es) (λ id. is_aborted id (Aborts txn ∷ es))
          (λ id. stays_dropped (is_committed id es) (is_dropped id es) (same_txn txn id)) f k es,
    )
covered schema base (Stops ∷ es) lawful f k =
    omega (
      arith,
      covered schema base es lawful.0 f k,
      granted-mono (λ id. is_aborted id es) (λ id. is_aborted id (Stops ∷ es))
          (λ id. stays_dropped (is_committed id es) (is_dropped id es) (is_begun id es)) f k es,
    )
covered schema base (Gives to field kind amount ∷ es) lawful f k =
    omega (arith, covered schema base es lawful.0 f k, taken (λ f' k'. share base f' k' es) field.0 f kind k true amount lawful.1.enough)
covered schema base (Accepts from field kind total ∷ es) lawful f k = omega (arith, covered schema base es lawful.0 f k)
