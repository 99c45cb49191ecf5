-- What one more effect does to the rights of a site.
use Rattle.std.proofs.Common.{◌≡◌, ℕ, ◌+◌, ◌-◌, Bool, true, false, not, Option, ◌&&◌, ◌||◌, cond, List, [], ◌∷◌, refl, sym, ◌∙◌, ap, subst, inl, inr, arith, eqb}
use Rattle.std.proofs.lemmas.Bool.{cases_Bool, or_right, or_parts, eq-eqb, eqb-true, eqb-false, ne_eqb, false≢true}
use Rattle.std.proofs.lemmas.List.Sums.{sum_by-cons}
use Rattle.std.specs.Prelude.{unsigned_abs, sum_by}
use Rattle.field_bounds.specs.declared.kind.Kind.{Kind}
use Rattle.field_bounds.specs.declared.id.FieldNo.{FieldNo}
use Rattle.field_bounds.specs.declared.id.SiteNo.{SiteNo}
use Rattle.field_bounds.specs.declared.id.TxnId.{TxnId}
use Rattle.field_bounds.specs.declared.entry.Escrow.{Escrow}
use Rattle.field_bounds.specs.declared.effect.Effect.{Effect}
use Rattle.field_bounds.specs.declared.effect.Effect.TheVariants.{Begins, Grants, Commits, Aborts, Gives, Accepts, Stops}
use Rattle.field_bounds.specs.Kind.{kind_of, same_kind, other}
use Rattle.field_bounds.specs.Schema.{SchemaValue}
use Rattle.field_bounds.specs.Effects.{Base, same_txn, is_begun, is_committed, is_dropped, is_aborted, is_open, escrows_of, takes, granted_sizes, total_accepted, share, held_rights}
use Rattle.field_bounds.proofs.Lawful.{IsLawful, covered, open_parts, same_txn-true}

both_step : (on p q : Bool) (n : ℕ) → (p ≡ true → q ≡ false) → cond (on && (p || q)) n 0 ≡ cond (on && p) n 0 + cond (on && q) n 0
both_step false p q n h = refl
both_step true true q n h = rw (h refl) (omega arith)
both_step true false q n h = omega arith

-- what passes either of two tests that exclude each other
pub granted-or : (p q : TxnId → Bool) → ((id : TxnId) → p id ≡ true → q id ≡ false) → (f : ℕ) (k : Kind) (es : List Effect)
    → granted_sizes (λ id. p id || q id) f k es ≡ granted_sizes p f k es + granted_sizes q f k es
granted-or p q h f k [] = refl
granted-or p q h f k (Grants txn field change ∷ es) =
    omega (
      arith,
      granted-or p q h f k es,
      both_step (eqb field.0 f && same_kind (kind_of change) k) (p txn) (q txn) (unsigned_abs change)
          (h txn),
    )
granted-or p q h f k (Begins txn ∷ es) = granted-or p q h f k es
granted-or p q h f k (Commits txn ∷ es) = granted-or p q h f k es
granted-or p q h f k (Aborts txn ∷ es) = granted-or p q h f k es
granted-or p q h f k (Gives to field kind amount ∷ es) = granted-or p q h f k es
granted-or p q h f k (Accepts from field kind total ∷ es) = granted-or p q h f k es
granted-or p q h f k (Stops ∷ es) = granted-or p q h f k es

-- tests that agree on what was begun
pub granted-same : (schema : SchemaValue) (base : Base) (p q : TxnId → Bool) (f : ℕ) (k : Kind) (es : List Effect) → IsLawful schema base es
    → ((id : TxnId) → is_begun id es ≡ true → p id ≡ q id) → granted_sizes p f k es ≡ granted_sizes q f k es
granted-same schema base p q f k [] lawful h = refl
granted-same schema base p q f k (Grants txn field change ∷ es) lawful h =
    let rest = granted-same schema base p q f k es lawful.0 h in
    let here = ap (λ (b : Bool). cond (eqb field.0 f && same_kind (kind_of change) k && b) (unsigned_abs change) 0)
    (h txn lawful.1.begun) in
    omega (arith, rest, here)
granted-same schema base p q f k (Begins txn ∷ es) lawful h =
    granted-same schema base p q f k es lawful.0 (λ id begun. h id (or_right (same_txn txn id) (is_begun id es) begun))
granted-same schema base p q f k (Commits txn ∷ es) lawful h = granted-same schema base p q f k es lawful.0 h
granted-same schema base p q f k (Aborts txn ∷ es) lawful h = granted-same schema base p q f k es lawful.0 h
granted-same schema base p q f k (Gives to field kind amount ∷ es) lawful h = granted-same schema base p q f k es lawful.0 h
granted-same schema base p q f k (Accepts from field kind total ∷ es) lawful h = granted-same schema base p q f k es lawful.0 h
granted-same schema base p q f k (Stops ∷ es) lawful h = granted-same schema base p q f k es lawful.0 h

pub weigh_none : (on p : Bool) (n : ℕ) → p ≡ false → cond (on && p) n 0 ≡ 0
weigh_none true p n h = rw h refl
weigh_none false p n h = refl

weigh_one : (on p : Bool) (n : ℕ) → p ≡ true → cond (on && p) n 0 ≡ cond on n 0
weigh_one true p n h = rw h refl
weigh_one false p n h = refl

weigh_true : (on : Bool) (n : ℕ) → cond (on && true) n 0 ≡ cond on n 0
weigh_true true n = refl
weigh_true false n = refl

eqb-sym : (a b : ℕ) → eqb a b ≡ eqb b a
eqb-sym a b =
    elim (cases_Bool (eqb a b)) [
      | inl same ↦ same ∙ sym (eq-eqb b a (sym (eqb-true a b same)))
      | inr apart ↦ apart ∙ sym (ne_eqb b a (λ e. eqb-false a b apart (sym e)))
    ]

pub same_txn-sym : (a b : TxnId) → same_txn a b ≡ same_txn b a
same_txn-sym a b = rw (eqb-sym a.epoch b.epoch, eqb-sym a.number b.number) refl

-- the escrows of one transaction
abbrev pub of_txn : TxnId → ℕ → Kind → List Effect → ℕ
of_txn txn f k es = granted_sizes (λ id. same_txn txn id) f k es

module _ (schema : SchemaValue) (base : Base) (es : List Effect) (lawful : IsLawful schema base es) (f : ℕ) (k : Kind) where
  pub fate_here : (txn id : TxnId) → is_open txn es ≡ true → same_txn txn id ≡ true → (is_committed id es ≡ false)
      × (is_dropped id es ≡ false)
  fate_here txn id opened same =
      subst (λ (x : TxnId). (is_committed x es ≡ false)
      × (is_dropped x es ≡ false)) (same_txn-true txn id same) (open_parts (is_committed txn es) (is_dropped txn es) opened)

  commit_aborted : (s c d : Bool) → (s ≡ true → d ≡ false) → (not (s || c) && d) ≡ (not c && d)
  commit_aborted true c d h = rw (h refl) (elim c as (λ x. false ≡ (not x && false)) [ true ↦ refl | false ↦ refl ])
  commit_aborted false c d h = refl

  still_open : (s c d : Bool) → (s ≡ true → (c ≡ false) × (d ≡ false)) → (not c && not d) ≡ (s || (not (s || c) && not d))
  still_open true c d h = rw ((h refl).0, (h refl).1) refl
  still_open false c d h = refl

  pub share_commit : (txn : TxnId) → is_open txn es ≡ true
      → share base f k (Commits txn ∷ es) ≡ share base f k es + of_txn txn f (other k) es
  share_commit txn opened =
      omega (
        arith,
        covered schema base es lawful f k,
        granted-or (λ id. same_txn txn id) (λ id. is_committed id es) (λ id same. (fate_here txn id opened same).0) f (other k) es,
        granted-same schema base (λ id. is_aborted id (Commits txn ∷ es)) (λ id. is_aborted id es) f k es lawful
            (λ id begun. commit_aborted (same_txn txn id) (is_committed id es) (is_dropped id es)
            (λ same. (fate_here txn id opened same).1)),
      )

  pub held_commit : (txn : TxnId) → is_open txn es ≡ true → held_rights f k (Commits txn ∷ es) + of_txn txn f k es ≡ held_rights f k es
  held_commit txn opened =
      omega (
        arith,
        granted-same schema base (λ id. is_open id es) (λ id. same_txn txn id || is_open id (Commits txn ∷ es)) f k es lawful
            (λ id begun. still_open (same_txn txn id) (is_committed id es) (is_dropped id es) (fate_here txn id opened)),
        granted-or (λ id. same_txn txn id) (λ id. is_open id (Commits txn ∷ es))
            (λ id same. ap (λ (b : Bool). not (b || is_committed id es) && not (is_dropped id es)) same) f k es,
      )

  abort_aborted : (s c d : Bool) → (s ≡ true → (c ≡ false) × (d ≡ false)) → (not c && (s || d)) ≡ (s || (not c && d))
  abort_aborted true c d h = rw ((h refl).0) refl
  abort_aborted false c d h = refl

  abort_excludes : (s c d : Bool) → (s ≡ true → d ≡ false) → s ≡ true → (not c && d) ≡ false
  abort_excludes s true d h same = refl
  abort_excludes s false d h same = h same

  pub share_abort : (txn : TxnId) → is_open txn es ≡ true → share base f k (Aborts txn ∷ es) ≡ share base f k es + of_txn txn f k es
  share_abort txn opened =
      omega (
        arith,
        covered schema base es lawful f k,
        granted-same schema base (λ id. is_aborted id (Aborts txn ∷ es)) (λ id. same_txn txn id || is_aborted id es) f k es lawful
            (λ id begun. abort_aborted (same_txn txn id) (is_committed id es) (is_dropped id es) (fate_here txn id opened)),
        granted-or (λ id. same_txn txn id) (λ id. is_aborted id es)
            (λ id same. abort_excludes (same_txn txn id) (is_committed id es) (is_dropped id es) (λ s. (fate_here txn id opened s).1) same)
            f k es,
      )

  open_aborted : (s c d : Bool) → (s ≡ true → (c ≡ false) × (d ≡ false)) → (not c && not d) ≡ (s || (not c && not (s || d)))
  open_aborted true c d h = rw ((h refl).0, (h refl).1) refl
  open_aborted false c d h = refl

  dropped_excludes : (s c d : Bool) → s ≡ true → (not c && not (s || d)) ≡ false
  dropped_excludes true true d h = refl
  dropped_excludes true false d h = refl
  dropped_excludes false c d h = cc

  pub held_abort : (txn : TxnId) → is_open txn es ≡ true → held_rights f k (Aborts txn ∷ es) + of_txn txn f k es ≡ held_rights f k es
  held_abort txn opened =
      omega (
        arith,
        granted-same schema base (λ id. is_open id es) (λ id. same_txn txn id || is_open id (Aborts txn ∷ es)) f k es lawful
            (λ id begun. open_aborted (same_txn txn id) (is_committed id es) (is_dropped id es) (fate_here txn id opened)),
        granted-or (λ id. same_txn txn id) (λ id. is_open id (Aborts txn ∷ es))
            (λ id same. dropped_excludes (same_txn txn id) (is_committed id es) (is_dropped id es) same) f k es,
      )

  -- an escrow that is granted is taken from the share and held
  pub share_grant : (txn : TxnId) (e : Escrow) → is_open txn es ≡ true
      → share base f k (Grants txn e.field e.change ∷ es) ≡ share base f k es - takes f k e
  share_grant txn e opened =
      let fate = open_parts (is_committed txn es) (is_dropped txn es) opened in
      let aborted : is_aborted txn es ≡ false = rw (fate.0, fate.1) refl in
      omega (
        arith,
        weigh_none (eqb e.field.0 f && same_kind (kind_of e.change) k) (is_aborted txn es) (unsigned_abs e.change) aborted,
        weigh_none (eqb e.field.0 f && same_kind (kind_of e.change) (other k)) (is_committed txn es) (unsigned_abs e.change) fate.0,
        weigh_true (eqb e.field.0 f && same_kind (kind_of e.change) k) (unsigned_abs e.change),
      )

  pub held_grant : (txn : TxnId) (e : Escrow) → is_open txn es ≡ true
      → held_rights f k (Grants txn e.field e.change ∷ es) ≡ held_rights f k es + takes f k e
  held_grant txn e opened =
      omega (arith, weigh_one (eqb e.field.0 f && same_kind (kind_of e.change) k) (is_open txn es) (unsigned_abs e.change) opened)

  -- a gift leaves the share, and nothing else does
  pub share_give : (to : Option SiteNo) (field : FieldNo) (kind : Kind) (amount : ℕ)
      → share base f k (Gives to field kind amount ∷ es) ≡ share base f k es - cond (eqb field.0 f && same_kind kind k) amount 0
  share_give to field kind amount =
      omega (arith, covered schema base es lawful f k, weigh_true (eqb field.0 f && same_kind kind k) amount)

  -- a gain comes to the share
  pub share_accept : (from : SiteNo) (field : FieldNo) (kind : Kind) (total : ℕ)
      → share base f k (Accepts from field kind total ∷ es) ≡ share base f k es
      + cond (eqb field.0 f && same_kind kind k) (total - total_accepted base from.0 f k es) 0
  share_accept from field kind total = omega (arith, covered schema base es lawful f k)

-- ---- the escrows of one transaction

weigh_case : (on p : Bool) (n : ℕ) → cond (on && p) n 0 ≡ cond p (cond on n 0) 0
weigh_case true true n = refl
weigh_case true false n = refl
weigh_case false true n = refl
weigh_case false false n = refl

sum_by_case : (b : Bool) (f : ℕ) (k : Kind) (e : Escrow) (rest : List Escrow)
    → sum_by (takes f k) (cond b (e ∷ rest) rest) ≡ cond b (takes f k e) 0 + sum_by (takes f k) rest
sum_by_case true f k e rest = sum_by-cons (takes f k) e rest
sum_by_case false f k e rest = omega arith

-- the sum over one transaction is the sum over its escrows
pub of_txn_is : (txn : TxnId) (f : ℕ) (k : Kind) (es : List Effect) → of_txn txn f k es ≡ sum_by (takes f k) (escrows_of txn es)
of_txn_is id f k [] = refl
of_txn_is id f k (Grants txn field change ∷ es) =
    let e : Escrow = record { field = field; change = change } in
    let on = eqb field.0 f && same_kind (kind_of change) k in
    omega (
      arith,
      of_txn_is id f k es,
      weigh_case on (same_txn id txn) (unsigned_abs change),
      sum_by_case (same_txn id txn) f k e (escrows_of id es),
    )
of_txn_is id f k (Begins txn ∷ es) = of_txn_is id f k es
of_txn_is id f k (Commits txn ∷ es) = of_txn_is id f k es
of_txn_is id f k (Aborts txn ∷ es) = of_txn_is id f k es
of_txn_is id f k (Gives to field kind amount ∷ es) = of_txn_is id f k es
of_txn_is id f k (Accepts from field kind total ∷ es) = of_txn_is id f k es
of_txn_is id f k (Stops ∷ es) = of_txn_is id f k es

-- ---- an id that was never begun

not_this : (b : Bool) (t id : TxnId) (es : List Effect) → is_begun t es ≡ true → is_begun id es ≡ false → same_txn t id ≡ false
not_this b t id es there new =
    elim (cases_Bool (same_txn t id)) [
      | inl same ↦ absurd (false≢true (sym new ∙ subst (λ (x : TxnId). is_begun x es ≡ true) (same_txn-true t id same) there))
      | inr apart ↦ apart
    ]

-- what was never begun was neither committed nor aborted, and has no escrow
pub record IsUnused (id : TxnId) (es : List Effect) : Type 0 where
  pub uncommitted : is_committed id es ≡ false
  pub undropped : is_dropped id es ≡ false
  pub no_escrow : escrows_of id es ≡ []

pub new_is_unused : (schema : SchemaValue) (base : Base) (id : TxnId) (es : List Effect) → IsLawful schema base es → is_begun id es ≡ false
    → IsUnused id es
new_is_unused schema base id [] lawful new = record { uncommitted = refl; undropped = refl; no_escrow = refl }
new_is_unused schema base id (Begins txn ∷ es) lawful new =
    let was = new_is_unused schema base id es lawful.0 (or_parts (same_txn txn id) (is_begun id es) new).1 in
    record { uncommitted = was.uncommitted; undropped = was.undropped; no_escrow = was.no_escrow }
new_is_unused schema base id (Grants txn field change ∷ es) lawful new =
    let was = new_is_unused schema base id es lawful.0 new in
    let apart : same_txn id txn ≡ false = same_txn-sym id txn ∙ not_this true txn id es lawful.1.begun new in
    record { uncommitted = was.uncommitted; undropped = was.undropped; no_escrow = rw apart was.no_escrow }
new_is_unused schema base id (Commits txn ∷ es) lawful new =
    let was = new_is_unused schema base id es lawful.0 new in
    let apart = not_this true txn id es lawful.1.0 new in
    record { uncommitted = rw apart was.uncommitted; undropped = was.undropped; no_escrow = was.no_escrow }
new_is_unused schema base id (Aborts txn ∷ es) lawful new =
    let was = new_is_unused schema base id es lawful.0 new in
    let apart = not_this true txn id es lawful.1.0 new in
    record { uncommitted = was.uncommitted; undropped = rw apart was.undropped; no_escrow = was.no_escrow }
new_is_unused schema base id (Gives to field kind amount ∷ es) lawful new =
    let was = new_is_unused schema base id es lawful.0 new in
    record { uncommitted = was.uncommitted; undropped = was.undropped; no_escrow = was.no_escrow }
new_is_unused schema base id (Accepts from field kind total ∷ es) lawful new =
    let was = new_is_unused schema base id es lawful.0 new in
    record { uncommitted = was.uncommitted; undropped = was.undropped; no_escrow = was.no_escrow }
new_is_unused schema base id (Stops ∷ es) lawful new =
    let was = new_is_unused schema base id es lawful.0 new in
    record { uncommitted = was.uncommitted; undropped = rw new was.undropped; no_escrow = was.no_escrow }
