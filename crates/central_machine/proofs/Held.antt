-- What a site holds is what the escrows of its open transactions take.
use Rattle.std.proofs.Common.{◌≡◌, ℕ, Bool, true, false, ◌&&◌, cond, List, [], ◌∷◌, ◌++◌, reverse, filter, refl, sym, ap, ◌∙◌, subst, inl, inr, arith}
use Rattle.std.specs.List.{list_any}
use Rattle.std.proofs.lemmas.Bool.{cases_Bool, false≢true, or_parts, or_left, or_right, and_parts, eq-eqb}
use Rattle.std.proofs.lemmas.List.Sums.{sum_by-append}
use Rattle.field_bounds.specs.declared.kind.Kind.{Kind}
use Rattle.field_bounds.specs.declared.id.TxnId.{TxnId}
use Rattle.field_bounds.specs.declared.effect.Effect.{Effect}
use Rattle.field_bounds.specs.declared.effect.Effect.TheVariants.{Begins, Grants, Commits, Aborts, Gives, Accepts, Stops}
use Rattle.field_bounds.specs.Schema.{SchemaValue}
use Rattle.field_bounds.specs.Effects.{Base, same_txn, begun_txns, open_txns, is_begun, is_open, takes, granted_sizes, held_rights}
use Rattle.field_bounds.proofs.Lawful.{IsLawful, same_txn-true}
use Rattle.field_bounds.proofs.Lists.{reverse-cons, list_any-reverse}
use Rattle.field_bounds.proofs.Opening.{any_open}
use Rattle.field_bounds.proofs.Steps.{same_txn-sym, of_txn, granted-or, granted-same}
use Rattle.central_machine.specs.declared.journal.OpenRow.{OpenRow}
use Rattle.central_machine.specs.Open.{txns_of, escrows_at, all_escrows}
use Rattle.central_machine.specs.Rising.{is_among}
use Rattle.central_machine.specs.Running.{sizes_taken}
use Rattle.central_machine.proofs.Apart.{among_more}
use Rattle.central_machine.proofs.Opened.{AreOpen, taken_at}

-- ---- no transaction is open twice

abbrev AreApart : List TxnId → Type 0
AreApart [] = Unit {0}
AreApart (t ∷ ts) = (is_among t ts ≡ false) × AreApart ts

apart_begun : (schema : SchemaValue) (base : Base) (all es : List Effect) → IsLawful schema base es
    → AreApart (filter (λ id. is_open id all) (begun_txns es))
apart_begun schema base all [] lawful = tt
apart_begun schema base all (Begins txn ∷ es) lawful =
    let rest = apart_begun schema base all es lawful.0 in
    elim (cases_Bool (is_open txn all)) [
      | inl opened ↦ rw opened (any_open txn es all ∙ ap (λ (b : Bool). b && is_open txn all) lawful.1, rest)
      | inr closed ↦ rw closed rest
    ]
apart_begun schema base all (Grants txn field change ∷ es) lawful = apart_begun schema base all es lawful.0
apart_begun schema base all (Commits txn ∷ es) lawful = apart_begun schema base all es lawful.0
apart_begun schema base all (Aborts txn ∷ es) lawful = apart_begun schema base all es lawful.0
apart_begun schema base all (Gives to field kind amount ∷ es) lawful = apart_begun schema base all es lawful.0
apart_begun schema base all (Accepts from field kind total ∷ es) lawful = apart_begun schema base all es lawful.0
apart_begun schema base all (Stops ∷ es) lawful = apart_begun schema base all es lawful.0

apart_behind : (ts : List TxnId) (t : TxnId) → AreApart ts → is_among t ts ≡ false → AreApart (ts ++ t ∷ [])
apart_behind [] t apart alone = (refl, tt)
apart_behind (x ∷ xs) t apart alone =
    let parts = or_parts (same_txn x t) (is_among t xs) alone in
    (among_more x xs t apart.0 (same_txn-sym t x ∙ parts.0), apart_behind xs t apart.1 parts.1)

apart_back : (ts : List TxnId) → AreApart ts → AreApart (reverse ts)
apart_back [] apart = tt
apart_back (t ∷ ts) apart =
    subst AreApart (sym (reverse-cons t ts))
    (apart_behind (reverse ts) t (apart_back ts apart.1) (list_any-reverse (λ (u : TxnId). same_txn u t) ts ∙ apart.0))

-- ---- row after row

same_itself : (t : TxnId) → same_txn t t ≡ true
same_itself t = rw (eq-eqb t.epoch t.epoch refl, eq-eqb t.number t.number refl) refl

module _ (f : ℕ) (k : Kind) (es : List Effect) where
  none_granted : granted_sizes (λ _. false) f k es ≡ 0
  none_granted = omega (arith, granted-or (λ _. false) (λ _. false) (λ id h. refl) f k es)

  by_rows : (rows : List OpenRow) → AreApart (txns_of rows)
      → ((t : TxnId) → is_among t (txns_of rows) ≡ true → sizes_taken f k (escrows_at t rows) ≡ of_txn t f k es)
      → sizes_taken f k (all_escrows rows) ≡ granted_sizes (λ id. is_among id (txns_of rows)) f k es
  by_rows [] apart each = sym none_granted
  by_rows (r ∷ rs) apart each =
      let itself = same_itself r.txn in
      let here : sizes_taken f k r.escrows.items ≡ of_txn r.txn f k es =
      sym (ap (λ (b : Bool). sizes_taken f k (cond b r.escrows.items (escrows_at r.txn rs))) itself)
      ∙ each r.txn (or_left (same_txn r.txn r.txn) (is_among r.txn (txns_of rs)) itself) in
      let other : (t : TxnId) → is_among t (txns_of rs) ≡ true → same_txn r.txn t ≡ false = λ t there.
      elim (cases_Bool (same_txn r.txn t)) [
        | inl same ↦
            let is = same_txn-true r.txn t same in
            absurd (false≢true (sym apart.0 ∙ ap (λ (x : TxnId). is_among x (txns_of rs)) is ∙ there))
        | inr differs ↦ differs
      ] in
      let later = by_rows rs apart.1 (λ t there.
      sym (ap (λ (b : Bool). sizes_taken f k (cond b r.escrows.items (escrows_at t rs))) (other t there))
      ∙ each t (or_right (same_txn r.txn t) (is_among t (txns_of rs)) there)) in
      omega (
        arith,
        sum_by-append (takes f k) r.escrows.items (all_escrows rs),
        here,
        later,
        granted-or (λ id. same_txn r.txn id) (λ id. is_among id (txns_of rs))
            (λ id same. ap (λ (x : TxnId). is_among x (txns_of rs)) (sym (same_txn-true r.txn id same)) ∙ apart.0) f k es,
      )

module _ (es : List Effect) (rows : List OpenRow) (are : AreOpen es rows) (schema : SchemaValue) (base : Base)
    (lawful : IsLawful schema base es) where
  among_open : (t : TxnId) → is_among t (txns_of rows) ≡ (is_begun t es && is_open t es)
  among_open t =
      ap (list_any (λ (u : TxnId). same_txn u t)) are.txns ∙ list_any-reverse (λ (u : TxnId). same_txn u t) (open_txns es) ∙ any_open t es es

  -- the escrows of all rows take what is held
  pub all_held : (f : ℕ) (k : Kind) → sizes_taken f k (all_escrows rows) ≡ held_rights f k es
  all_held f k =
      by_rows f k es rows (subst AreApart (sym are.txns) (apart_back (open_txns es) (apart_begun schema base es es lawful)))
      (λ t there.
      let parts = and_parts (is_begun t es) (is_open t es) (sym (among_open t) ∙ there) in
      taken_at es rows are t parts.0 parts.1 f k)
      ∙ granted-same schema base (λ id. is_among id (txns_of rows)) (λ id. is_open id es) f k es lawful
      (λ id begun. among_open id ∙ ap (λ (b : Bool). b && is_open id es) begun)
