-- Records that agree with what took effect: the same totals, and the same sizes committed.
use Rattle.std.proofs.Common.{◌≡◌, ℕ, ◌+◌, ◌≤◌, max, Bool, true, false, ◌&&◌, cond, List, [], ◌∷◌, ◌++◌, length, reverse, refl, sym, ◌∙◌, ap, arith, eqb, Some, None}
use Rattle.std.proofs.lemmas.Grind.{reverse_onto}
use Rattle.std.proofs.lemmas.List.Sums.{sum_by_push, sum_by-cons}
use Rattle.std.specs.Prelude.{ℤ, sum_by}
use Rattle.field_bounds.specs.declared.kind.Kind.{Kind}
use Rattle.field_bounds.specs.declared.id.TxnId.{TxnId}
use Rattle.field_bounds.specs.declared.id.SiteNo.{SiteNo}
use Rattle.field_bounds.specs.declared.id.FieldNo.{FieldNo}
use Rattle.field_bounds.specs.declared.entry.Escrow.{Escrow}
use Rattle.kept_records.specs.declared.record.Record.{Record}
use Rattle.kept_records.specs.declared.record.Record.TheVariants.{Commit, Gift, Accept, Tighten, Restart}
use Rattle.field_bounds.specs.Schema.{SchemaValue}
use Rattle.field_bounds.specs.Kind.{other, same_kind}
use Rattle.field_bounds.specs.declared.effect.Effect.{Effect}
use Rattle.field_bounds.specs.declared.effect.Effect.TheVariants.{Begins, Grants, Commits, Aborts, Gives, Accepts, Stops}
use Rattle.field_bounds.specs.Effects.{Base, escrows_of, takes, is_to, is_for_good, gifts, total_given, cut, total_accepted, own_rights}
use Rattle.field_bounds.specs.Owed.{count_escrows}
use Rattle.kept_records.specs.Stands.{given_in, accepted_in, cut_in, committed_in, own_in, gained_in, spent_in}
use Rattle.kept_state.specs.Keeps.{IsBase}
use Rattle.field_bounds.proofs.Lawful.{IsLawful}
use Rattle.field_bounds.proofs.Sums.{sum_below-same, sum_below-add}
use Rattle.field_bounds.proofs.Shares.{balance, gifts_split, gains_split}
use Rattle.field_bounds.proofs.Steps.{of_txn, of_txn_is}
use Rattle.field_bounds.proofs.Stops.{kept_sizes, kept_is_committed}
use Rattle.kept_records.proofs.Pushes.{given_push, accepted_push, cut_push, committed_push}
use Rattle.kept_records.proofs.Covering.{on_field, key, at_key}

-- ---- the escrows of one transaction

sum_reversed : {A : Type 0} (size : A → ℕ) (xs : List A) → sum_by size (reverse xs) ≡ sum_by size xs
sum_reversed size [] = refl
sum_reversed size (x ∷ xs) =
    omega (arith, ap (sum_by size) (reverse_onto xs x []), sum_by_push size (reverse xs) x, sum_reversed size xs, sum_by-cons size x xs)

-- the sum over one transaction is the sum over its escrows, as its record lists them
pub of_txn_kept : (txn : TxnId) (f : ℕ) (k : Kind) (es : List Effect) → of_txn txn f k es ≡ sum_by (takes f k) (reverse (escrows_of txn es))
of_txn_kept txn f k es = omega (arith, of_txn_is txn f k es, sum_reversed (takes f k) (escrows_of txn es))

sum_of_none : (f : ℕ) (k : Kind) (xs : List Escrow) → length xs ≡ 0 → sum_by (takes f k) xs ≡ 0
sum_of_none f k [] h = refl
sum_of_none f k (x ∷ xs) h = absurd (omega (arith, h))

-- a transaction without escrows takes nothing
of_txn-none : (txn : TxnId) (f : ℕ) (k : Kind) (es : List Effect) → count_escrows txn es ≡ 0 → of_txn txn f k es ≡ 0
of_txn-none txn f k es h = of_txn_is txn f k es ∙ sum_of_none f k (escrows_of txn es) h

-- ---- records that agree with effects

-- the totals and the committed sizes of the effects are those of the records
pub record Agree (base : Base) (bs : List Record) (es : List Effect) (rs : List Record) : Type 0 where
  pub gives : (to f : ℕ) (k : Kind) → total_given base to f k es ≡ given_in rs to f k
  pub accepts : (from f : ℕ) (k : Kind) → total_accepted base from f k es ≡ accepted_in rs from f k
  pub cuts : (f : ℕ) (k : Kind) → cut base f k es ≡ cut_in rs f k
  pub commits : (f : ℕ) (k : Kind) → committed_in f k bs + kept_sizes f k es ≡ committed_in f k rs

pub agree_start : (schema : SchemaValue) (s : ℕ) (base : Base) (bs : List Record) → IsBase schema s base bs → Agree base bs [] bs
agree_start schema s base bs is =
    record {
      gives = λ to f k. omega (arith, is.given to f k);
      accepts = λ from f k. is.accepted from f k;
      cuts = λ f k. omega (arith, is.cut f k);
      commits = λ f k. omega arith;
    }

give_step : (on : Bool) (amount before total inside start : ℕ) → (on ≡ true → total ≡ before + amount) → start + inside ≡ before
    → start + (cond on amount 0 + inside) ≡ cond on (max total before) before
give_step true amount before total inside start h is = omega (arith, h refl, is)
give_step false amount before total inside start h is = omega (arith, is)

no_weight : (on : Bool) (n : ℕ) → cond (on && false) n 0 ≡ 0
no_weight true n = refl
no_weight false n = refl

whole_weight : (on : Bool) (n : ℕ) → cond (on && true) n 0 ≡ cond on n 0
whole_weight true n = refl
whole_weight false n = refl

accept_step : (on : Bool) (total before : ℕ) → (on ≡ true → total ≤ before) → cond on (max total before) before ≡ before
accept_step true total before h = omega (arith, h refl)
accept_step false total before h = refl

module _ (base : Base) (bs : List Record) (es : List Effect) (rs : List Record) (agree : Agree base bs es rs) where
  pub agree_commit : (txn : TxnId) → Agree base bs (Commits txn ∷ es) (rs ++ Commit txn (reverse (escrows_of txn es)) ∷ [])
  agree_commit txn =
      let r : Record = Commit txn (reverse (escrows_of txn es)) in
      record {
        gives = λ to f k. agree.gives to f k ∙ sym (given_push to f k rs r);
        accepts = λ from f k. agree.accepts from f k ∙ sym (accepted_push from f k rs r);
        cuts = λ f k. agree.cuts f k ∙ sym (cut_push f k rs r);
        commits = λ f k. omega (arith, agree.commits f k, committed_push f k rs r, of_txn_kept txn f k es);
      }

  pub agree_empty : (txn : TxnId) → count_escrows txn es ≡ 0 → Agree base bs (Commits txn ∷ es) rs
  agree_empty txn none =
      record {
        gives = λ to f k. agree.gives to f k;
        accepts = λ from f k. agree.accepts from f k;
        cuts = λ f k. agree.cuts f k;
        commits = λ f k. omega (arith, agree.commits f k, of_txn-none txn f k es none);
      }

  pub agree_give : (to : SiteNo) (field : FieldNo) (kind : Kind) (amount total : ℕ) → total ≡ total_given base to.0 field.0 kind es + amount
      → Agree base bs (Gives (Some to) field kind amount ∷ es) (rs ++ Gift to field kind total ∷ [])
  agree_give to field kind amount total is =
      let r : Record = Gift to field kind total in
      record {
        gives = λ site f k. give_step (key field.0 kind to.0 f k site) amount (given_in rs site f k) total (gifts (is_to site) f k es)
            (base.given site f k)
            (λ on. omega (arith, is, at_key (λ x y z. total_given base x y z es) field.0 kind to.0 f k site on, agree.gives site f k))
            (agree.gives site f k)
            ∙ sym (given_push site f k rs r);
        accepts = λ from f k. agree.accepts from f k ∙ sym (accepted_push from f k rs r);
        cuts = λ f k. omega (arith, agree.cuts f k, cut_push f k rs r, no_weight (eqb field.0 f && same_kind kind k) amount);
        commits = λ f k. omega (arith, agree.commits f k, committed_push f k rs r);
      }

  pub agree_cut : (field : FieldNo) (kind : Kind) (amount total : ℕ) → total ≡ cut base field.0 kind es + amount
      → Agree base bs (Gives None field kind amount ∷ es) (rs ++ Tighten field kind total ∷ [])
  agree_cut field kind amount total is =
      let r : Record = Tighten field kind total in
      record {
        gives = λ site f k. omega (
          arith,
          agree.gives site f k,
          given_push site f k rs r,
          no_weight (eqb field.0 f && same_kind kind k) amount,
        );
        accepts = λ from f k. agree.accepts from f k ∙ sym (accepted_push from f k rs r);
        cuts = λ f k.
            let on = eqb field.0 f && same_kind kind k in
            omega (
              arith,
              give_step on amount (cut_in rs f k) total (gifts is_for_good f k es) (base.cut f k)
                  (λ here. omega (arith, is, on_field (λ x y. cut base x y es) field.0 f kind k here, agree.cuts f k)) (agree.cuts f k),
              whole_weight on amount,
              cut_push f k rs r,
            );
        commits = λ f k. omega (arith, agree.commits f k, committed_push f k rs r);
      }

  pub agree_accept : (from : SiteNo) (field : FieldNo) (kind : Kind) (total : ℕ)
      → Agree base bs (Accepts from field kind total ∷ es) (rs ++ Accept from field kind total ∷ [])
  agree_accept from field kind total =
      let r : Record = Accept from field kind total in
      record {
        gives = λ to f k. agree.gives to f k ∙ sym (given_push to f k rs r);
        accepts = λ site f k. ap (λ (n : ℕ). cond (key field.0 kind from.0 f k site) (max total n) n) (agree.accepts site f k)
            ∙ sym (accepted_push site f k rs r);
        cuts = λ f k. agree.cuts f k ∙ sym (cut_push f k rs r);
        commits = λ f k. omega (arith, agree.commits f k, committed_push f k rs r);
      }

  pub agree_repeat : (from : SiteNo) (field : FieldNo) (kind : Kind) (total : ℕ) → total ≤ total_accepted base from.0 field.0 kind es
      → Agree base bs (Accepts from field kind total ∷ es) rs
  agree_repeat from field kind total old =
      record {
        gives = λ to f k. agree.gives to f k;
        accepts = λ site f k. accept_step (key field.0 kind from.0 f k site) total (total_accepted base site f k es)
            (λ on. omega (arith, old, at_key (λ x y z. total_accepted base x y z es) field.0 kind from.0 f k site on))
            ∙ agree.accepts site f k;
        cuts = λ f k. agree.cuts f k;
        commits = λ f k. agree.commits f k;
      }

  pub agree_restart : (epoch : ℕ) → Agree base bs es (rs ++ Restart epoch ∷ [])
  agree_restart epoch =
      let r : Record = Restart epoch in
      record {
        gives = λ to f k. agree.gives to f k ∙ sym (given_push to f k rs r);
        accepts = λ from f k. agree.accepts from f k ∙ sym (accepted_push from f k rs r);
        cuts = λ f k. agree.cuts f k ∙ sym (cut_push f k rs r);
        commits = λ f k. omega (arith, agree.commits f k, committed_push f k rs r);
      }

  -- nothing but gifts, gains and commits counts
  pub agree_begin : (txn : TxnId) → Agree base bs (Begins txn ∷ es) rs
  agree_begin txn = record { gives = agree.gives; accepts = agree.accepts; cuts = agree.cuts; commits = agree.commits }

  pub agree_grant : (txn : TxnId) (field : FieldNo) (change : ℤ) → Agree base bs (Grants txn field change ∷ es) rs
  agree_grant txn field change = record { gives = agree.gives; accepts = agree.accepts; cuts = agree.cuts; commits = agree.commits }

  pub agree_abort : (txn : TxnId) → Agree base bs (Aborts txn ∷ es) rs
  agree_abort txn = record { gives = agree.gives; accepts = agree.accepts; cuts = agree.cuts; commits = agree.commits }

  pub agree_stop : Agree base bs (Stops ∷ es) rs
  agree_stop = record { gives = agree.gives; accepts = agree.accepts; cuts = agree.cuts; commits = agree.commits }

  -- the own rights are what the records stand for
  pub rights_agree : (schema : SchemaValue) (s : ℕ) → IsBase schema s base bs → IsLawful schema base es → (f : ℕ) (k : Kind)
      → own_rights base f k es + spent_in schema rs f k ≡ gained_in schema s rs f k
  rights_agree schema s is lawful f k =
      omega (
        arith,
        balance schema base es lawful f k,
        kept_is_committed schema base es lawful f k,
        kept_is_committed schema base es lawful f (other k),
        gifts_split schema base es lawful f k,
        gains_split schema base es lawful f k,
        agree.commits f k,
        agree.commits f (other k),
        is.rights f k,
        agree.cuts f k,
        is.cut f k,
        sum_below-same schema.sites (λ to. total_given base to f k es) (λ to. given_in rs to f k) (λ to below. agree.gives to f k),
        sum_below-same schema.sites (λ to. base.given to f k) (λ to. given_in bs to f k) (λ to below. is.given to f k),
        sum_below-add schema.sites (λ to. base.given to f k) (λ to. gifts (is_to to) f k es),
        sum_below-same schema.sites (λ from. total_accepted base from f k es) (λ from. accepted_in rs from f k)
            (λ from below. agree.accepts from f k),
        sum_below-same schema.sites (λ from. base.accepted from f k) (λ from. accepted_in bs from f k) (λ from below. is.accepted from f k),
      )

  pub own_is_kept : (schema : SchemaValue) (s : ℕ) → IsBase schema s base bs → IsLawful schema base es → (f : ℕ) (k : Kind)
      → own_rights base f k es ≡ own_in schema s rs f k
  unfolding own_in
  own_is_kept schema s is lawful f k = omega (arith, rights_agree schema s is lawful f k)
