-- All fields, one behind the other, and the past of a base.
use Rattle.std.proofs.Common.{◌≡◌, ◌≢◌, ℕ, zero, suc, ◌≤◌, ◌<◌, ◌==◌, Bool, true, false, cond, List, [], ◌∷◌, ◌++◌, length, refl, sym, ◌∙◌, subst, inl, inr, arith}
use Rattle.std.specs.List.{AllByRecursion}
use Rattle.std.proofs.lemmas.Bool.{cases_eq, lt-ltb, eqb-true, eqb-false}
use Rattle.field_bounds.specs.Schema.{SchemaValue}
use Rattle.field_bounds.specs.Limits.{IsSchema}
use Rattle.kept_records.specs.declared.record.Record.{Record}
use Rattle.kept_records.specs.declared.record.Record.TheVariants.{Restart}
use Rattle.kept_records.specs.Summary.{SummaryValue, same_summary}
use Rattle.kept_records.specs.Text.{IsRecord, IsSummary}
use Rattle.kept_records.specs.Stands.{may_follow, summary_of, Lawful}
use Rattle.kept_records.proofs.Pushes.{greatest_none, given_none, accepted_none, cut_none, greatest_push, given_push, accepted_push, cut_push, lawful_push}
use Rattle.kept_records.proofs.Covering.{own_restart}
use Rattle.kept_records.proofs.Summaries.{summary_refl}
use Rattle.kept_records.proofs.Told.{summary_fits}
use Rattle.log_bases.specs.Bases.{IsPast, IsBalanced}
use Rattle.log_bases.specs.Pasts.{field_past, fields_past, past_of}
use Rattle.log_bases.proofs.Past.{Ready, Elsewhere, all_push}
use Rattle.log_bases.proofs.Moving.{IsDue}
use Rattle.log_bases.proofs.OneField.{AtField, IsFresh, field_done}
use Rattle.log_bases.proofs.Canonical.{told_few, told_placed, gifts_due, accepts_due, StandsFor, summary_again}

-- what the loops read of a balanced base
pub balanced_due : (schema : SchemaValue) (s : ℕ) (base : SummaryValue) → IsBalanced schema s base → (f : ℕ) → f < length schema.fields
    → IsDue schema s base f
balanced_due schema s base is f field_in =
    let fits : IsSummary base = summary_fits base is.in_range in
    let on = is.fields f field_in in
    let gifts = gifts_due schema s base is.form in
    let accepts = accepts_due schema s base is.form in
    record {
      given_few = λ j k. told_few base.gifts fits.gifts j f k;
      given_at = λ j k some. told_placed schema s base.gifts gifts j f k some;
      accepted_few = λ j k. told_few base.accepts fits.accepts j f k;
      accepted_at = λ j k some. told_placed schema s base.accepts accepts j f k some;
      within = on.within;
      balanced = on.balanced;
      still = on.still;
    }

module _ (schema : SchemaValue) (good : IsSchema schema) (s : ℕ) (site_in : s < schema.sites) (base : SummaryValue)
    (is : IsBalanced schema s base) where
  -- the first n fields are as the base tells, and nothing happened on the others
  pub record Fields (n : ℕ) (rs : List Record) : Type 0 where
    pub ready : Ready schema good s site_in rs
    pub done : (g : ℕ) → g < n → AtField schema s base g rs
    pub fresh : (g : ℕ) → n ≤ g → IsFresh g rs

  at_still : (f g : ℕ) (rs bs : List Record) → Elsewhere schema good s site_in f rs bs → g ≢ f → AtField schema s base g rs
      → AtField schema s base g bs
  at_still f g rs bs e apart at = record {
    own = λ k. e.own g k apart ∙ at.own k;
    cut = λ k. e.cut g k apart ∙ at.cut k;
    given = λ j k below. e.given j g k apart ∙ at.given j k below;
    accepted = λ j k below. e.accepted j g k apart ∙ at.accepted j k below;
  }

  fresh_still : (f g : ℕ) (rs bs : List Record) → Elsewhere schema good s site_in f rs bs → g ≢ f → IsFresh g rs → IsFresh g bs
  fresh_still f g rs bs e apart fresh = record {
    cut = λ k. e.cut g k apart ∙ fresh.cut k;
    given = λ j k. e.given j g k apart ∙ fresh.given j k;
    accepted = λ j k. e.accepted j g k apart ∙ fresh.accepted j k;
  }

  pub all_fields : (n : ℕ) → n ≤ length schema.fields → Fields n (fields_past n schema s base)
  unfolding fields_past
  all_fields zero le = record {
    ready = record { lawful = tt; each = tt; epoch = greatest_none };
    done = λ g below. absurd (omega (arith, below));
    fresh = λ g at. record { cut = λ k. cut_none g k; given = λ j k. given_none j g k; accepted = λ j k. accepted_none j g k };
  }
  all_fields (suc n) le =
      let rs = fields_past n schema s base in
      let before = all_fields n (omega (arith, le)) in
      let field_in : n < length schema.fields = omega (arith, le) in
      let one = field_done schema good s site_in base n field_in (balanced_due schema s base is n field_in) rs before.ready
      (before.fresh n (omega arith)) in
      let bs = field_past schema s base n rs in
      record {
        ready = one.ready;
        done = λ g below. elim (cases_eq g n) [
          | inl same ↦ subst (λ (x : ℕ). AtField schema s base x bs) (sym same) one.at
          | inr apart ↦ at_still n g rs bs one.elsewhere apart (before.done g (omega (arith, below, apart)))
        ];
        fresh = λ g at. fresh_still n g rs bs one.elsewhere (omega (arith, at)) (before.fresh g (omega (arith, at)));
      }

  -- ---- the restart, and the base itself

  behind : (rs : List Record) → Lawful schema s rs → AllByRecursion IsRecord rs → StandsFor schema s base rs → IsPast schema s base rs
  behind rs lawful each stands =
      let same : base ≡ summary_of schema s rs = is.form ∙ sym (summary_again schema s base rs stands) in
      record {
        each = each;
        lawful = lawful;
        told = subst (λ (v : SummaryValue). same_summary base v ≡ true) same (summary_refl base);
      }

  pub past_is : IsPast schema s base (past_of schema s base)
  unfolding past_of
  past_is = by (base.epoch == 0) refl
    where
      m : ℕ
      m = length schema.fields

      by : (b : Bool) → (base.epoch == 0) ≡ b
          → IsPast schema s base (cond b (fields_past (length schema.fields) schema s base)
          (fields_past (length schema.fields) schema s base ++ Restart base.epoch ∷ []))
      by true e =
          let rs = fields_past (length schema.fields) schema s base in
          let all = all_fields (length schema.fields) (omega arith) in
          behind rs all.ready.lawful all.ready.each (record {
            epoch = omega (arith, all.ready.epoch, eqb-true _ _ e);
            own = λ f k below. (all.done f below).own k;
            cut = λ f k below. (all.done f below).cut k;
            given = λ r f k below apart in_fields. (all.done f in_fields).given r k below;
            accepted = λ r f k below apart in_fields. (all.done f in_fields).accepted r k below;
          })
      by false e =
          let rs = fields_past (length schema.fields) schema s base in
          let all = all_fields (length schema.fields) (omega arith) in
          let fits : IsSummary base = summary_fits base is.in_range in
          let some : 0 < base.epoch = omega (arith, eqb-false _ _ e) in
          let r : Record = Restart base.epoch in
          let may : may_follow schema s rs r ≡ true = lt-ltb _ _ (omega (arith, some, all.ready.epoch)) in
          behind (rs ++ r ∷ []) (lawful_push schema s rs r all.ready.lawful may) (all_push IsRecord rs r all.ready.each (some, fits.epoch)) (record {
            epoch = omega (arith, greatest_push rs r, all.ready.epoch);
            own = λ f k below. own_restart schema s rs all.ready.lawful base.epoch may f k ∙ (all.done f below).own k;
            cut = λ f k below. cut_push f k rs r ∙ (all.done f below).cut k;
            given = λ j f k below apart in_fields. given_push j f k rs r ∙ (all.done f in_fields).given j k below;
            accepted = λ j f k below apart in_fields. accepted_push j f k rs r ∙ (all.done f in_fields).accepted j k below;
          })
