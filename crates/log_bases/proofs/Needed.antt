-- A summary that has a past balances.
use Rattle.std.proofs.Common.{◌≡◌, ℕ, ◌<◌, ◌==◌, max, Bool, true, false, not, ◌&&◌, List, [], ◌∷◌, ◌++◌, length, append_assoc, refl, sym, ◌∙◌, subst, inl, inr, arith, eqb}
use Rattle.std.specs.Prelude.{nat_lt}
use Rattle.std.proofs.lemmas.Bool.{and_parts, cases_eq, eq-eqb}
use Rattle.std.proofs.lemmas.List.{append-nil}
use Rattle.field_bounds.specs.declared.kind.Kind.{Kind}
use Rattle.field_bounds.specs.declared.kind.Kind.TheVariants.{Lower, Raise}
use Rattle.field_bounds.specs.Kind.{same_kind}
use Rattle.field_bounds.specs.Schema.{SchemaValue}
use Rattle.field_bounds.specs.Limits.{IsSchema}
use Rattle.field_bounds.specs.Parts.{field_at, width_of, sum_below}
use Rattle.field_bounds.proofs.Sums.{sum_below-same, sum_below-zero}
use Rattle.kept_records.specs.declared.record.Record.{Record}
use Rattle.kept_records.specs.declared.record.Record.TheVariants.{Commit, Gift, Accept, Tighten, Restart, Summary}
use Rattle.kept_records.specs.Summary.{SummaryValue, total_told}
use Rattle.kept_records.specs.Summaries.{TellsOf}
use Rattle.kept_records.specs.Text.{IsSummary}
use Rattle.kept_records.specs.Stands.{given_more, given_in, accepted_in, own_in, is_field, is_other_site, may_follow, summary_of, LawfulBehind, Lawful}
use Rattle.kept_records.proofs.Pushes.{given_none, given_push, lawful_push}
use Rattle.kept_records.proofs.Covering.{key, on_field, own_whole, own_within, gift_parts}
use Rattle.kept_records.proofs.Told.{summary_equal, summary_tells}
use Rattle.log_replay.proofs.Rising.{summary_fits}
use Rattle.log_bases.specs.Bases.{IsPast, IsBalanced}
use Rattle.log_bases.proofs.Outside.{stays, given_outside, accepted_outside}
use Rattle.log_bases.proofs.Canonical.{told_placed, summary_again}

not_zero : (n : ℕ) → (0 < n → ⊥) → n ≡ 0
not_zero n h = elim (cases_eq n 0) [ inl none ↦ none | inr some ↦ absurd (h (omega (arith, some))) ]

module _ (schema : SchemaValue) (good : IsSchema schema) (s : ℕ) (site_in : s < schema.sites) where
  -- ---- on a field of no width nothing is given

  module _ (to f : ℕ) (k : Kind) (narrow : width_of (field_at schema f) ≡ 0) where
    none_owned : (front : List Record) → Lawful schema s front → (k' : Kind) → own_in schema s front f k' ≡ 0
    none_owned front lawful Lower = omega (arith, narrow, own_within schema good s site_in front lawful f)
    none_owned front lawful Raise = omega (arith, narrow, own_within schema good s site_in front lawful f)

    still_step : (front : List Record) → Lawful schema s front → (r : Record) → may_follow schema s front r ≡ true → (n : ℕ)
        → given_more to f k n r ≡ n
    still_step front lawful (Commit txn escrows) may n = refl
    still_step front lawful (Gift site field kind total) may n =
        let parts = gift_parts schema s front site field kind total may in
        stays (key field.0 kind site.0 f k to) (max total n) n (λ same.
        let on = and_parts (eqb field.0 f && same_kind kind k) (eqb site.0 to) same in
        let none : own_in schema s front field.0 kind ≡ 0 =
        on_field (λ x z. own_in schema s front x z) field.0 f kind k on.0 ∙ none_owned front lawful k in
        omega (arith, parts.1, parts.2, none))
    still_step front lawful (Accept site field kind total) may n = refl
    still_step front lawful (Tighten field kind total) may n = refl
    still_step front lawful (Restart epoch) may n = refl
    still_step front lawful (Summary epoch rights gifts accepts tightenings) may n = refl

    still_behind : (front rs : List Record) → Lawful schema s front → given_in front to f k ≡ 0 → LawfulBehind schema s front rs
        → given_in (front ++ rs) to f k ≡ 0
    still_behind front [] before zero lawful = subst (λ (all : List Record). given_in all to f k ≡ 0) (sym (append-nil front)) zero
    still_behind front (r ∷ rs) before zero lawful =
        subst (λ (all : List Record). given_in all to f k ≡ 0) (append_assoc front (r ∷ []) rs)
        (still_behind (front ++ r ∷ []) rs (lawful_push schema s front r before lawful.0)
        (given_push to f k front r ∙ still_step front before r lawful.0 (given_in front to f k) ∙ zero) lawful.1)

    pub none_given : (rs : List Record) → Lawful schema s rs → given_in rs to f k ≡ 0
    none_given rs lawful = still_behind [] rs tt (given_none to f k) lawful

  -- ---- a base with a past

  module _ (base : SummaryValue) (past : List Record) (is : IsPast schema s base past) where
    same : base ≡ summary_of schema s past
    same = summary_equal base (summary_of schema s past) is.told

    pub past_tells : TellsOf schema s base past
    past_tells = subst (λ (x : SummaryValue). TellsOf schema s x past) (sym same) (summary_tells schema s past)

    not_own : (f : ℕ) → (is_other_site schema s s && is_field schema f) ≡ false
    not_own f = rw (eq-eqb s s refl) (by (nat_lt s schema.sites) (is_field schema f))
      where
        by : (a b : Bool) → ((a && false) && b) ≡ false
        by true b = refl
        by false b = refl

    not_other : is_other_site schema s s ≡ true → ⊥
    not_other h =
        let here : (s == s) ≡ true = eq-eqb s s refl in
        let parts = and_parts (nat_lt s schema.sites) (not (s == s)) h in
        absurd (by (s == s) here parts.1)
      where
        by : (b : Bool) → b ≡ true → not b ≡ true → ⊥
        by true e h = absurd cc
        by false e h = absurd cc

    given_is : (f : ℕ) → f < length schema.fields → (j : ℕ) (k : Kind) → j < schema.sites
        → total_told base.gifts j f k ≡ given_in past j f k
    given_is f field_in j k below =
        elim (cases_eq j s) [
          | inl own ↦ subst (λ (x : ℕ). total_told base.gifts x f k ≡ given_in past x f k) (sym own)
              (not_zero (total_told base.gifts s f k)
              (λ some. not_other (told_placed schema s base.gifts past_tells.gifts_placed s f k some))
              ∙ sym (given_outside schema s s f k (not_own f) past is.lawful))
          | inr apart ↦ past_tells.given j f k below apart field_in
        ]

    accepted_is : (f : ℕ) → f < length schema.fields → (j : ℕ) (k : Kind) → j < schema.sites
        → total_told base.accepts j f k ≡ accepted_in past j f k
    accepted_is f field_in j k below =
        elim (cases_eq j s) [
          | inl own ↦ subst (λ (x : ℕ). total_told base.accepts x f k ≡ accepted_in past x f k) (sym own)
              (not_zero (total_told base.accepts s f k)
              (λ some. not_other (told_placed schema s base.accepts past_tells.accepts_placed s f k some))
              ∙ sym (accepted_outside schema s s f k (not_own f) past is.lawful))
          | inr apart ↦ past_tells.accepted j f k below apart field_in
        ]

    given_sum : (f : ℕ) → f < length schema.fields → (k : Kind)
        → sum_below schema.sites (λ j. total_told base.gifts j f k) ≡ sum_below schema.sites (λ j. given_in past j f k)
    given_sum f field_in k = sum_below-same schema.sites (λ j. total_told base.gifts j f k) (λ j. given_in past j f k)
        (λ j below. given_is f field_in j k below)

    accepted_sum : (f : ℕ) → f < length schema.fields → (k : Kind)
        → sum_below schema.sites (λ j. total_told base.accepts j f k) ≡ sum_below schema.sites (λ j. accepted_in past j f k)
    accepted_sum f field_in k = sum_below-same schema.sites (λ j. total_told base.accepts j f k) (λ j. accepted_in past j f k)
        (λ j below. accepted_is f field_in j k below)

    pub past_balances : IsBalanced schema s base
    past_balances = record {
      in_range = subst (λ (v : SummaryValue). IsSummary v) (sym same) (summary_fits schema s past good site_in is.lawful is.each);
      form = same ∙ summary_again schema s base past (record {
        epoch = sym past_tells.epoch;
        own = λ f k below. sym (past_tells.rights f k below);
        cut = λ f k below. sym (past_tells.cut f k below);
        given = λ r f k below apart in_fields. sym (past_tells.given r f k below apart in_fields);
        accepted = λ r f k below apart in_fields. sym (past_tells.accepted r f k below apart in_fields);
      });
      fields = λ f below. record {
        within = omega (
          arith,
          own_within schema good s site_in past is.lawful f,
          past_tells.rights f Lower below,
          past_tells.rights f Raise below,
          past_tells.cut f Lower below,
          past_tells.cut f Raise below,
        );
        balanced = omega (
          arith,
          own_whole schema s past is.lawful f Lower,
          own_whole schema s past is.lawful f Raise,
          past_tells.rights f Lower below,
          past_tells.rights f Raise below,
          past_tells.cut f Lower below,
          past_tells.cut f Raise below,
          given_sum f below Lower,
          given_sum f below Raise,
          accepted_sum f below Lower,
          accepted_sum f below Raise,
        );
        still = λ narrow. omega (
          arith,
          given_sum f below Lower,
          given_sum f below Raise,
          sum_below-same schema.sites (λ j. given_in past j f Lower) (λ j. 0) (λ j at. none_given j f Lower narrow past is.lawful),
          sum_below-same schema.sites (λ j. given_in past j f Raise) (λ j. 0) (λ j at. none_given j f Raise narrow past is.lawful),
          sum_below-zero schema.sites,
        );
      };
    }
