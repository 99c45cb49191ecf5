-- Behind the loop over a field: the kinds that are wanted, and what was given up.
use Rattle.std.proofs.Common.{◌≡◌, ◌≢◌, ◌⊎◌, ℕ, ◌+◌, ◌-◌, ◌≤◌, ◌<◌, ◌==◌, Bool, true, false, ◌&&◌, cond, List, [], ◌∷◌, ◌++◌, length, refl, sym, ◌∙◌, ap, inl, inr, arith, eqb}
use Rattle.std.specs.Prelude.{nat_lt}
use Rattle.std.proofs.lemmas.Bool.{eq-eqb, ne_eqb, lt-ltb, le-leb, ltb-true, ltb-false, eqb-true, eqb-false}
use Rattle.field_bounds.specs.declared.kind.Kind.{Kind}
use Rattle.field_bounds.specs.declared.kind.Kind.TheVariants.{Lower, Raise}
use Rattle.field_bounds.specs.Kind.{other, same_kind}
use Rattle.field_bounds.specs.Schema.{SchemaValue}
use Rattle.field_bounds.specs.Limits.{IsSchema}
use Rattle.kept_records.specs.declared.record.Record.{Record}
use Rattle.kept_records.specs.Summary.{SummaryValue, rights_told, total_told, cut_told}
use Rattle.kept_records.specs.Stands.{given_in, accepted_in, cut_in, own_in, is_field, may_follow}
use Rattle.kept_records.proofs.Pushes.{given_push, accepted_push}
use Rattle.kept_records.proofs.Covering.{own_tighten, cut_tighten}
use Rattle.log_bases.specs.Bases.{guarded_told, given_told, accepted_told}
use Rattle.log_bases.specs.Pasts.{commit_of, tighten_of, moved, wanted, to_kind, given_up, field_past}
use Rattle.log_bases.proofs.Past.{Ready, ready_push, Elsewhere, nothing_else, then_else, owned, given_all, accepted_all, own_few, ready_spent, spent_given, spent_accepted, spent_cut, own_less, own_more, spent_else}
use Rattle.log_bases.proofs.Moving.{IsDue, Moving, all_moved, given_done, accepted_done, owned_done}
use Rattle.field_bounds.proofs.Sums.{sum_below-same, sum_below-zero}

-- what records stand for on a field is what the base tells
pub record AtField (schema : SchemaValue) (s : ℕ) (base : SummaryValue) (f : ℕ) (rs : List Record) : Type 0 where
  pub own : (k : Kind) → own_in schema s rs f k ≡ rights_told base.rights f k
  pub cut : (k : Kind) → cut_in rs f k ≡ cut_told base.tightenings f k
  pub given : (j : ℕ) (k : Kind) → j < schema.sites → given_in rs j f k ≡ total_told base.gifts j f k
  pub accepted : (j : ℕ) (k : Kind) → j < schema.sites → accepted_in rs j f k ≡ total_told base.accepts j f k

-- nothing was given, accepted or given up on a field
pub record IsFresh (f : ℕ) (rs : List Record) : Type 0 where
  pub cut : (k : Kind) → cut_in rs f k ≡ 0
  pub given : (j : ℕ) (k : Kind) → given_in rs j f k ≡ 0
  pub accepted : (j : ℕ) (k : Kind) → accepted_in rs j f k ≡ 0

module _ (schema : SchemaValue) (good : IsSchema schema) (s : ℕ) (site_in : s < schema.sites) (base : SummaryValue) (f : ℕ)
    (field_in : f < length schema.fields) (due : IsDue schema s base f) where
  abbrev T : List Record → ℕ
  T rs = owned schema good s site_in rs f

  both : (rs : List Record) (k : Kind) → T rs ≡ own_in schema s rs f k + own_in schema s rs f (other k)
  both rs Lower = refl
  both rs Raise = omega arith

  -- ---- one commit of the difference

  pub record Kinded (k : Kind) (rs bs : List Record) : Type 0 where
    pub ready : Ready schema good s site_in bs
    pub given : (j g : ℕ) (k' : Kind) → given_in bs j g k' ≡ given_in rs j g k'
    pub accepted : (j g : ℕ) (k' : Kind) → accepted_in bs j g k' ≡ accepted_in rs j g k'
    pub cut : (g : ℕ) (k' : Kind) → cut_in bs g k' ≡ cut_in rs g k'
    pub elsewhere : Elsewhere schema good s site_in f rs bs
    pub sum : T bs ≡ T rs
    pub few : own_in schema s bs f k ≤ wanted base f k
    pub how : (own_in schema s bs f k ≡ wanted base f k) ⊎ (own_in schema s bs f (other k) ≡ own_in schema s rs f (other k))

  kinded : (rs : List Record) → Ready schema good s site_in rs → (k : Kind) → Kinded k rs (to_kind schema s base f k rs)
  kinded rs is k = by (nat_lt (wanted base f k) (own_in schema s rs f k)) refl
    where
      by : (b : Bool) → nat_lt (wanted base f k) (own_in schema s rs f k) ≡ b
          → Kinded k rs (cond b (rs ++ commit_of f k (own_in schema s rs f k - (wanted base f k + 1)) ∷ []) rs)
      by true e =
          let more = ltb-true _ _ e in
          let n = own_in schema s rs f k - (wanted base f k + 1) in
          let enough : n < own_in schema s rs f k = omega (arith, more) in
          let bs = rs ++ commit_of f k n ∷ [] in
          let less = own_less schema good s site_in rs is f field_in k n enough in
          let grown = own_more schema good s site_in rs is f field_in k n enough in
          let full : own_in schema s bs f k ≡ wanted base f k = omega (arith, less, more) in
          record {
            ready = ready_spent schema good s site_in rs is f field_in k n enough;
            given = λ j g k'. spent_given schema good s site_in rs is f field_in k n enough j g k';
            accepted = λ j g k'. spent_accepted schema good s site_in rs is f field_in k n enough j g k';
            cut = λ g k'. spent_cut schema good s site_in rs is f field_in k n enough g k';
            elsewhere = spent_else schema good s site_in rs is f field_in k n enough;
            sum = omega (arith, both rs k, both bs k, less, grown);
            few = omega (arith, full);
            how = inl full;
          }
      by false e =
          record {
            ready = is;
            given = λ j g k'. refl;
            accepted = λ j g k'. refl;
            cut = λ g k'. refl;
            elsewhere = nothing_else schema good s site_in f rs;
            sum = refl;
            few = ltb-false _ _ e;
            how = inr refl;
          }

  pub record BothKinded (rs bs : List Record) : Type 0 where
    pub ready : Ready schema good s site_in bs
    pub given : (j g : ℕ) (k' : Kind) → given_in bs j g k' ≡ given_in rs j g k'
    pub accepted : (j g : ℕ) (k' : Kind) → accepted_in bs j g k' ≡ accepted_in rs j g k'
    pub cut : (g : ℕ) (k' : Kind) → cut_in bs g k' ≡ cut_in rs g k'
    pub elsewhere : Elsewhere schema good s site_in f rs bs
    pub low : own_in schema s bs f Lower ≡ wanted base f Lower
    pub high : own_in schema s bs f Raise ≡ wanted base f Raise

  both_kinded : (rs : List Record) → Ready schema good s site_in rs → T rs ≡ guarded_told base f
      → BothKinded rs (to_kind schema s base f Raise (to_kind schema s base f Lower rs))
  both_kinded rs is all =
      let bs = to_kind schema s base f Lower rs in
      let cs = to_kind schema s base f Raise bs in
      let a = kinded rs is Lower in
      let b = kinded bs a.ready Raise in
      let low : own_in schema s cs f Lower ≡ wanted base f Lower =
      elim b.how [
        | inl full ↦ omega (arith, full, all, a.sum, b.sum)
        | inr same ↦ omega (arith, same, all, a.sum, b.sum, a.few, b.few)
      ] in
      record {
        ready = b.ready;
        given = λ j g k'. b.given j g k' ∙ a.given j g k';
        accepted = λ j g k'. b.accepted j g k' ∙ a.accepted j g k';
        cut = λ g k'. b.cut g k' ∙ a.cut g k';
        elsewhere = then_else schema good s site_in f rs bs cs a.elsewhere b.elsewhere;
        low = low;
        high = omega (arith, low, all, a.sum, b.sum);
      }

  -- ---- what was given up

  pub record GaveUp (k : Kind) (rs bs : List Record) : Type 0 where
    pub ready : Ready schema good s site_in bs
    pub given : (j g : ℕ) (k' : Kind) → given_in bs j g k' ≡ given_in rs j g k'
    pub accepted : (j g : ℕ) (k' : Kind) → accepted_in bs j g k' ≡ accepted_in rs j g k'
    pub elsewhere : Elsewhere schema good s site_in f rs bs
    pub cut : cut_in bs f k ≡ cut_told base.tightenings f k
    pub cut_other : cut_in bs f (other k) ≡ cut_in rs f (other k)
    pub own : own_in schema s bs f k + cut_told base.tightenings f k ≡ own_in schema s rs f k
    pub own_other : own_in schema s bs f (other k) ≡ own_in schema s rs f (other k)

  on_self : (k : Kind) → (eqb f f && same_kind k k) ≡ true
  on_self Lower = rw (eq-eqb f f refl) refl
  on_self Raise = rw (eq-eqb f f refl) refl

  on_other : (k : Kind) → (eqb f f && same_kind k (other k)) ≡ false
  on_other Lower = rw (eq-eqb f f refl) refl
  on_other Raise = rw (eq-eqb f f refl) refl

  off_field : (g : ℕ) (k k' : Kind) → g ≢ f → (eqb f g && same_kind k k') ≡ false
  off_field g k k' apart = rw (ne_eqb f g (λ e. apart (sym e))) refl

  module _ (rs : List Record) (is : Ready schema good s site_in rs) (k : Kind) (none : cut_in rs f k ≡ 0)
      (some : 0 < cut_told base.tightenings f k) (enough : cut_told base.tightenings f k ≤ own_in schema s rs f k) where
    abbrev total : ℕ
    total = cut_told base.tightenings f k

    abbrev less_own : List Record
    less_own = rs ++ tighten_of f k total ∷ []

    here : is_field schema f ≡ true
    here = lt-ltb _ _ field_in

    may : may_follow schema s rs (tighten_of f k total) ≡ true
    may = rw (
      here,
      lt-ltb (cut_in rs f k) total (omega (arith, none, some)),
      le-leb (total - cut_in rs f k) (own_in schema s rs f k) (omega (arith, enough)),
    ) refl

    owns : (g : ℕ) (k' : Kind) → own_in schema s less_own g k' + cond (eqb f g && same_kind k k') (total - cut_in rs f k) 0
        ≡ own_in schema s rs g k'
    owns g k' = own_tighten schema s rs is.lawful (record { 0 = f }) k total may g k'

    cuts : (g : ℕ) (k' : Kind) → cut_in less_own g k' ≡ cut_in rs g k' + cond (eqb f g && same_kind k k') (total - cut_in rs f k) 0
    cuts g k' = cut_tighten schema s rs is.lawful (record { 0 = f }) k total may g k'

    tightened : GaveUp k rs less_own
    tightened = record {
      ready = ready_push schema good s site_in rs (tighten_of f k total) is
          (omega (arith, field_in, good.few_fields), (some, omega (arith, enough, own_few schema good s site_in rs is.lawful f k))) may
          (λ n. refl);
      given = λ j g k'. given_push j g k' rs (tighten_of f k total);
      accepted = λ j g k'. accepted_push j g k' rs (tighten_of f k total);
      elsewhere = record {
        own = λ g k' apart. omega (
          arith,
          owns g k',
          ap (λ (b : Bool). cond b (total - cut_in rs f k) 0) (off_field g k k' apart),
        );
        cut = λ g k' apart. omega (
          arith,
          cuts g k',
          ap (λ (b : Bool). cond b (total - cut_in rs f k) 0) (off_field g k k' apart),
        );
        given = λ j g k' apart. given_push j g k' rs (tighten_of f k total);
        accepted = λ j g k' apart. accepted_push j g k' rs (tighten_of f k total);
      };
      cut = omega (arith, cuts f k, ap (λ (b : Bool). cond b (total - cut_in rs f k) 0) (on_self k), none);
      cut_other = omega (arith, cuts f (other k), ap (λ (b : Bool). cond b (total - cut_in rs f k) 0) (on_other k));
      own = omega (arith, owns f k, ap (λ (b : Bool). cond b (total - cut_in rs f k) 0) (on_self k), none);
      own_other = omega (arith, owns f (other k), ap (λ (b : Bool). cond b (total - cut_in rs f k) 0) (on_other k));
    }

  gave_up : (rs : List Record) → Ready schema good s site_in rs → (k : Kind) → cut_in rs f k ≡ 0
      → cut_told base.tightenings f k ≤ own_in schema s rs f k → GaveUp k rs (given_up base f k rs)
  gave_up rs is k none enough = by (cut_told base.tightenings f k == 0) refl
    where
      by : (b : Bool) → (cut_told base.tightenings f k == 0) ≡ b
          → GaveUp k rs (cond b rs (rs ++ tighten_of f k (cut_told base.tightenings f k) ∷ []))
      by true e =
          let nothing = eqb-true _ _ e in
          record {
            ready = is;
            given = λ j g k'. refl;
            accepted = λ j g k'. refl;
            elsewhere = nothing_else schema good s site_in f rs;
            cut = omega (arith, none, nothing);
            cut_other = refl;
            own = omega (arith, nothing);
            own_other = refl;
          }
      by false e = tightened rs is k none (omega (arith, eqb-false _ _ e)) enough

  -- ---- the whole field

  pub record FieldDone (rs bs : List Record) : Type 0 where
    pub ready : Ready schema good s site_in bs
    pub elsewhere : Elsewhere schema good s site_in f rs bs
    pub at : AtField schema s base f bs

  start : (rs : List Record) → Ready schema good s site_in rs → IsFresh f rs → Moving schema good s site_in base f field_in due rs
  start rs is fresh = record {
    ready = is;
    uncut = fresh.cut;
    given = λ j k. omega (arith, fresh.given j k);
    accepted = λ j k. omega (arith, fresh.accepted j k);
  }

  fuel : (rs : List Record) → IsFresh f rs → (n : ℕ)
      → (given_all schema good s site_in rs f + accepted_all schema good s site_in rs f) + n ≡ n
  fuel rs fresh n = omega (
    arith,
    sum_below-zero schema.sites,
    sum_below-same schema.sites (λ j. given_in rs j f Lower) (λ j. 0) (λ j below. fresh.given j Lower),
    sum_below-same schema.sites (λ j. given_in rs j f Raise) (λ j. 0) (λ j below. fresh.given j Raise),
    sum_below-same schema.sites (λ j. accepted_in rs j f Lower) (λ j. 0) (λ j below. fresh.accepted j Lower),
    sum_below-same schema.sites (λ j. accepted_in rs j f Raise) (λ j. 0) (λ j below. fresh.accepted j Raise),
  )

  pub field_done : (rs : List Record) → Ready schema good s site_in rs → IsFresh f rs → FieldDone rs (field_past schema s base f rs)
  unfolding field_past
  field_done rs is fresh =
      let n = given_told schema base f + accepted_told schema base f in
      let as1 = moved n schema s base f rs in
      let a = all_moved schema good s site_in base f field_in due n rs (start rs is fresh) (fuel rs fresh n) in
      let bs = to_kind schema s base f Raise (to_kind schema s base f Lower as1) in
      let b = both_kinded as1 a.moving.ready (owned_done schema good s site_in base f field_in due rs as1 a) in
      let cs = given_up base f Lower bs in
      let c = gave_up bs b.ready Lower (b.cut f Lower ∙ a.moving.uncut Lower) (omega (arith, b.low)) in
      let ds = given_up base f Raise cs in
      let d = gave_up cs c.ready Raise (c.cut_other ∙ b.cut f Raise ∙ a.moving.uncut Raise) (omega (arith, b.high, c.own_other)) in
      record {
        ready = d.ready;
        elsewhere = then_else schema good s site_in f rs as1 ds a.elsewhere
            (then_else schema good s site_in f as1 bs ds b.elsewhere
            (then_else schema good s site_in f bs cs ds c.elsewhere d.elsewhere));
        at = record {
          own = own_at bs cs ds b.low b.high c d;
          cut = cut_at bs cs ds c d;
          given = λ j k below. d.given j f k ∙ c.given j f k ∙ b.given j f k
              ∙ given_done schema good s site_in base f field_in due rs as1 a j k below;
          accepted = λ j k below. d.accepted j f k ∙ c.accepted j f k ∙ b.accepted j f k
              ∙ accepted_done schema good s site_in base f field_in due rs as1 a j k below;
        };
      }
    where
      own_at : (bs cs ds : List Record) → own_in schema s bs f Lower ≡ wanted base f Lower → own_in schema s bs f Raise ≡ wanted base f Raise
          → GaveUp Lower bs cs → GaveUp Raise cs ds → (k : Kind) → own_in schema s ds f k ≡ rights_told base.rights f k
      own_at bs cs ds low high c d Lower = omega (arith, low, c.own, d.own_other)
      own_at bs cs ds low high c d Raise = omega (arith, high, c.own_other, d.own)

      cut_at : (bs cs ds : List Record) → GaveUp Lower bs cs → GaveUp Raise cs ds → (k : Kind) → cut_in ds f k ≡ cut_told base.tightenings f k
      cut_at bs cs ds c d Lower = d.cut_other ∙ c.cut
      cut_at bs cs ds c d Raise = d.cut
