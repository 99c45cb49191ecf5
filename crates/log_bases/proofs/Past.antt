-- A base whose numbers balance has a past: records are made one right at a time, field by field, until they stand for it.
use Rattle.std.proofs.Common.{◌≡◌, ◌≢◌, ℕ, zero, suc, ◌+◌, ◌-◌, ◌≤◌, ◌<◌, max, Bool, true, false, ◌&&◌, cond, List, [], ◌∷◌, ◌++◌, length, refl, sym, ◌∙◌, ap, subst, inl, inr, arith, eqb}
use Rattle.std.specs.Prelude.{sum_by}
use Rattle.std.specs.List.{AllByRecursion}
use Rattle.std.proofs.lemmas.Bool.{cases_lt, cases_eq, eq-eqb, ne_eqb, lt-ltb, le-leb}
use Rattle.field_bounds.specs.declared.kind.Kind.{Kind}
use Rattle.field_bounds.specs.declared.kind.Kind.TheVariants.{Lower, Raise}
use Rattle.field_bounds.specs.Kind.{other, same_kind}
use Rattle.field_bounds.specs.Schema.{SchemaValue}
use Rattle.field_bounds.specs.Limits.{IsSchema}
use Rattle.field_bounds.specs.Owed.{max_change, max_total}
use Rattle.field_bounds.specs.Parts.{field_at, width_of, part_of, sum_below}
use Rattle.field_bounds.specs.Effects.{takes}
use Rattle.field_bounds.proofs.Sums.{sum_below-same, sum_below-mono, sum_below_bump}
use Rattle.kept_records.specs.declared.record.Record.{Record}
use Rattle.kept_records.specs.Text.{IsRecord}
use Rattle.kept_records.specs.Stands.{later, greatest, given_in, accepted_in, cut_in, own_in, is_field, is_other_site, may_follow, Lawful}
use Rattle.kept_records.proofs.Pushes.{greatest_push, given_push, accepted_push, cut_push, lawful_push}
use Rattle.log_bases.specs.Pasts.{escrow_of, commit_of, gift_of, accept_of}
use Rattle.kept_records.proofs.Covering.{key, at_key, own_whole, own_within, own_commit, own_gift, own_accept, width_few}

-- ---- sums that fall short

-- where one sum is below another, so is some term
pub record Short (n : ℕ) (F G : ℕ → ℕ) : Type 0 where
  pub at : ℕ
  pub below : at < n
  pub less : F at < G at

pub short_somewhere : (n : ℕ) (F G : ℕ → ℕ) → sum_below n F < sum_below n G → Short n F G
short_somewhere zero F G h = absurd (omega (arith, h))
short_somewhere (suc n) F G h =
    elim (cases_lt (F n) (G n)) [
      | inl less ↦ record { at = n; below = omega arith; less = less }
      | inr not_less ↦
          let rest = short_somewhere n F G (omega (arith, h, not_less)) in
          record { at = rest.at; below = omega (arith, rest.below); less = rest.less }
    ]

-- where no term is above another and the sums are equal, so is each term
pub terms_equal : (n : ℕ) (F G : ℕ → ℕ) → ((j : ℕ) → F j ≤ G j) → sum_below n F ≡ sum_below n G → (j : ℕ) → j < n → F j ≡ G j
terms_equal zero F G h same j below = absurd (omega (arith, below))
terms_equal (suc n) F G h same j below =
    elim (cases_eq j n) [
      | inl e ↦ subst (λ (i : ℕ). F i ≡ G i) (sym e) (omega (arith, same, h n, sum_below-mono n F G h))
      | inr apart ↦ terms_equal n F G h (omega (arith, same, h n, sum_below-mono n F G h)) j (omega (arith, below, apart))
    ]

pub all_push : (P : Record → Type 0) (rs : List Record) (r : Record) → AllByRecursion P rs → P r → AllByRecursion P (rs ++ r ∷ [])
all_push P [] r all it = (it, tt)
all_push P (x ∷ rs) r all it = (all.0, all_push P rs r all.1 it)

-- ---- the records that are made

-- what such a commit takes
pub taken_here : (f : ℕ) (k : Kind) (m : ℕ) → sum_by (takes f k) (escrow_of f k m ∷ []) ≡ m + 1
taken_here f Lower m = rw (eq-eqb f f refl) (omega arith)
taken_here f Raise m = rw (eq-eqb f f refl) (omega arith)

pub taken_other : (f : ℕ) (k : Kind) (m : ℕ) → sum_by (takes f (other k)) (escrow_of f k m ∷ []) ≡ 0
taken_other f Lower m = rw (eq-eqb f f refl) refl
taken_other f Raise m = rw (eq-eqb f f refl) refl

pub taken_else : (f : ℕ) (k : Kind) (m g : ℕ) (k' : Kind) → f ≢ g → sum_by (takes g k') (escrow_of f k m ∷ []) ≡ 0
taken_else f k m g k' apart = rw (ne_eqb f g apart) refl

pub other_other : (k : Kind) → other (other k) ≡ k
other_other Lower = refl
other_other Raise = refl

module _ (schema : SchemaValue) (good : IsSchema schema) (s : ℕ) (site_in : s < schema.sites) where
  -- lawful records in range, of no restart
  pub record Ready (rs : List Record) : Type 0 where
    pub lawful : Lawful schema s rs
    pub each : AllByRecursion IsRecord rs
    pub epoch : greatest rs ≡ 0

  pub ready_push : (rs : List Record) (r : Record) → Ready rs → IsRecord r → may_follow schema s rs r ≡ true → ((n : ℕ) → later n r ≡ n)
      → Ready (rs ++ r ∷ [])
  ready_push rs r is fits may still = record {
    lawful = lawful_push schema s rs r is.lawful may;
    each = all_push IsRecord rs r is.each fits;
    epoch = greatest_push rs r ∙ still (greatest rs) ∙ is.epoch;
  }

  -- ---- what stays on other fields

  pub record Elsewhere (f : ℕ) (as1 bs : List Record) : Type 0 where
    pub own : (g : ℕ) (k : Kind) → g ≢ f → own_in schema s bs g k ≡ own_in schema s as1 g k
    pub cut : (g : ℕ) (k : Kind) → g ≢ f → cut_in bs g k ≡ cut_in as1 g k
    pub given : (j g : ℕ) (k : Kind) → g ≢ f → given_in bs j g k ≡ given_in as1 j g k
    pub accepted : (j g : ℕ) (k : Kind) → g ≢ f → accepted_in bs j g k ≡ accepted_in as1 j g k

  pub nothing_else : (f : ℕ) (rs : List Record) → Elsewhere f rs rs
  nothing_else f rs = record {
    own = λ g k apart. refl;
    cut = λ g k apart. refl;
    given = λ j g k apart. refl;
    accepted = λ j g k apart. refl;
  }

  pub then_else : (f : ℕ) (as1 bs cs : List Record) → Elsewhere f as1 bs → Elsewhere f bs cs → Elsewhere f as1 cs
  then_else f as1 bs cs a b = record {
    own = λ g k apart. b.own g k apart ∙ a.own g k apart;
    cut = λ g k apart. b.cut g k apart ∙ a.cut g k apart;
    given = λ j g k apart. b.given j g k apart ∙ a.given j g k apart;
    accepted = λ j g k apart. b.accepted j g k apart ∙ a.accepted j g k apart;
  }

  -- ---- the sums of a field

  abbrev pub owned : List Record → ℕ → ℕ
  owned rs f = own_in schema s rs f Lower + own_in schema s rs f Raise

  abbrev pub given_all : List Record → ℕ → ℕ
  given_all rs f = sum_below schema.sites (λ j. given_in rs j f Lower) + sum_below schema.sites (λ j. given_in rs j f Raise)

  abbrev pub accepted_all : List Record → ℕ → ℕ
  accepted_all rs f = sum_below schema.sites (λ j. accepted_in rs j f Lower) + sum_below schema.sites (λ j. accepted_in rs j f Raise)

  abbrev pub parts : ℕ → ℕ
  parts f = part_of schema s f Lower + part_of schema s f Raise

  -- rights are neither made nor lost
  pub balance : (rs : List Record) → Lawful schema s rs → (f : ℕ)
      → owned rs f + (cut_in rs f Lower + cut_in rs f Raise) + given_all rs f ≡ parts f + accepted_all rs f
  balance rs lawful f = omega (arith, own_whole schema s rs lawful f Lower, own_whole schema s rs lawful f Raise)

  -- own rights are no more than a field is wide
  pub own_few : (rs : List Record) → Lawful schema s rs → (f : ℕ) (k : Kind) → own_in schema s rs f k ≤ max_change
  own_few rs lawful f Lower = omega (arith, own_within schema good s site_in rs lawful f, width_few schema.fields good.each f)
  own_few rs lawful f Raise = omega (arith, own_within schema good s site_in rs lawful f, width_few schema.fields good.each f)

  -- ---- one commit

  module _ (rs : List Record) (is : Ready rs) (f : ℕ) (field_in : f < length schema.fields) (k : Kind) (m : ℕ)
      (enough : m < own_in schema s rs f k) where
    abbrev pub spent : List Record
    spent = rs ++ commit_of f k m ∷ []

    field_is : is_field schema f ≡ true
    field_is = lt-ltb _ _ field_in

    few : m + 1 ≤ max_change
    few = omega (arith, enough, own_few rs is.lawful f k)

    may_spend : (k' : Kind) → m < own_in schema s rs f k' → may_follow schema s rs (commit_of f k' m) ≡ true
    may_spend Lower some =
        rw (
          is.epoch,
          field_is,
          taken_here f Lower m,
          taken_other f Lower m,
          le-leb (m + 1) (own_in schema s rs f Lower) (omega (arith, some)),
          le-leb 0 (own_in schema s rs f Raise) (omega arith),
        ) refl
    may_spend Raise some =
        rw (
          is.epoch,
          field_is,
          taken_here f Raise m,
          taken_other f Raise m,
          le-leb (m + 1) (own_in schema s rs f Raise) (omega (arith, some)),
          le-leb 0 (own_in schema s rs f Lower) (omega arith),
        ) refl

    may : may_follow schema s rs (commit_of f k m) ≡ true
    may = may_spend k enough

    place_few : f ≤ 65535
    place_few = omega (arith, field_in, good.few_fields)

    fits_by : (k' : Kind) → IsRecord (commit_of f k' m)
    fits_by Lower = (omega arith, omega arith, omega arith, omega arith, omega arith, ((place_few, (omega arith, omega (arith, few))), tt))
    fits_by Raise = (omega arith, omega arith, omega arith, omega arith, omega arith, ((place_few, (omega arith, omega (arith, few))), tt))

    pub ready_spent : Ready spent
    ready_spent = ready_push rs (commit_of f k m) is (fits_by k) may (λ n. refl)

    pub spent_given : (j g : ℕ) (k' : Kind) → given_in spent j g k' ≡ given_in rs j g k'
    spent_given j g k' = given_push j g k' rs (commit_of f k m)

    pub spent_accepted : (j g : ℕ) (k' : Kind) → accepted_in spent j g k' ≡ accepted_in rs j g k'
    spent_accepted j g k' = accepted_push j g k' rs (commit_of f k m)

    pub spent_cut : (g : ℕ) (k' : Kind) → cut_in spent g k' ≡ cut_in rs g k'
    spent_cut g k' = cut_push g k' rs (commit_of f k m)

    pub own_less : own_in schema s spent f k + (m + 1) ≡ own_in schema s rs f k
    own_less = omega (
      arith,
      own_commit schema s rs is.lawful (record { epoch = 0; number = 1 }) (escrow_of f k m ∷ []) may f k,
      taken_here f k m,
      taken_other f k m,
    )

    pub own_more : own_in schema s spent f (other k) ≡ own_in schema s rs f (other k) + (m + 1)
    own_more =
        let turned : sum_by (takes f (other (other k))) (escrow_of f k m ∷ []) ≡ m + 1 =
        subst (λ (x : Kind). sum_by (takes f x) (escrow_of f k m ∷ []) ≡ m + 1) (sym (other_other k)) (taken_here f k m) in
        omega (
          arith,
          own_commit schema s rs is.lawful (record { epoch = 0; number = 1 }) (escrow_of f k m ∷ []) may f (other k),
          taken_other f k m,
          turned,
        )

    pub spent_else : Elsewhere f rs spent
    spent_else = record {
      own = λ g k' apart. omega (
        arith,
        own_commit schema s rs is.lawful (record { epoch = 0; number = 1 }) (escrow_of f k m ∷ []) may g k',
        taken_else f k m g k' (λ e. apart (sym e)),
        taken_else f k m g (other k') (λ e. apart (sym e)),
      );
      cut = λ g k' apart. spent_cut g k';
      given = λ j g k' apart. spent_given j g k';
      accepted = λ j g k' apart. spent_accepted j g k';
    }

  -- ---- one right given or accepted

  abbrev unit : Bool → ℕ
  unit b = cond b 1 0

  grow : (b : Bool) (n0 n : ℕ) → (b ≡ true → n0 ≡ n) → cond b (max (n0 + 1) n) n ≡ n + unit b
  grow true n0 n h = omega (arith, h refl)
  grow false n0 n h = omega arith

  key_self : (f : ℕ) (k : Kind) (j : ℕ) → key f k j f k j ≡ true
  key_self f Lower j = rw (eq-eqb f f refl, eq-eqb j j refl) refl
  key_self f Raise j = rw (eq-eqb f f refl, eq-eqb j j refl) refl

  key_site : (f : ℕ) (k : Kind) (i g : ℕ) (k' : Kind) (j : ℕ) → i ≢ j → key f k i g k' j ≡ false
  key_site f k i g k' j apart = by (eqb f g && same_kind k k')
    where
      by : (b : Bool) → (b && eqb i j) ≡ false
      by true = ne_eqb i j apart
      by false = refl

  key_field : (f : ℕ) (k : Kind) (i g : ℕ) (k' : Kind) (j : ℕ) → f ≢ g → key f k i g k' j ≡ false
  key_field f k i g k' j apart = rw (ne_eqb f g apart) refl

  key_other : (f : ℕ) (k : Kind) (i g j : ℕ) → key f k i g (other k) j ≡ false
  key_other f Lower i g j = by (eqb f g)
    where
      by : (b : Bool) → ((b && false) && eqb i j) ≡ false
      by true = refl
      by false = refl
  key_other f Raise i g j = by (eqb f g)
    where
      by : (b : Bool) → ((b && false) && eqb i j) ≡ false
      by true = refl
      by false = refl

  -- one term more makes the sum of both kinds one more
  pub both_more : (F F' : ℕ → ℕ → Kind → ℕ) (i f : ℕ) (k : Kind) → i < schema.sites
      → ((j g : ℕ) (k' : Kind) → F' j g k' ≡ F j g k' + unit (key f k i g k' j))
      → sum_below schema.sites (λ j. F' j f Lower) + sum_below schema.sites (λ j. F' j f Raise)
      ≡ (sum_below schema.sites (λ j. F j f Lower) + sum_below schema.sites (λ j. F j f Raise)) + 1
  both_more F F' i f Lower below h = omega (
    arith,
    sum_below_bump schema.sites (λ j. F j f Lower) (λ j. F' j f Lower) i 1 below (h i f Lower ∙ ap (λ (b : Bool). F i f Lower + unit b) (key_self f Lower i))
        (λ j apart. h j f Lower ∙ ap (λ (b : Bool). F j f Lower + unit b) (key_site f Lower i f Lower j (λ e. apart (sym e))) ∙ omega arith),
    sum_below-same schema.sites (λ j. F' j f Raise) (λ j. F j f Raise)
        (λ j less. h j f Raise ∙ ap (λ (b : Bool). F j f Raise + unit b) (key_other f Lower i f j) ∙ omega arith),
  )
  both_more F F' i f Raise below h = omega (
    arith,
    sum_below_bump schema.sites (λ j. F j f Raise) (λ j. F' j f Raise) i 1 below (h i f Raise ∙ ap (λ (b : Bool). F i f Raise + unit b) (key_self f Raise i))
        (λ j apart. h j f Raise ∙ ap (λ (b : Bool). F j f Raise + unit b) (key_site f Raise i f Raise j (λ e. apart (sym e))) ∙ omega arith),
    sum_below-same schema.sites (λ j. F' j f Lower) (λ j. F j f Lower)
        (λ j less. h j f Lower ∙ ap (λ (b : Bool). F j f Lower + unit b) (key_other f Raise i f j) ∙ omega arith),
  )

  -- so it stays below a bound that it was strictly below at its key
  pub within_more : (F F' N : ℕ → ℕ → Kind → ℕ) (i f : ℕ) (k : Kind) → F i f k < N i f k
      → ((j g : ℕ) (k' : Kind) → F' j g k' ≡ F j g k' + unit (key f k i g k' j))
      → (j g : ℕ) (k' : Kind) → F j g k' ≤ N j g k' → F' j g k' ≤ N j g k'
  within_more F F' N i f k less h j g k' was = by (key f k i g k' j) refl
    where
      by : (b : Bool) → key f k i g k' j ≡ b → F' j g k' ≤ N j g k'
      by true e = omega (arith, h j g k', ap unit e, less, at_key F f k i g k' j e, at_key N f k i g k' j e)
      by false e = omega (arith, h j g k', ap unit e, was)

  module _ (rs : List Record) (is : Ready rs) (j f : ℕ) (k : Kind) (other_site : is_other_site schema s j ≡ true) (below : j < schema.sites)
      (field_in : f < length schema.fields) where
    abbrev pub one_given : List Record
    one_given = rs ++ gift_of j f k (given_in rs j f k + 1) ∷ []

    abbrev pub one_accepted : List Record
    one_accepted = rs ++ accept_of j f k (accepted_in rs j f k + 1) ∷ []

    here : is_field schema f ≡ true
    here = lt-ltb _ _ field_in

    module _ (some : 0 < own_in schema s rs f k) (small : given_in rs j f k < max_total) where
      may_give : may_follow schema s rs (gift_of j f k (given_in rs j f k + 1)) ≡ true
      may_give = rw (
        other_site,
        here,
        lt-ltb (given_in rs j f k) (given_in rs j f k + 1) (omega arith),
        le-leb ((given_in rs j f k + 1) - given_in rs j f k) (own_in schema s rs f k) (omega (arith, some)),
      ) refl

      pub ready_given : Ready one_given
      ready_given = ready_push rs (gift_of j f k (given_in rs j f k + 1)) is
          (omega (arith, below, good.few_sites), omega (arith, field_in, good.few_fields), (omega arith, omega (arith, small))) may_give (λ n. refl)

      pub given_grown : (i g : ℕ) (k' : Kind) → given_in one_given i g k' ≡ given_in rs i g k' + unit (key f k j g k' i)
      given_grown i g k' =
          given_push i g k' rs (gift_of j f k (given_in rs j f k + 1))
          ∙ grow (key f k j g k' i) (given_in rs j f k) (given_in rs i g k') (λ e. at_key (given_in rs) f k j g k' i e)

      pub given_accepted : (i g : ℕ) (k' : Kind) → accepted_in one_given i g k' ≡ accepted_in rs i g k'
      given_accepted i g k' = accepted_push i g k' rs (gift_of j f k (given_in rs j f k + 1))

      pub given_cut : (g : ℕ) (k' : Kind) → cut_in one_given g k' ≡ cut_in rs g k'
      given_cut g k' = cut_push g k' rs (gift_of j f k (given_in rs j f k + 1))

      pub given_else : Elsewhere f rs one_given
      given_else = record {
        own = λ g k' apart. omega (
          arith,
          own_gift schema s rs is.lawful (record { 0 = j }) (record { 0 = f }) k (given_in rs j f k + 1) may_give g k',
          ap (λ (b : Bool). cond (b && same_kind k k') ((given_in rs j f k + 1) - given_in rs j f k) 0) (ne_eqb f g (λ e. apart (sym e))),
        );
        cut = λ g k' apart. given_cut g k';
        given = λ i g k' apart. given_grown i g k'
            ∙ ap (λ (b : Bool). given_in rs i g k' + unit b) (key_field f k j g k' i (λ e. apart (sym e))) ∙ omega arith;
        accepted = λ i g k' apart. given_accepted i g k';
      }

    module _ (room : owned rs f + (cut_in rs f Lower + cut_in rs f Raise) < width_of (field_at schema f)) (small : accepted_in rs j f k < max_total) where
      may_accept : may_follow schema s rs (accept_of j f k (accepted_in rs j f k + 1)) ≡ true
      may_accept = rw (
        other_site,
        here,
        lt-ltb (accepted_in rs j f k) (accepted_in rs j f k + 1) (omega arith),
        le-leb ((accepted_in rs j f k + 1) - accepted_in rs j f k)
            (width_of (field_at schema f)
            - ((cut_in rs f Lower + own_in schema s rs f Lower) + (cut_in rs f Raise + own_in schema s rs f Raise))) (omega (arith, room)),
      ) refl

      pub ready_accepted : Ready one_accepted
      ready_accepted = ready_push rs (accept_of j f k (accepted_in rs j f k + 1)) is
          (omega (arith, below, good.few_sites), omega (arith, field_in, good.few_fields), (omega arith, omega (arith, small))) may_accept (λ n. refl)

      pub accepted_grown : (i g : ℕ) (k' : Kind) → accepted_in one_accepted i g k' ≡ accepted_in rs i g k' + unit (key f k j g k' i)
      accepted_grown i g k' =
          accepted_push i g k' rs (accept_of j f k (accepted_in rs j f k + 1))
          ∙ grow (key f k j g k' i) (accepted_in rs j f k) (accepted_in rs i g k') (λ e. at_key (accepted_in rs) f k j g k' i e)

      pub accepted_given : (i g : ℕ) (k' : Kind) → given_in one_accepted i g k' ≡ given_in rs i g k'
      accepted_given i g k' = given_push i g k' rs (accept_of j f k (accepted_in rs j f k + 1))

      pub accepted_cut : (g : ℕ) (k' : Kind) → cut_in one_accepted g k' ≡ cut_in rs g k'
      accepted_cut g k' = cut_push g k' rs (accept_of j f k (accepted_in rs j f k + 1))

      pub accepted_else : Elsewhere f rs one_accepted
      accepted_else = record {
        own = λ g k' apart. own_accept schema s rs is.lawful (record { 0 = j }) (record { 0 = f }) k (accepted_in rs j f k + 1) may_accept g k'
            ∙ ap (λ (b : Bool). own_in schema s rs g k' + cond (b && same_kind k k') ((accepted_in rs j f k + 1) - accepted_in rs j f k) 0)
            (ne_eqb f g (λ e. apart (sym e))) ∙ omega arith;
        cut = λ g k' apart. accepted_cut g k';
        given = λ i g k' apart. accepted_given i g k';
        accepted = λ i g k' apart. accepted_grown i g k'
            ∙ ap (λ (b : Bool). accepted_in rs i g k' + unit b) (key_field f k j g k' i (λ e. apart (sym e))) ∙ omega arith;
      }
