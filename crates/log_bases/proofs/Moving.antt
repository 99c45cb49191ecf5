-- The loop over one field: one right is given or accepted at a time, until all totals of the field are the base's.
use Rattle.std.proofs.Common.{◌≡◌, ℕ, zero, suc, ◌+◌, ◌≤◌, ◌<◌, ◌==◌, Bool, true, false, cond, List, [], ◌∷◌, ◌++◌, length, refl, ◌∙◌, subst, inl, inr, arith}
use Rattle.std.specs.Prelude.{nat_lt, Option, Some, None}
use Rattle.std.proofs.lemmas.Bool.{cases_eq, ltb-true, ltb-false, eqb-true, eqb-false}
use Rattle.field_bounds.specs.declared.kind.Kind.{Kind}
use Rattle.field_bounds.specs.declared.kind.Kind.TheVariants.{Lower, Raise}
use Rattle.field_bounds.specs.Kind.{other}
use Rattle.field_bounds.specs.Schema.{SchemaValue}
use Rattle.field_bounds.specs.Limits.{IsSchema}
use Rattle.field_bounds.specs.Owed.{max_total}
use Rattle.field_bounds.specs.Parts.{field_at, width_of}
use Rattle.field_bounds.proofs.Sums.{sum_below-same, sum_below-mono}
use Rattle.kept_records.specs.declared.record.Record.{Record}
use Rattle.kept_records.specs.Summary.{SummaryValue, total_told}
use Rattle.kept_records.specs.Stands.{given_in, accepted_in, cut_in, own_in, is_other_site}
use Rattle.log_bases.specs.Bases.{guarded_told, given_told, accepted_told, parts_of}
use Rattle.log_bases.specs.Pasts.{commit_of, short_of_gifts, short_of_accepts, turned, one_gift, one_accept, accept_by, give_by, next, moved}
use Rattle.log_bases.proofs.Past.{Ready, Elsewhere, nothing_else, then_else, owned, given_all, accepted_all, balance, other_other, terms_equal, ready_spent, spent_given, spent_accepted, spent_cut, own_more, spent_else, both_more, within_more, ready_given, given_grown, given_accepted, given_cut, given_else, ready_accepted, accepted_grown, accepted_given, accepted_cut, accepted_else}
use Rattle.log_bases.proofs.Short.{short_found, short_none}

-- what the loop reads of a base: its totals are in range and of other sites, and its numbers on the field balance
pub record IsDue (schema : SchemaValue) (s : ℕ) (base : SummaryValue) (f : ℕ) : Type 0 where
  pub given_few : (j : ℕ) (k : Kind) → total_told base.gifts j f k ≤ max_total
  pub given_at : (j : ℕ) (k : Kind) → 0 < total_told base.gifts j f k → is_other_site schema s j ≡ true
  pub accepted_few : (j : ℕ) (k : Kind) → total_told base.accepts j f k ≤ max_total
  pub accepted_at : (j : ℕ) (k : Kind) → 0 < total_told base.accepts j f k → is_other_site schema s j ≡ true
  pub within : guarded_told base f ≤ width_of (field_at schema f)
  pub balanced : guarded_told base f + given_told schema base f ≡ parts_of schema s f + accepted_told schema base f
  pub still : width_of (field_at schema f) ≡ 0 → given_told schema base f ≡ 0

module _ (schema : SchemaValue) (good : IsSchema schema) (s : ℕ) (site_in : s < schema.sites) (base : SummaryValue) (f : ℕ)
    (field_in : f < length schema.fields) (due : IsDue schema s base f) where
  -- ---- where the loop stands

  -- nothing of the field was given up, and no total is above the base's
  pub record Moving (rs : List Record) : Type 0 where
    pub ready : Ready schema good s site_in rs
    pub uncut : (k : Kind) → cut_in rs f k ≡ 0
    pub given : (j : ℕ) (k : Kind) → given_in rs j f k ≤ total_told base.gifts j f k
    pub accepted : (j : ℕ) (k : Kind) → accepted_in rs j f k ≤ total_told base.accepts j f k

  abbrev T : List Record → ℕ
  T rs = owned schema good s site_in rs f

  abbrev G : List Record → ℕ
  G rs = given_all schema good s site_in rs f

  abbrev A : List Record → ℕ
  A rs = accepted_all schema good s site_in rs f

  -- one step: one right fewer is to be given or accepted, and no other field changed
  pub record Step (rs bs : List Record) : Type 0 where
    pub moving : Moving bs
    pub elsewhere : Elsewhere schema good s site_in f rs bs
    pub more : G bs + A bs ≡ (G rs + A rs) + 1

  given_same : (rs bs : List Record) → ((j : ℕ) (k : Kind) → given_in bs j f k ≡ given_in rs j f k) → G bs ≡ G rs
  given_same rs bs h = omega (
    arith,
    sum_below-same schema.sites (λ j. given_in bs j f Lower) (λ j. given_in rs j f Lower) (λ j below. h j Lower),
    sum_below-same schema.sites (λ j. given_in bs j f Raise) (λ j. given_in rs j f Raise) (λ j below. h j Raise),
  )

  accepted_same : (rs bs : List Record) → ((j : ℕ) (k : Kind) → accepted_in bs j f k ≡ accepted_in rs j f k) → A bs ≡ A rs
  accepted_same rs bs h = omega (
    arith,
    sum_below-same schema.sites (λ j. accepted_in bs j f Lower) (λ j. accepted_in rs j f Lower) (λ j below. h j Lower),
    sum_below-same schema.sites (λ j. accepted_in bs j f Raise) (λ j. accepted_in rs j f Raise) (λ j below. h j Raise),
  )

  -- rights owned and still to be accepted are those wanted and still to be given
  rights_left : (rs : List Record) → Moving rs
      → T rs + accepted_told schema base f + G rs ≡ guarded_told base f + given_told schema base f + A rs
  rights_left rs is = omega (
    arith,
    balance schema good s site_in rs is.ready.lawful f,
    due.balanced,
    is.uncut Lower,
    is.uncut Raise,
  )

  given_within : (rs : List Record) → Moving rs → G rs ≤ given_told schema base f
  given_within rs is = omega (
    arith,
    sum_below-mono schema.sites (λ j. given_in rs j f Lower) (λ j. total_told base.gifts j f Lower) (λ j. is.given j Lower),
    sum_below-mono schema.sites (λ j. given_in rs j f Raise) (λ j. total_told base.gifts j f Raise) (λ j. is.given j Raise),
  )

  accepted_within : (rs : List Record) → Moving rs → A rs ≤ accepted_told schema base f
  accepted_within rs is = omega (
    arith,
    sum_below-mono schema.sites (λ j. accepted_in rs j f Lower) (λ j. total_told base.accepts j f Lower) (λ j. is.accepted j Lower),
    sum_below-mono schema.sites (λ j. accepted_in rs j f Raise) (λ j. total_told base.accepts j f Raise) (λ j. is.accepted j Raise),
  )

  -- ---- a right of the kind that is to be given

  pub record Turned (k : Kind) (rs bs : List Record) : Type 0 where
    pub ready : Ready schema good s site_in bs
    pub some : 0 < own_in schema s bs f k
    pub given : (j g : ℕ) (k' : Kind) → given_in bs j g k' ≡ given_in rs j g k'
    pub accepted : (j g : ℕ) (k' : Kind) → accepted_in bs j g k' ≡ accepted_in rs j g k'
    pub cut : (g : ℕ) (k' : Kind) → cut_in bs g k' ≡ cut_in rs g k'
    pub elsewhere : Elsewhere schema good s site_in f rs bs

  pub turn_one : (rs : List Record) → Ready schema good s site_in rs → (k : Kind) → 0 < T rs → Turned k rs (turned schema s f k rs)
  turn_one rs is k some = by (own_in schema s rs f k == 0) refl
    where
      there : (k' : Kind) → own_in schema s rs f k' ≡ 0 → 0 < own_in schema s rs f (other k')
      there Lower none = omega (arith, some, none)
      there Raise none = omega (arith, some, none)

      by : (b : Bool) → (own_in schema s rs f k == 0) ≡ b → Turned k rs (cond b (rs ++ commit_of f (other k) 0 ∷ []) rs)
      by true e =
          let enough : 0 < own_in schema s rs f (other k) = there k (eqb-true _ _ e) in
          let one : 0 < own_in schema s (rs ++ commit_of f (other k) 0 ∷ []) f (other (other k)) =
          omega (arith, own_more schema good s site_in rs is f field_in (other k) 0 enough) in
          record {
            ready = ready_spent schema good s site_in rs is f field_in (other k) 0 enough;
            some = subst (λ (x : Kind). 0 < own_in schema s (rs ++ commit_of f (other k) 0 ∷ []) f x) (other_other k) one;
            given = λ j g k'. spent_given schema good s site_in rs is f field_in (other k) 0 enough j g k';
            accepted = λ j g k'. spent_accepted schema good s site_in rs is f field_in (other k) 0 enough j g k';
            cut = λ g k'. spent_cut schema good s site_in rs is f field_in (other k) 0 enough g k';
            elsewhere = spent_else schema good s site_in rs is f field_in (other k) 0 enough;
          }
      by false e =
          record {
            ready = is;
            some = omega (arith, eqb-false _ _ e);
            given = λ j g k'. refl;
            accepted = λ j g k'. refl;
            cut = λ g k'. refl;
            elsewhere = nothing_else schema good s site_in f rs;
          }

  -- ---- one right given

  pub give_one : (rs : List Record) → Moving rs → 0 < T rs → (k : Kind) (j : ℕ) → j < schema.sites
      → given_in rs j f k < total_told base.gifts j f k → Step rs (one_gift j f k (turned schema s f k rs))
  give_one rs is some k j below less =
      let bs = turned schema s f k rs in
      let t = turn_one rs is.ready k some in
      let due_at : is_other_site schema s j ≡ true = due.given_at j k (omega (arith, less)) in
      let short : given_in bs j f k < total_told base.gifts j f k = omega (arith, t.given j f k, less) in
      let small : given_in bs j f k < max_total = omega (arith, short, due.given_few j k) in
      let cs = one_gift j f k bs in
      let same : (i : ℕ) (k' : Kind) → accepted_in cs i f k' ≡ accepted_in rs i f k' =
      λ i k'. given_accepted schema good s site_in bs t.ready j f k due_at below field_in t.some small i f k' ∙ t.accepted i f k' in
      record {
        moving = record {
          ready = ready_given schema good s site_in bs t.ready j f k due_at below field_in t.some small;
          uncut = λ k'. given_cut schema good s site_in bs t.ready j f k due_at below field_in t.some small f k' ∙ t.cut f k' ∙ is.uncut k';
          given = λ i k'. within_more schema good s site_in (given_in bs) (given_in cs) (total_told base.gifts) j f k short
              (given_grown schema good s site_in bs t.ready j f k due_at below field_in t.some small) i f k'
              (omega (arith, t.given i f k', is.given i k'));
          accepted = λ i k'. omega (arith, same i k', is.accepted i k');
        };
        elsewhere = then_else schema good s site_in f rs bs cs t.elsewhere
            (given_else schema good s site_in bs t.ready j f k due_at below field_in t.some small);
        more = omega (
          arith,
          both_more schema good s site_in (given_in bs) (given_in cs) j f k below
              (given_grown schema good s site_in bs t.ready j f k due_at below field_in t.some small),
          given_same rs bs (λ i k'. t.given i f k'),
          accepted_same rs cs same,
        );
      }

  -- ---- one right accepted

  pub accept_one : (rs : List Record) → Moving rs → T rs < width_of (field_at schema f) → (k : Kind) (j : ℕ) → j < schema.sites
      → accepted_in rs j f k < total_told base.accepts j f k → Step rs (one_accept j f k rs)
  accept_one rs is fits k j below less =
      let due_at : is_other_site schema s j ≡ true = due.accepted_at j k (omega (arith, less)) in
      let small : accepted_in rs j f k < max_total = omega (arith, less, due.accepted_few j k) in
      let room : T rs + (cut_in rs f Lower + cut_in rs f Raise) < width_of (field_at schema f) =
      omega (arith, fits, is.uncut Lower, is.uncut Raise) in
      let cs = one_accept j f k rs in
      let same : (i : ℕ) (k' : Kind) → given_in cs i f k' ≡ given_in rs i f k' =
      λ i k'. accepted_given schema good s site_in rs is.ready j f k due_at below field_in room small i f k' in
      record {
        moving = record {
          ready = ready_accepted schema good s site_in rs is.ready j f k due_at below field_in room small;
          uncut = λ k'. accepted_cut schema good s site_in rs is.ready j f k due_at below field_in room small f k' ∙ is.uncut k';
          given = λ i k'. omega (arith, same i k', is.given i k');
          accepted = λ i k'. within_more schema good s site_in (accepted_in rs) (accepted_in cs) (total_told base.accepts) j f k less
              (accepted_grown schema good s site_in rs is.ready j f k due_at below field_in room small) i f k' (is.accepted i k');
        };
        elsewhere = accepted_else schema good s site_in rs is.ready j f k due_at below field_in room small;
        more = omega (
          arith,
          both_more schema good s site_in (accepted_in rs) (accepted_in cs) j f k below
              (accepted_grown schema good s site_in rs is.ready j f k due_at below field_in room small),
          given_same rs cs same,
        );
      }

  -- ---- one step

  accept_next : (rs : List Record) → Moving rs → T rs < width_of (field_at schema f) → A rs < accepted_told schema base f
      → (p q : Option ℕ) → short_of_accepts schema base f Lower rs ≡ p → short_of_accepts schema base f Raise rs ≡ q
      → Step rs (accept_by f rs p q)
  accept_next rs is fits less (Some j) q at_l at_r =
      let here = short_found schema.sites (λ i. accepted_in rs i f Lower) (λ i. total_told base.accepts i f Lower) j at_l in
      accept_one rs is fits Lower j here.0 here.1
  accept_next rs is fits less None (Some j) at_l at_r =
      let here = short_found schema.sites (λ i. accepted_in rs i f Raise) (λ i. total_told base.accepts i f Raise) j at_r in
      accept_one rs is fits Raise j here.0 here.1
  accept_next rs is fits less None None at_l at_r =
      absurd (omega (
        arith,
        less,
        short_none schema.sites (λ i. accepted_in rs i f Lower) (λ i. total_told base.accepts i f Lower) at_l,
        short_none schema.sites (λ i. accepted_in rs i f Raise) (λ i. total_told base.accepts i f Raise) at_r,
      ))

  give_next : (rs : List Record) → Moving rs → 0 < T rs → G rs + A rs < given_told schema base f + accepted_told schema base f
      → (m n : Option ℕ) → short_of_gifts schema base f Lower rs ≡ m → short_of_gifts schema base f Raise rs ≡ n
      → Step rs (give_by schema s f rs m n (short_of_accepts schema base f Lower rs) (short_of_accepts schema base f Raise rs))
  give_next rs is some left (Some j) n at_l at_r =
      let here = short_found schema.sites (λ i. given_in rs i f Lower) (λ i. total_told base.gifts i f Lower) j at_l in
      give_one rs is some Lower j here.0 here.1
  give_next rs is some left None (Some j) at_l at_r =
      let here = short_found schema.sites (λ i. given_in rs i f Raise) (λ i. total_told base.gifts i f Raise) j at_r in
      give_one rs is some Raise j here.0 here.1
  give_next rs is some left None None at_l at_r =
      let low = short_none schema.sites (λ i. given_in rs i f Lower) (λ i. total_told base.gifts i f Lower) at_l in
      let high = short_none schema.sites (λ i. given_in rs i f Raise) (λ i. total_told base.gifts i f Raise) at_r in
      let less : A rs < accepted_told schema base f = omega (arith, left, low, high) in
      accept_next rs is (omega (arith, less, rights_left rs is, low, high, given_within rs is, due.within)) less
      (short_of_accepts schema base f Lower rs) (short_of_accepts schema base f Raise rs) refl refl

  pub step : (rs : List Record) → Moving rs → G rs + A rs < given_told schema base f + accepted_told schema base f
      → Step rs (next schema s base f rs)
  step rs is left = by (nat_lt 0 (T rs)) refl
    where
      less : T rs ≤ 0 → A rs < accepted_told schema base f
      less none = omega (arith, none, left, rights_left rs is)

      fits : T rs ≤ 0 → T rs < width_of (field_at schema f)
      fits none =
          elim (cases_eq (width_of (field_at schema f)) 0) [
            | inl narrow ↦ absurd (omega (
              arith,
              none,
              narrow,
              due.still narrow,
              due.within,
              less none,
              rights_left rs is,
              given_within rs is,
            ))
            | inr wide ↦ omega (arith, none, wide)
          ]

      by : (b : Bool) → nat_lt 0 (T rs) ≡ b
          → Step rs (cond b
          (give_by schema s f rs (short_of_gifts schema base f Lower rs) (short_of_gifts schema base f Raise rs)
          (short_of_accepts schema base f Lower rs) (short_of_accepts schema base f Raise rs))
          (accept_by f rs (short_of_accepts schema base f Lower rs) (short_of_accepts schema base f Raise rs)))
      by true e = give_next rs is (ltb-true _ _ e) left (short_of_gifts schema base f Lower rs) (short_of_gifts schema base f Raise rs) refl refl
      by false e =
          let none = ltb-false _ _ e in
          accept_next rs is (fits none) (less none) (short_of_accepts schema base f Lower rs) (short_of_accepts schema base f Raise rs) refl refl

  -- ---- all steps

  pub record Moved (rs bs : List Record) : Type 0 where
    pub moving : Moving bs
    pub elsewhere : Elsewhere schema good s site_in f rs bs
    pub all : G bs + A bs ≡ given_told schema base f + accepted_told schema base f

  pub all_moved : (n : ℕ) (rs : List Record) → Moving rs → (G rs + A rs) + n ≡ given_told schema base f + accepted_told schema base f
      → Moved rs (moved n schema s base f rs)
  unfolding moved
  all_moved zero rs is left = record { moving = is; elsewhere = nothing_else schema good s site_in f rs; all = omega (arith, left) }
  all_moved (suc n) rs is left =
      let one = step rs is (omega (arith, left)) in
      let rest = all_moved n (next schema s base f rs) one.moving (omega (arith, left, one.more)) in
      record {
        moving = rest.moving;
        elsewhere = then_else schema good s site_in f rs (next schema s base f rs) (moved n schema s base f (next schema s base f rs))
            one.elsewhere rest.elsewhere;
        all = rest.all;
      }

  -- then each total is the base's, and what is owned is what it guards
  module _ (rs bs : List Record) (is : Moved rs bs) where
    given_full : G bs ≡ given_told schema base f
    given_full = omega (arith, is.all, given_within bs is.moving, accepted_within bs is.moving)

    accepted_full : A bs ≡ accepted_told schema base f
    accepted_full = omega (arith, is.all, given_within bs is.moving, accepted_within bs is.moving)

    pub given_done : (j : ℕ) (k : Kind) → j < schema.sites → given_in bs j f k ≡ total_told base.gifts j f k
    given_done j Lower below = terms_equal schema.sites (λ i. given_in bs i f Lower) (λ i. total_told base.gifts i f Lower)
        (λ i. is.moving.given i Lower)
        (omega (
          arith,
          given_full,
          sum_below-mono schema.sites (λ i. given_in bs i f Lower) (λ i. total_told base.gifts i f Lower) (λ i. is.moving.given i Lower),
          sum_below-mono schema.sites (λ i. given_in bs i f Raise) (λ i. total_told base.gifts i f Raise) (λ i. is.moving.given i Raise),
        )) j below
    given_done j Raise below = terms_equal schema.sites (λ i. given_in bs i f Raise) (λ i. total_told base.gifts i f Raise)
        (λ i. is.moving.given i Raise)
        (omega (
          arith,
          given_full,
          sum_below-mono schema.sites (λ i. given_in bs i f Lower) (λ i. total_told base.gifts i f Lower) (λ i. is.moving.given i Lower),
          sum_below-mono schema.sites (λ i. given_in bs i f Raise) (λ i. total_told base.gifts i f Raise) (λ i. is.moving.given i Raise),
        )) j below

    pub accepted_done : (j : ℕ) (k : Kind) → j < schema.sites → accepted_in bs j f k ≡ total_told base.accepts j f k
    accepted_done j Lower below = terms_equal schema.sites (λ i. accepted_in bs i f Lower) (λ i. total_told base.accepts i f Lower)
        (λ i. is.moving.accepted i Lower)
        (omega (
          arith,
          accepted_full,
          sum_below-mono schema.sites (λ i. accepted_in bs i f Lower) (λ i. total_told base.accepts i f Lower) (λ i. is.moving.accepted i Lower),
          sum_below-mono schema.sites (λ i. accepted_in bs i f Raise) (λ i. total_told base.accepts i f Raise) (λ i. is.moving.accepted i Raise),
        )) j below
    accepted_done j Raise below = terms_equal schema.sites (λ i. accepted_in bs i f Raise) (λ i. total_told base.accepts i f Raise)
        (λ i. is.moving.accepted i Raise)
        (omega (
          arith,
          accepted_full,
          sum_below-mono schema.sites (λ i. accepted_in bs i f Lower) (λ i. total_told base.accepts i f Lower) (λ i. is.moving.accepted i Lower),
          sum_below-mono schema.sites (λ i. accepted_in bs i f Raise) (λ i. total_told base.accepts i f Raise) (λ i. is.moving.accepted i Raise),
        )) j below

    pub owned_done : T bs ≡ guarded_told base f
    owned_done = omega (arith, rights_left bs is.moving, given_full, accepted_full)
