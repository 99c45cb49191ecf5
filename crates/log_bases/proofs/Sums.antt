-- The totals of a canonical base that are of a field and a kind add up to what it tells of each site.
use Rattle.std.proofs.Common.{◌≡◌, ◌≢◌, ℕ, zero, suc, ◌+◌, ◌<◌, ◌≤◌, ◌==◌, Bool, true, false, not, ◌&&◌, cond, List, [], ◌∷◌, ◌++◌, length, refl, sym, ap, ◌∙◌, subst, inl, inr, arith}
use Rattle.std.specs.Prelude.{nat_lt, sum_by}
use Rattle.std.specs.List.{AllByRecursion}
use Rattle.std.proofs.lemmas.Bool.{and_parts, cases_eq, eqb-true, eq-eqb, ne_eqb}
use Rattle.std.proofs.lemmas.List.Sums.{sum_by-cons, sum_by-append}
use Rattle.field_bounds.specs.declared.kind.Kind.{Kind}
use Rattle.field_bounds.specs.declared.kind.Kind.TheVariants.{Lower, Raise}
use Rattle.field_bounds.specs.Kind.{same_kind}
use Rattle.field_bounds.specs.Schema.{SchemaValue}
use Rattle.field_bounds.specs.Parts.{sum_below}
use Rattle.kept_records.specs.declared.total.Total.{Total}
use Rattle.kept_records.specs.Summary.{SummaryValue, one_total, totals_of_site, totals_of, total_told}
use Rattle.kept_records.specs.Summaries.{IsWhereDue}
use Rattle.kept_records.specs.Stands.{is_other_site}
use Rattle.log_bases.specs.Bases.{told_again}
use Rattle.log_bases.specs.Numbers.{on_field}
use Rattle.log_bases.proofs.Canonical.{told_placed, gifts_due, accepts_due}

module _ (F : ℕ → ℕ → Kind → ℕ) (f : ℕ) (k : Kind) where
  abbrev sum_of : List Total → ℕ
  sum_of ts = sum_by (on_field f k) ts

  -- ---- one total

  no_less : (c : Bool) (n : ℕ) → n ≡ 0 → 0 ≡ cond c n 0
  no_less true n none = sym none
  no_less false n none = refl

  one_sum : (r g : ℕ) (l : Kind) → sum_of (one_total F r g l) ≡ cond ((g == f) && same_kind l k) (F r g l) 0
  one_sum r g l = by (F r g l == 0) refl
    where
      by : (b : Bool) → (F r g l == 0) ≡ b
          → sum_of (cond b [] (record { site = record { 0 = r }; field = record { 0 = g }; kind = l; total = F r g l } ∷ []))
          ≡ cond ((g == f) && same_kind l k) (F r g l) 0
      by true e = no_less ((g == f) && same_kind l k) (F r g l) (eqb-true _ _ e)
      by false e = omega (
        arith,
        sum_by-cons (on_field f k) (record { site = record { 0 = r }; field = record { 0 = g }; kind = l; total = F r g l }) [],
      )

  -- ---- both kinds of a field of one site

  of_kind : (l : Kind) (n : Kind → ℕ) → cond (same_kind Lower l) (n Lower) 0 + cond (same_kind Raise l) (n Raise) 0 ≡ n l
  of_kind Lower n = omega arith
  of_kind Raise n = omega arith

  two_off : (r g : ℕ) → g ≢ f → sum_of (one_total F r g Lower ++ one_total F r g Raise) ≡ 0
  two_off r g apart =
      let off = ne_eqb g f apart in
      let low : cond ((g == f) && same_kind Lower k) (F r g Lower) 0 ≡ 0 = rw off refl in
      let high : cond ((g == f) && same_kind Raise k) (F r g Raise) 0 ≡ 0 = rw off refl in
      omega (
        arith,
        sum_by-append (on_field f k) (one_total F r g Lower) (one_total F r g Raise),
        one_sum r g Lower,
        one_sum r g Raise,
        low,
        high,
      )

  two_at : (r : ℕ) → sum_of (one_total F r f Lower ++ one_total F r f Raise) ≡ F r f k
  two_at r =
      let here = eq-eqb f f refl in
      let low : cond ((f == f) && same_kind Lower k) (F r f Lower) 0 ≡ cond (same_kind Lower k) (F r f Lower) 0 = rw here refl in
      let high : cond ((f == f) && same_kind Raise k) (F r f Raise) 0 ≡ cond (same_kind Raise k) (F r f Raise) 0 = rw here refl in
      omega (
        arith,
        sum_by-append (on_field f k) (one_total F r f Lower) (one_total F r f Raise),
        one_sum r f Lower,
        one_sum r f Raise,
        low,
        high,
        of_kind k (λ l. F r f l),
      )

  -- ---- one site

  site_more : (r m : ℕ) → sum_of (totals_of_site F r (suc m))
      ≡ sum_of (totals_of_site F r m) + sum_of (one_total F r m Lower ++ one_total F r m Raise)
  unfolding totals_of_site
  site_more r m = sum_by-append (on_field f k) (totals_of_site F r m) (one_total F r m Lower ++ one_total F r m Raise)

  site_none : (r : ℕ) → sum_of (totals_of_site F r 0) ≡ 0
  unfolding totals_of_site
  site_none r = refl

  site_off : (r m : ℕ) → m ≤ f → sum_of (totals_of_site F r m) ≡ 0
  site_off r zero le = site_none r
  site_off r (suc m) le = omega (arith, site_more r m, site_off r m (omega (arith, le)), two_off r m (omega (arith, le)))

  site_sum : (r m : ℕ) → f < m → sum_of (totals_of_site F r m) ≡ F r f k
  site_sum r zero below = absurd (omega (arith, below))
  site_sum r (suc m) below =
      elim (cases_eq m f) [
        | inl same ↦
            let two : sum_of (one_total F r m Lower ++ one_total F r m Raise) ≡ F r f k =
            subst (λ (x : ℕ). sum_of (one_total F r x Lower ++ one_total F r x Raise) ≡ F r f k) (sym same) (two_at r) in
            omega (arith, site_more r m, site_off r m (omega (arith, same)), two)
        | inr apart ↦ omega (arith, site_more r m, site_sum r m (omega (arith, below, apart)), two_off r m apart)
      ]

  -- ---- all sites

  pub sites_sum : (s m n : ℕ) → f < m → F s f k ≡ 0 → sum_of (totals_of F s m n) ≡ sum_below n (λ r. F r f k)
  unfolding totals_of
  sites_sum s m zero below none = refl
  sites_sum s m (suc n) below none =
      omega (
        arith,
        sum_by-append (on_field f k) (totals_of F s m n) (cond (n == s) [] (totals_of_site F n m)),
        sites_sum s m n below none,
        by (n == s) refl,
      )
    where
      by : (b : Bool) → (n == s) ≡ b → sum_of (cond b [] (totals_of_site F n m)) ≡ F n f k
      by true e = subst (λ (x : ℕ). 0 ≡ F x f k) (sym (eqb-true n s e)) (sym none)
      by false e = site_sum n m below

-- ---- of a base

none_own : (schema : SchemaValue) (s : ℕ) (ts : List Total) → AllByRecursion (λ t. IsWhereDue schema s t) ts → (f : ℕ) (k : Kind)
    → total_told ts s f k ≡ 0
none_own schema s ts due f k =
    elim (cases_eq (total_told ts s f k) 0) [
      | inl none ↦ none
      | inr some ↦ absurd (not_other (told_placed schema s ts due s f k (omega (arith, some))))
    ]
  where
    not_other : is_other_site schema s s ≡ true → ⊥
    not_other e = by (s == s) (eq-eqb s s refl) (and_parts (nat_lt s schema.sites) (not (s == s)) e).1
      where
        by : (b : Bool) → b ≡ true → not b ≡ true → ⊥
        by true h n = absurd cc
        by false h n = absurd cc

pub gifts_sum : (schema : SchemaValue) (s : ℕ) (base : SummaryValue) → base ≡ told_again schema s base → (f : ℕ) (k : Kind)
    → f < length schema.fields → sum_by (on_field f k) base.gifts ≡ sum_below schema.sites (λ to. total_told base.gifts to f k)
gifts_sum schema s base form f k below =
    ap (λ (v : SummaryValue). sum_by (on_field f k) v.gifts) form
    ∙ sites_sum (total_told base.gifts) f k s (length schema.fields) schema.sites below
    (none_own schema s base.gifts (gifts_due schema s base form) f k)

pub accepts_sum : (schema : SchemaValue) (s : ℕ) (base : SummaryValue) → base ≡ told_again schema s base → (f : ℕ) (k : Kind)
    → f < length schema.fields → sum_by (on_field f k) base.accepts ≡ sum_below schema.sites (λ from. total_told base.accepts from f k)
accepts_sum schema s base form f k below =
    ap (λ (v : SummaryValue). sum_by (on_field f k) v.accepts) form
    ∙ sites_sum (total_told base.accepts) f k s (length schema.fields) schema.sites below
    (none_own schema s base.accepts (accepts_due schema s base form) f k)
