-- The summary of lawful records may be written: its numbers are in the ranges, and its totals rise.
use Rattle.std.proofs.Common.{◌≡◌, ℕ, zero, suc, ◌+◌, ◌≤◌, ◌<◌, ◌==◌, ◌&&◌, ◌||◌, max, Bool, true, false, cond, List, [], ◌∷◌, ◌++◌, length, refl, sym, ◌∙◌, ap, arith}
use Rattle.std.specs.Prelude.{nat_lt, fold}
use Rattle.std.specs.List.{AllByRecursion}
use Rattle.std.proofs.lemmas.Bool.{eqb-false, eq-eqb, lt-ltb, and_parts}
use Rattle.std.proofs.lemmas.List.{length-append}
use Rattle.field_bounds.specs.declared.kind.Kind.{Kind}
use Rattle.field_bounds.specs.declared.kind.Kind.TheVariants.{Lower, Raise}
use Rattle.field_bounds.specs.Kind.{same_kind}
use Rattle.field_bounds.specs.Schema.{SchemaValue}
use Rattle.field_bounds.specs.Limits.{IsSchema}
use Rattle.kept_records.proofs.Covering.{own_within, width_few, cut_few}
use Rattle.field_bounds.specs.Owed.{max_change, max_total, max_epoch}
use Rattle.kept_records.specs.declared.record.Record.{Record}
use Rattle.kept_records.specs.declared.record.Record.TheVariants.{Commit, Gift, Accept, Tighten, Restart, Summary}
use Rattle.kept_records.specs.declared.total.Total.{Total}
use Rattle.kept_records.specs.declared.total.Cut.{Cut}
use Rattle.kept_records.proofs.Told.{as_totals, cuts_as_totals}
use Rattle.kept_records.specs.Text.{max_place, IsListed, IsListedCut, IsRecord, IsSummary, AreRights}
use Rattle.kept_records.specs.Summary.{one_total, totals_of_site, totals_of, one_cut, cuts_of, rights_of, is_before, is_cut_before, kind_number, rises, cuts_rise}
use Rattle.kept_records.specs.Stands.{later, greatest, given_more, given_in, accepted_more, accepted_in, cut_in, own_in, summary_of, Lawful}

-- ---- lists that rise

abbrev BeforeAll : List Total → Total → Type 0
BeforeAll bs a = AllByRecursion (λ b. is_before a b ≡ true) bs

rises_append : (as1 bs : List Total) → rises as1 ≡ true → rises bs ≡ true → AllByRecursion (BeforeAll bs) as1 → rises (as1 ++ bs) ≡ true
rises_append [] bs p q h = q
rises_append (a ∷ []) [] p q h = refl
rises_append (a ∷ []) (b ∷ bs) p q h = rw (h.0.0, q) refl
rises_append (a ∷ a' ∷ as1) bs p q h =
    let parts = and_parts (is_before a a') (rises (a' ∷ as1)) p in
    rw (parts.0, rises_append (a' ∷ as1) bs parts.1 q h.1) refl

all_append : (P : Total → Type 0) (as1 bs : List Total) → AllByRecursion P as1 → AllByRecursion P bs → AllByRecursion P (as1 ++ bs)
all_append P [] bs p q = q
all_append P (a ∷ as1) bs p q = (p.0, all_append P as1 bs p.1 q)

all_weaker : (P Q : Total → Type 0) → ((t : Total) → P t → Q t) → (ts : List Total) → AllByRecursion P ts → AllByRecursion Q ts
all_weaker P Q h [] all = tt
all_weaker P Q h (t ∷ ts) all = (h t all.0, all_weaker P Q h ts all.1)

-- each of one list before each of another, by what holds of them
each_before : (P Q : Total → Type 0) → ((a b : Total) → P a → Q b → is_before a b ≡ true) → (as1 bs : List Total) → AllByRecursion P as1
    → AllByRecursion Q bs → AllByRecursion (BeforeAll bs) as1
each_before P Q h as1 bs p q = all_weaker P (BeforeAll bs)
    (λ a pa. all_weaker Q (λ b. is_before a b ≡ true) (λ b qb. h a b pa qb) bs q) as1 p

by_site : (a b : Total) → a.site.0 < b.site.0 → is_before a b ≡ true
by_site a b h = rw (lt-ltb a.site.0 b.site.0 h) refl

or_true : (x : Bool) → (x || true) ≡ true
or_true true = refl
or_true false = refl

by_field : (a b : Total) → a.site.0 ≡ b.site.0 → a.field.0 < b.field.0 → is_before a b ≡ true
by_field a b same h = rw (eq-eqb a.site.0 b.site.0 same, lt-ltb a.field.0 b.field.0 h) (or_true (nat_lt a.site.0 b.site.0))

by_kind : (a b : Total) → a.site.0 ≡ b.site.0 → a.field.0 ≡ b.field.0 → a.kind ≡ Lower → b.kind ≡ Raise → is_before a b ≡ true
by_kind a b same there low high =
    let kinds : nat_lt (kind_number a.kind) (kind_number b.kind) ≡ true = rw (low, high) refl in
    rw (eq-eqb a.site.0 b.site.0 same, eq-eqb a.field.0 b.field.0 there, kinds)
    (ap (λ (x : Bool). nat_lt a.site.0 b.site.0 || x) (or_true (nat_lt a.field.0 b.field.0)) ∙ or_true (nat_lt a.site.0 b.site.0))

-- ---- the totals of a site, and of all

pub record At (r f : ℕ) (k : Kind) (most : ℕ) (t : Total) : Type 0 where
  pub site : t.site.0 ≡ r
  pub field : t.field.0 ≡ f
  pub kind : t.kind ≡ k
  pub some : 0 < t.total
  pub few : t.total ≤ most

pub record In (r m : ℕ) (most : ℕ) (t : Total) : Type 0 where
  pub site : t.site.0 ≡ r
  pub field : t.field.0 < m
  pub some : 0 < t.total
  pub few : t.total ≤ most

pub record Under (n m : ℕ) (most : ℕ) (t : Total) : Type 0 where
  pub site : t.site.0 < n
  pub field : t.field.0 < m
  pub some : 0 < t.total
  pub few : t.total ≤ most

module _ (F : ℕ → ℕ → Kind → ℕ) (most : ℕ) (small : (r f : ℕ) (k : Kind) → F r f k ≤ most) where
  one_at : (r f : ℕ) (k : Kind) → AllByRecursion (At r f k most) (one_total F r f k)
  one_at r f k = by (F r f k == 0) refl
    where
      by : (b : Bool) → (F r f k == 0) ≡ b → AllByRecursion (At r f k most)
          (cond b [] (record { site = record { 0 = r }; field = record { 0 = f }; kind = k; total = F r f k } ∷ []))
      by true is = tt
      by false is = (
        record {
          site = refl;
          field = refl;
          kind = refl;
          some = let apart = eqb-false (F r f k) 0 is in omega (arith, apart);
          few = small r f k;
        },
        tt,
      )

  one_rises : (r f : ℕ) (k : Kind) → rises (one_total F r f k) ≡ true
  one_rises r f k = by (F r f k == 0)
    where
      by : (b : Bool) → rises (cond b [] (record { site = record { 0 = r }; field = record { 0 = f }; kind = k; total = F r f k } ∷ []))
          ≡ true
      by true = refl
      by false = refl

  widen : (r m f : ℕ) (k : Kind) → f < m → (t : Total) → At r f k most t → In r m most t
  widen r m f k below t at = record { site = at.site; field = omega (arith, at.field, below); some = at.some; few = at.few }

  site_in : (r m : ℕ) → AllByRecursion (In r m most) (totals_of_site F r m)
  unfolding totals_of_site
  site_in r zero = tt
  site_in r (suc m) =
      all_append (In r (suc m) most) (totals_of_site F r m) (one_total F r m Lower ++ one_total F r m Raise)
      (all_weaker (In r m most) (In r (suc m) most)
      (λ t i. record { site = i.site; field = omega (arith, i.field); some = i.some; few = i.few }) (totals_of_site F r m)
      (site_in r m))
      (all_append (In r (suc m) most) (one_total F r m Lower) (one_total F r m Raise)
      (all_weaker (At r m Lower most) (In r (suc m) most) (widen r (suc m) m Lower (omega arith)) (one_total F r m Lower)
      (one_at r m Lower))
      (all_weaker (At r m Raise most) (In r (suc m) most) (widen r (suc m) m Raise (omega arith)) (one_total F r m Raise)
      (one_at r m Raise)))

  abbrev AtField : ℕ → ℕ → Total → Type 0
  AtField r m t = (t.site.0 ≡ r) × (t.field.0 ≡ m)

  pub site_rises : (r m : ℕ) → rises (totals_of_site F r m) ≡ true
  unfolding totals_of_site
  site_rises r zero = refl
  site_rises r (suc m) =
      let two = rises_append (one_total F r m Lower) (one_total F r m Raise) (one_rises r m Lower) (one_rises r m Raise)
      (each_before (At r m Lower most) (At r m Raise most)
      (λ a b p q. by_kind a b (p.site ∙ sym q.site) (p.field ∙ sym q.field) p.kind q.kind) (one_total F r m Lower)
      (one_total F r m Raise) (one_at r m Lower) (one_at r m Raise)) in
      let at_field : AllByRecursion (AtField r m) (one_total F r m Lower ++ one_total F r m Raise) =
      all_append (AtField r m) (one_total F r m Lower) (one_total F r m Raise)
      (all_weaker (At r m Lower most) (AtField r m) (λ t at. (at.site, at.field)) (one_total F r m Lower) (one_at r m Lower))
      (all_weaker (At r m Raise most) (AtField r m) (λ t at. (at.site, at.field)) (one_total F r m Raise) (one_at r m Raise)) in
      rises_append (totals_of_site F r m) (one_total F r m Lower ++ one_total F r m Raise) (site_rises r m) two
      (each_before (In r m most) (AtField r m) (λ a b p q. by_field a b (p.site ∙ sym q.0) (omega (arith, p.field, q.1)))
      (totals_of_site F r m) (one_total F r m Lower ++ one_total F r m Raise) (site_in r m) at_field)

  own_part : (b : Bool) (n m : ℕ) → AllByRecursion (In n m most) (cond b [] (totals_of_site F n m))
  own_part true n m = tt
  own_part false n m = site_in n m

  own_rises : (b : Bool) (n m : ℕ) → rises (cond b [] (totals_of_site F n m)) ≡ true
  own_rises true n m = refl
  own_rises false n m = site_rises n m

  pub all_under : (s m n : ℕ) → AllByRecursion (Under n m most) (totals_of F s m n)
  unfolding totals_of
  all_under s m zero = tt
  all_under s m (suc n) =
      all_append (Under (suc n) m most) (totals_of F s m n) (cond (n == s) [] (totals_of_site F n m))
      (all_weaker (Under n m most) (Under (suc n) m most)
      (λ t u. record { site = omega (arith, u.site); field = u.field; some = u.some; few = u.few }) (totals_of F s m n)
      (all_under s m n))
      (all_weaker (In n m most) (Under (suc n) m most)
      (λ t i. record { site = omega (arith, i.site); field = i.field; some = i.some; few = i.few })
      (cond (n == s) [] (totals_of_site F n m)) (own_part (n == s) n m))

  pub all_rise : (s m n : ℕ) → rises (totals_of F s m n) ≡ true
  unfolding totals_of
  all_rise s m zero = refl
  all_rise s m (suc n) =
      rises_append (totals_of F s m n) (cond (n == s) [] (totals_of_site F n m)) (all_rise s m n) (own_rises (n == s) n m)
      (each_before (Under n m most) (In n m most) (λ a b p q. by_site a b (omega (arith, p.site, q.site))) (totals_of F s m n)
      (cond (n == s) [] (totals_of_site F n m)) (all_under s m n) (own_part (n == s) n m))

-- ---- the numbers of lawful records

given_small : (to f : ℕ) (k : Kind) (n : ℕ) (rs : List Record) → n ≤ max_total → AllByRecursion IsRecord rs
    → fold (given_more to f k) n rs ≤ max_total
given_small to f k n [] small fits = small
given_small to f k n (Gift site field kind total ∷ rs) small fits =
    given_small to f k (given_more to f k n (Gift site field kind total)) rs
    (by ((field.0 == f) && same_kind kind k && (site.0 == to))) fits.1
  where
    by : (b : Bool) → cond b (max total n) n ≤ max_total
    by true = omega (arith, small, fits.0.2.1)
    by false = small
given_small to f k n (Commit txn es ∷ rs) small fits = given_small to f k n rs small fits.1
given_small to f k n (Accept site field kind total ∷ rs) small fits = given_small to f k n rs small fits.1
given_small to f k n (Tighten field kind total ∷ rs) small fits = given_small to f k n rs small fits.1
given_small to f k n (Restart epoch ∷ rs) small fits = given_small to f k n rs small fits.1
given_small to f k n (Summary epoch rights gifts accepts tightenings ∷ rs) small fits = given_small to f k n rs small fits.1

accepted_small : (from f : ℕ) (k : Kind) (n : ℕ) (rs : List Record) → n ≤ max_total → AllByRecursion IsRecord rs
    → fold (accepted_more from f k) n rs ≤ max_total
accepted_small from f k n [] small fits = small
accepted_small from f k n (Accept site field kind total ∷ rs) small fits =
    accepted_small from f k (accepted_more from f k n (Accept site field kind total)) rs
    (by ((field.0 == f) && same_kind kind k && (site.0 == from))) fits.1
  where
    by : (b : Bool) → cond b (max total n) n ≤ max_total
    by true = omega (arith, small, fits.0.2.1)
    by false = small
accepted_small from f k n (Commit txn es ∷ rs) small fits = accepted_small from f k n rs small fits.1
accepted_small from f k n (Gift site field kind total ∷ rs) small fits = accepted_small from f k n rs small fits.1
accepted_small from f k n (Tighten field kind total ∷ rs) small fits = accepted_small from f k n rs small fits.1
accepted_small from f k n (Restart epoch ∷ rs) small fits = accepted_small from f k n rs small fits.1
accepted_small from f k n (Summary epoch rights gifts accepts tightenings ∷ rs) small fits = accepted_small from f k n rs small fits.1

later_small : (n : ℕ) (rs : List Record) → n ≤ max_epoch → AllByRecursion IsRecord rs → fold later n rs ≤ max_epoch
later_small n [] small fits = small
later_small n (Restart epoch ∷ rs) small fits = later_small (max n epoch) rs (omega (arith, small, fits.0.1)) fits.1
later_small n (Commit txn es ∷ rs) small fits = later_small n rs small fits.1
later_small n (Gift site field kind total ∷ rs) small fits = later_small n rs small fits.1
later_small n (Accept site field kind total ∷ rs) small fits = later_small n rs small fits.1
later_small n (Tighten field kind total ∷ rs) small fits = later_small n rs small fits.1
later_small n (Summary epoch rights gifts accepts tightenings ∷ rs) small fits = later_small n rs small fits.1

given_few : (rs : List Record) → AllByRecursion IsRecord rs → (to f : ℕ) (k : Kind) → given_in rs to f k ≤ max_total
unfolding given_in
given_few rs fits to f k = given_small to f k 0 rs (omega arith) fits

accepted_few : (rs : List Record) → AllByRecursion IsRecord rs → (from f : ℕ) (k : Kind) → accepted_in rs from f k ≤ max_total
unfolding accepted_in
accepted_few rs fits from f k = accepted_small from f k 0 rs (omega arith) fits

greatest_few : (rs : List Record) → AllByRecursion IsRecord rs → greatest rs ≤ max_epoch
unfolding greatest
greatest_few rs fits = later_small 0 rs (omega arith) fits

rows_small : (F : ℕ → Kind → ℕ) (m : ℕ) → ((f : ℕ) → F f Lower + F f Raise ≤ max_change) → AllByRecursion AreRights (rights_of F m)
unfolding rights_of
rows_small F zero h = tt
rows_small F (suc m) h = pushed (rights_of F m) (F m Lower, F m Raise) (rows_small F m h) (h m)
  where
    pushed : (rs : List (ℕ × ℕ)) (r : ℕ × ℕ) → AllByRecursion AreRights rs → AreRights r → AllByRecursion AreRights (rs ++ r ∷ [])
    pushed [] r all one = (one, tt)
    pushed (x ∷ rs) r all one = (all.0, pushed rs r all.1 one)

rows_count : (F : ℕ → Kind → ℕ) (m : ℕ) → length (rights_of F m) ≡ m
unfolding rights_of
rows_count F zero = refl
rows_count F (suc m) = omega (arith, length-append (rights_of F m) ((F m Lower, F m Raise) ∷ []), rows_count F m)

-- ---- what was given up

cuts_append : (as1 bs : List Cut) → AllByRecursion IsListedCut as1 → AllByRecursion IsListedCut bs → AllByRecursion IsListedCut (as1 ++ bs)
cuts_append [] bs p q = q
cuts_append (a ∷ as1) bs p q = (p.0, cuts_append as1 bs p.1 q)

cuts_rise_same : (ts : List Cut) → cuts_rise ts ≡ rises (as_totals ts)
cuts_rise_same [] = refl
cuts_rise_same (a ∷ []) = refl
cuts_rise_same (a ∷ b ∷ ts) = ap (λ (x : Bool). is_cut_before a b && x) (cuts_rise_same (b ∷ ts))

module _ (F : ℕ → Kind → ℕ) (small : (f : ℕ) (k : Kind) → F f k ≤ max_change) where
  one_cut_fits : (f : ℕ) (k : Kind) → f ≤ max_place → AllByRecursion IsListedCut (one_cut F f k)
  one_cut_fits f k below = by (F f k == 0) refl
    where
      by : (b : Bool) → (F f k == 0) ≡ b → AllByRecursion IsListedCut
          (cond b [] (record { field = record { 0 = f }; kind = k; total = F f k } ∷ []))
      by true is = tt
      by false is = ((below, (let apart = eqb-false (F f k) 0 is in omega (arith, apart), small f k)), tt)

  pub cuts_fit : (m : ℕ) → m ≤ max_place → AllByRecursion IsListedCut (cuts_of F m)
  unfolding cuts_of
  cuts_fit zero few = tt
  cuts_fit (suc m) few =
      let below : m ≤ max_place = omega (arith, few) in
      cuts_append (cuts_of F m) (one_cut F m Lower ++ one_cut F m Raise) (cuts_fit m below)
      (cuts_append (one_cut F m Lower) (one_cut F m Raise) (one_cut_fits m Lower below) (one_cut_fits m Raise below))

  pub all_cuts_rise : (m : ℕ) → cuts_rise (cuts_of F m) ≡ true
  all_cuts_rise m = cuts_rise_same (cuts_of F m) ∙ ap rises (cuts_as_totals F m) ∙ site_rises (λ r. F) max_change (λ r f k. small f k) 0 m

-- the summary of lawful records is in the ranges of its text
pub summary_fits : (schema : SchemaValue) (s : ℕ) (rs : List Record) → IsSchema schema → s < schema.sites → Lawful schema s rs
    → AllByRecursion IsRecord rs → IsSummary (summary_of schema s rs)
unfolding summary_of
summary_fits schema s rs good below lawful fits =
    let m = length schema.fields in
    let n = schema.sites in
    let count = rows_count (own_in schema s rs) m in
    let given = given_few rs fits in
    let accepted = accepted_few rs fits in
    let cut : (f : ℕ) (k : Kind) → cut_in rs f k ≤ max_change = λ f k. cut_few schema good s below rs lawful f k in
    let listed : (t : Total) → Under n m max_total t
    → IsListed t = λ t u. (omega (arith, u.site, good.few_sites), omega (arith, u.field, good.few_fields), (u.some, u.few)) in
    record {
      epoch = greatest_few rs fits;
      some = omega (arith, count, good.some_field);
      few = omega (arith, count, good.few_fields);
      rights = rows_small (own_in schema s rs) m (λ f.
          omega (arith, own_within schema good s below rs lawful f, width_few schema.fields good.each f));
      gifts = all_weaker (Under n m max_total) IsListed listed (totals_of (given_in rs) s m n)
          (all_under (given_in rs) max_total given s m n);
      gifts_rise = all_rise (given_in rs) max_total given s m n;
      accepts = all_weaker (Under n m max_total) IsListed listed (totals_of (accepted_in rs) s m n)
          (all_under (accepted_in rs) max_total accepted s m n);
      accepts_rise = all_rise (accepted_in rs) max_total accepted s m n;
      tightenings = cuts_fit (cut_in rs) cut m (omega (arith, good.few_fields));
      tightenings_rise = all_cuts_rise (cut_in rs) cut m;
    }
