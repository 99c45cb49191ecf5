-- What the summary of records tells is what they stand for.
use Rattle.std.proofs.Common.{◌≡◌, ◌≢◌, ℕ, zero, suc, ◌<◌, ◌≤◌, ◌==◌, Bool, true, false, ◌&&◌, cond, List, [], ◌∷◌, ◌++◌, length, get_or, refl, sym, ap, subst, ◌∙◌, inl, inr, arith}
use Rattle.std.specs.Prelude.{fold}
use Rattle.std.specs.List.{AllByRecursion}
use Rattle.std.proofs.lemmas.Bool.{and_parts, cases_eq, cases_Bool, eq-eqb, eqb-true, eqb-false, ne_eqb}
use Rattle.std.proofs.lemmas.List.{length-append}
use Rattle.std.proofs.Math.ListN.{get_or-append}
use Rattle.std.proofs.Math.Seq.{get_or-append_seam}
use Rattle.std.proofs.lemmas.List.Sums.{fold-append}
use Rattle.field_bounds.specs.declared.kind.Kind.{Kind}
use Rattle.field_bounds.specs.declared.kind.Kind.TheVariants.{Lower, Raise}
use Rattle.field_bounds.specs.Kind.{same_kind}
use Rattle.field_bounds.specs.Schema.{SchemaValue}
use Rattle.field_bounds.proofs.Lawful.{same_kind-true}
use Rattle.kept_records.specs.declared.record.Record.{Record}
use Rattle.kept_records.specs.declared.total.Total.{Total}
use Rattle.kept_records.specs.declared.total.Cut.{Cut}
use Rattle.kept_records.specs.Summary.{SummaryValue, summary_record, one_total, totals_of_site, totals_of, rights_of, one_cut, cuts_of, same_rights, same_totals, same_cuts, same_summary, rights_told, told_more, total_told, cut_told_more, cut_told}
use Rattle.kept_records.specs.Text.{IsSummary, IsRecord}
use Rattle.kept_records.specs.Stands.{given_in, accepted_in, cut_in, own_in, may_follow, summary_of}
use Rattle.kept_records.specs.Summaries.{SameSums, IsWhereDue, TellsOf}
use Rattle.kept_records.proofs.Summaries.{same_sums, same_summary_push, own_same}

-- ---- one total

module _ (F : ℕ → ℕ → Kind → ℕ) (r f : ℕ) (k : Kind) where
  one_by : (on none : Bool) (n z : ℕ) (r' f' : ℕ) (k' : Kind) → ((r' == r) && (f' == f) && same_kind k' k) ≡ on
      → fold (told_more r f k) z (cond none [] (record { site = record { 0 = r' }; field = record { 0 = f' }; kind = k'; total = n } ∷ []))
      ≡ cond on (cond none z n) z
  one_by true true n z r' f' k' is = refl
  one_by false true n z r' f' k' is = refl
  one_by true false n z r' f' k' is = rw is refl
  one_by false false n z r' f' k' is = rw is refl

  one_misses : (z r' f' : ℕ) (k' : Kind) → ((r' == r) && (f' == f) && same_kind k' k) ≡ false
      → fold (told_more r f k) z (one_total F r' f' k') ≡ z
  one_misses z r' f' k' off = one_by false (F r' f' k' == 0) (F r' f' k') z r' f' k' off

  zero_or : (n : ℕ) → cond (n == 0) 0 n ≡ n
  zero_or n =
      elim (cases_Bool (n == 0)) [
        | inl is ↦ rw is (sym (eqb-true n 0 is))
        | inr isnt ↦ rw isnt refl
      ]

  kind_here : (k : Kind) → same_kind k k ≡ true
  kind_here Lower = refl
  kind_here Raise = refl

  one_hits : fold (told_more r f k) 0 (one_total F r f k) ≡ F r f k
  one_hits =
      let on : ((r == r) && (f == f) && same_kind k k) ≡ true = rw (eq-eqb r r refl, eq-eqb f f refl, kind_here k) refl in
      one_by true (F r f k == 0) (F r f k) 0 r f k on ∙ zero_or (F r f k)

  off_site : (r' f' : ℕ) (k' : Kind) → r' ≢ r → ((r' == r) && (f' == f) && same_kind k' k) ≡ false
  off_site r' f' k' apart = rw (ne_eqb r' r apart) refl

  off_field : (r' f' : ℕ) (k' : Kind) → f' ≢ f → ((r' == r) && (f' == f) && same_kind k' k) ≡ false
  off_field r' f' k' apart = rw (ne_eqb f' f apart)
      (elim (r' == r) as (λ b. (b && false && same_kind k' k) ≡ false) [ true ↦ refl | false ↦ refl ])

  -- ---- those of one site

  two : (z r' m : ℕ) → fold (told_more r f k) z (totals_of_site F r' (suc m))
      ≡ fold (told_more r f k) (fold (told_more r f k) (fold (told_more r f k) z (totals_of_site F r' m)) (one_total F r' m Lower))
      (one_total F r' m Raise)
  unfolding totals_of_site
  two z r' m =
      fold-append (told_more r f k) z (totals_of_site F r' m) (one_total F r' m Lower ++ one_total F r' m Raise)
      ∙ fold-append (told_more r f k) (fold (told_more r f k) z (totals_of_site F r' m)) (one_total F r' m Lower) (one_total F r' m Raise)

  both_miss : (z z' r' m : ℕ) → fold (told_more r f k) z (totals_of_site F r' m) ≡ z'
      → ((k' : Kind) → ((r' == r) && (m == f) && same_kind k' k) ≡ false)
      → fold (told_more r f k) z (totals_of_site F r' (suc m)) ≡ z'
  both_miss z z' r' m is off =
      two z r' m
      ∙ one_misses _ r' m Raise (off Raise)
      ∙ one_misses _ r' m Lower (off Lower)
      ∙ is

  site_apart : (z r' m : ℕ) → r' ≢ r → fold (told_more r f k) z (totals_of_site F r' m) ≡ z
  unfolding totals_of_site
  site_apart z r' zero apart = refl
  site_apart z r' (suc m) apart = both_miss z z r' m (site_apart z r' m apart) (λ k'. off_site r' m k' apart)

  site_before : (z m : ℕ) → m ≤ f → fold (told_more r f k) z (totals_of_site F r m) ≡ z
  unfolding totals_of_site
  site_before z zero le = refl
  site_before z (suc m) le = both_miss z z r m (site_before z m (omega (arith, le))) (λ k'. off_field r m k' (omega (arith, le)))

  at_last : (m : ℕ) → m ≡ f → fold (told_more r f k) 0 (totals_of_site F r (suc m)) ≡ F r f k
  at_last m is = two 0 r m ∙ by k refl
    where
      start : fold (told_more r f k) 0 (totals_of_site F r m) ≡ 0
      start = site_before 0 m (omega (arith, is))

      here : (k' : Kind) → k' ≡ k → fold (told_more r f k) 0 (one_total F r m k') ≡ F r f k
      here k' same = ap (λ (x : ℕ). fold (told_more r f k) 0 (one_total F r x k')) is
          ∙ ap (λ (x : Kind). fold (told_more r f k) 0 (one_total F r f x)) same ∙ one_hits

      off : (a b : Kind) → same_kind a b ≡ false → b ≡ k → ((r == r) && (m == f) && same_kind a k) ≡ false
      off a b apart same = ap (λ (x : Kind). (r == r) && (m == f) && same_kind a x) (sym same) ∙ rw apart (none (r == r) (m == f))
        where
          none : (p q : Bool) → (p && q && false) ≡ false
          none true true = refl
          none true false = refl
          none false q = refl

      by : (x : Kind) → x ≡ k
          → fold (told_more r f k) (fold (told_more r f k) (fold (told_more r f k) 0 (totals_of_site F r m)) (one_total F r m Lower))
          (one_total F r m Raise) ≡ F r f k
      by Lower same =
          one_misses _ r m Raise (off Raise Lower refl same)
          ∙ ap (λ (z : ℕ). fold (told_more r f k) z (one_total F r m Lower)) start ∙ here Lower same
      by Raise same =
          ap (λ (z : ℕ). fold (told_more r f k) z (one_total F r m Raise)) (one_misses _ r m Lower (off Lower Raise refl same) ∙ start)
          ∙ here Raise same

  site_hits : (m : ℕ) → f < m → fold (told_more r f k) 0 (totals_of_site F r m) ≡ F r f k
  site_hits zero below = absurd (omega arith)
  site_hits (suc m) below =
      elim (cases_eq m f) [
        | inl same ↦ at_last m same
        | inr apart ↦ both_miss 0 (F r f k) r m (site_hits m (omega (arith, below, apart))) (λ k'. off_field r m k' apart)
      ]

  -- ---- those of all sites but one

  more_sites : (z s m n : ℕ) → fold (told_more r f k) z (totals_of F s m (suc n))
      ≡ fold (told_more r f k) (fold (told_more r f k) z (totals_of F s m n)) (cond (n == s) [] (totals_of_site F n m))
  unfolding totals_of
  more_sites z s m n = fold-append (told_more r f k) z (totals_of F s m n) (cond (n == s) [] (totals_of_site F n m))

  skip_apart : (b : Bool) (z n m : ℕ) → n ≢ r → fold (told_more r f k) z (cond b [] (totals_of_site F n m)) ≡ z
  skip_apart true z n m apart = refl
  skip_apart false z n m apart = site_apart z n m apart

  sites_before : (z s m n : ℕ) → n ≤ r → fold (told_more r f k) z (totals_of F s m n) ≡ z
  unfolding totals_of
  sites_before z s m zero le = refl
  sites_before z s m (suc n) le = more_sites z s m n ∙ skip_apart (n == s) _ n m (omega (arith, le))
      ∙ sites_before z s m n (omega (arith, le))

  sites_hit : (s m n : ℕ) → r < n → r ≢ s → f < m → fold (told_more r f k) 0 (totals_of F s m n) ≡ F r f k
  sites_hit s m zero below apart in_fields = absurd (omega arith)
  sites_hit s m (suc n) below apart in_fields =
      elim (cases_eq n r) [
        | inl same ↦
            let skip : (n == s) ≡ false = ne_eqb n s (λ e. apart (sym same ∙ e)) in
            more_sites 0 s m n
            ∙ ap (λ (z : ℕ). fold (told_more r f k) z (cond (n == s) [] (totals_of_site F n m)))
            (sites_before 0 s m n (omega (arith, same)))
            ∙ ap (λ (b : Bool). fold (told_more r f k) 0 (cond b [] (totals_of_site F n m))) skip
            ∙ ap (λ (x : ℕ). fold (told_more r f k) 0 (totals_of_site F x m)) same
            ∙ site_hits m in_fields
        | inr other ↦ more_sites 0 s m n ∙ skip_apart (n == s) _ n m other ∙ sites_hit s m n (omega (arith, below, other)) apart in_fields
      ]

pub told_is : (F : ℕ → ℕ → Kind → ℕ) (s m n r f : ℕ) (k : Kind) → r < n → r ≢ s → f < m → total_told (totals_of F s m n) r f k ≡ F r f k
unfolding total_told
told_is F s m n r f k below apart in_fields = sites_hit F r f k s m n below apart in_fields

-- ---- those given up, as those of a site

abbrev pub as_total : Cut → Total
as_total t = record { site = record { 0 = 0 }; field = t.field; kind = t.kind; total = t.total }

abbrev pub as_totals : List Cut → List Total
as_totals [] = []
as_totals (t ∷ ts) = as_total t ∷ as_totals ts

as_totals_append : (as1 bs : List Cut) → as_totals (as1 ++ bs) ≡ as_totals as1 ++ as_totals bs
as_totals_append [] bs = refl
as_totals_append (a ∷ as1) bs = ap (λ (l : List Total). as_total a ∷ l) (as_totals_append as1 bs)

one_as_total : (F : ℕ → Kind → ℕ) (f : ℕ) (k : Kind) → as_totals (one_cut F f k) ≡ one_total (λ r. F) 0 f k
one_as_total F f k = by (F f k == 0)
  where
    by : (b : Bool) → as_totals (cond b [] (record { field = record { 0 = f }; kind = k; total = F f k } ∷ []))
        ≡ cond b [] (record { site = record { 0 = 0 }; field = record { 0 = f }; kind = k; total = F f k } ∷ [])
    by true = refl
    by false = refl

pub cuts_as_totals : (F : ℕ → Kind → ℕ) (m : ℕ) → as_totals (cuts_of F m) ≡ totals_of_site (λ r. F) 0 m
unfolding cuts_of totals_of_site
cuts_as_totals F zero = refl
cuts_as_totals F (suc m) =
    as_totals_append (cuts_of F m) (one_cut F m Lower ++ one_cut F m Raise)
    ∙ ap (λ (l : List Total). l ++ as_totals (one_cut F m Lower ++ one_cut F m Raise)) (cuts_as_totals F m)
    ∙ ap (λ (l : List Total). totals_of_site (λ r. F) 0 m ++ l)
    (as_totals_append (one_cut F m Lower) (one_cut F m Raise)
    ∙ ap (λ (l : List Total). l ++ as_totals (one_cut F m Raise)) (one_as_total F m Lower)
    ∙ ap (λ (l : List Total). one_total (λ r. F) 0 m Lower ++ l) (one_as_total F m Raise))

told_as_total : (f : ℕ) (k : Kind) (z : ℕ) (ts : List Cut) → fold (cut_told_more f k) z ts ≡ fold (told_more 0 f k) z (as_totals ts)
told_as_total f k z [] = refl
told_as_total f k z (t ∷ ts) = told_as_total f k (cut_told_more f k z t) ts

pub cut_told_is : (F : ℕ → Kind → ℕ) (m f : ℕ) (k : Kind) → f < m → cut_told (cuts_of F m) f k ≡ F f k
unfolding cut_told
cut_told_is F m f k below =
    told_as_total f k 0 (cuts_of F m)
    ∙ ap (λ (l : List Total). fold (told_more 0 f k) 0 l) (cuts_as_totals F m)
    ∙ site_hits (λ r. F) 0 f k m below

-- ---- rights

pub rights_length : (F : ℕ → Kind → ℕ) (m : ℕ) → length (rights_of F m) ≡ m
unfolding rights_of
rights_length F zero = refl
rights_length F (suc m) = omega (arith, length-append (rights_of F m) ((F m Lower, F m Raise) ∷ []), rights_length F m)

pub rights_at : (F : ℕ → Kind → ℕ) (m f : ℕ) (d : ℕ × ℕ) → f < m → get_or (rights_of F m) f d ≡ (F f Lower, F f Raise)
unfolding rights_of
rights_at F zero f d below = absurd (omega arith)
rights_at F (suc m) f d below =
    elim (cases_eq m f) [
      | inl same ↦
          ap (λ (x : ℕ). get_or (rights_of F m ++ (F m Lower, F m Raise) ∷ []) x d) (sym same ∙ sym (rights_length F m))
          ∙ get_or-append_seam (rights_of F m) (F m Lower, F m Raise) [] d
          ∙ ap (λ (x : ℕ). (F x Lower, F x Raise)) same
      | inr apart ↦
          let less : f < m = omega (arith, below, apart) in
          get_or-append (rights_of F m) ((F m Lower, F m Raise) ∷ []) d f (omega (arith, less, rights_length F m)) ∙ rights_at F m f d less
    ]

pub rights_told_at : (F : ℕ → Kind → ℕ) (m f : ℕ) (k : Kind) → f < m → rights_told (rights_of F m) f k ≡ F f k
rights_told_at F m f Lower below = ap (λ (x : ℕ × ℕ). x.0) (rights_at F m f (0, 0) below)
rights_told_at F m f Raise below = ap (λ (x : ℕ × ℕ). x.1) (rights_at F m f (0, 0) below)

-- ---- equal summaries

rights_equal : (as1 bs : List (ℕ × ℕ)) → same_rights as1 bs ≡ true → as1 ≡ bs
rights_equal [] [] h = refl
rights_equal [] (b ∷ bs) h = cc
rights_equal (a ∷ as1) [] h = cc
rights_equal (a ∷ as1) (b ∷ bs) h =
    let p = and_parts ((a.0 == b.0) && (a.1 == b.1)) (same_rights as1 bs) h in
    let q = and_parts (a.0 == b.0) (a.1 == b.1) p.0 in
    let x : a.0 ≡ b.0 = eqb-true _ _ q.0 in
    let y : a.1 ≡ b.1 = eqb-true _ _ q.1 in
    let pair : ◌≡◌ {A = ℕ × ℕ} (a.0, a.1) (b.0, b.1) = ap (λ (n : ℕ). (n, a.1)) x ∙ ap (λ (n : ℕ). (b.0, n)) y in
    ap (λ (z : ℕ × ℕ). z ∷ as1) pair ∙ ap (λ (z : List (ℕ × ℕ)). b ∷ z) (rights_equal as1 bs p.1)

total_equal : (a b : Total) → a.site.0 ≡ b.site.0 → a.field.0 ≡ b.field.0 → a.kind ≡ b.kind → a.total ≡ b.total → a ≡ b
total_equal a b site field kind total =
    let made : ◌≡◌ {A = Total} (record { site = record { 0 = a.site.0 }; field = record { 0 = a.field.0 }; kind = a.kind; total = a.total })
    (record { site = record { 0 = b.site.0 }; field = record { 0 = b.field.0 }; kind = b.kind; total = b.total }) = cc in
    made

totals_equal : (as1 bs : List Total) → same_totals as1 bs ≡ true → as1 ≡ bs
totals_equal [] [] h = refl
totals_equal [] (b ∷ bs) h = cc
totals_equal (a ∷ as1) [] h = cc
totals_equal (a ∷ as1) (b ∷ bs) h =
    let p = five_parts (a.site.0 == b.site.0) (a.field.0 == b.field.0) (same_kind a.kind b.kind) (a.total == b.total)
    (same_totals as1 bs) h in
    let head : a ≡ b = total_equal a b (eqb-true _ _ p.0) (eqb-true _ _ p.1) (same_kind-true _ _ p.2) (eqb-true _ _ p.3) in
    ap (λ (z : Total). z ∷ as1) head ∙ ap (λ (z : List Total). b ∷ z) (totals_equal as1 bs p.4)
  where
    five_parts : (a b c d e : Bool) → (a && b && c && d && e) ≡ true → (a ≡ true) × (b ≡ true) × (c ≡ true) × (d ≡ true) × (e ≡ true)
    five_parts true true true true true h = (refl, refl, refl, refl, refl)
    five_parts false b c d e h = cc
    five_parts true false c d e h = cc
    five_parts true true false d e h = cc
    five_parts true true true false e h = cc
    five_parts true true true true false h = cc

cut_equal : (a b : Cut) → a.field.0 ≡ b.field.0 → a.kind ≡ b.kind → a.total ≡ b.total → a ≡ b
cut_equal a b field kind total =
    let made : ◌≡◌ {A = Cut} (record { field = record { 0 = a.field.0 }; kind = a.kind; total = a.total })
    (record { field = record { 0 = b.field.0 }; kind = b.kind; total = b.total }) = cc in
    made

cuts_equal : (as1 bs : List Cut) → same_cuts as1 bs ≡ true → as1 ≡ bs
cuts_equal [] [] h = refl
cuts_equal [] (b ∷ bs) h = cc
cuts_equal (a ∷ as1) [] h = cc
cuts_equal (a ∷ as1) (b ∷ bs) h =
    let p = four_parts (a.field.0 == b.field.0) (same_kind a.kind b.kind) (a.total == b.total) (same_cuts as1 bs) h in
    let head : a ≡ b = cut_equal a b (eqb-true _ _ p.0) (same_kind-true _ _ p.1) (eqb-true _ _ p.2) in
    ap (λ (z : Cut). z ∷ as1) head ∙ ap (λ (z : List Cut). b ∷ z) (cuts_equal as1 bs p.3)
  where
    four_parts : (a b c d : Bool) → (a && b && c && d) ≡ true → (a ≡ true) × (b ≡ true) × (c ≡ true) × (d ≡ true)
    four_parts true true true true h = (refl, refl, refl, refl)
    four_parts false b c d h = cc
    four_parts true false c d h = cc
    four_parts true true false d h = cc
    four_parts true true true false h = cc

pub summary_equal : (v w : SummaryValue) → same_summary v w ≡ true → v ≡ w
summary_equal v w h =
    let o = and_parts ((v.epoch == w.epoch) && same_rights v.rights w.rights && same_totals v.gifts w.gifts
    && same_totals v.accepts w.accepts) (same_cuts v.tightenings w.tightenings) h in
    let p = and_parts ((v.epoch == w.epoch) && same_rights v.rights w.rights && same_totals v.gifts w.gifts)
    (same_totals v.accepts w.accepts) o.0 in
    let q = and_parts ((v.epoch == w.epoch) && same_rights v.rights w.rights) (same_totals v.gifts w.gifts) p.0 in
    let t = and_parts (v.epoch == w.epoch) (same_rights v.rights w.rights) q.0 in
    let e : v.epoch ≡ w.epoch = eqb-true _ _ t.0 in
    let a : v.rights ≡ w.rights = rights_equal _ _ t.1 in
    let b : v.gifts ≡ w.gifts = totals_equal _ _ q.1 in
    let c : v.accepts ≡ w.accepts = totals_equal _ _ p.1 in
    let d : v.tightenings ≡ w.tightenings = cuts_equal _ _ o.1 in
    let made : ◌≡◌ {A = SummaryValue} (record {
      epoch = v.epoch;
      rights = v.rights;
      gifts = v.gifts;
      accepts = v.accepts;
      tightenings =
          v.tightenings;
    }) (record { epoch = w.epoch; rights = w.rights; gifts = w.gifts; accepts = w.accepts; tightenings = w.tightenings })
    = cc in
    made

-- ---- where the totals of a summary stand

module _ (schema : SchemaValue) (s : ℕ) (F : ℕ → ℕ → Kind → ℕ) where
  abbrev Here : Total → Type 0
  Here t = IsWhereDue schema s t

  all_append : (as1 bs : List Total) → AllByRecursion Here as1 → AllByRecursion Here bs → AllByRecursion Here (as1 ++ bs)
  all_append [] bs p q = q
  all_append (a ∷ as1) bs p q = (p.0, all_append as1 bs p.1 q)

  one_placed : (r f : ℕ) (k : Kind) → r < schema.sites → r ≢ s → f < length schema.fields → AllByRecursion Here (one_total F r f k)
  one_placed r f k site_in other field_in = by (F r f k == 0)
    where
      by : (b : Bool) → AllByRecursion Here (cond b []
          (record { site = record { 0 = r }; field = record { 0 = f }; kind = k; total = F r f k } ∷ []))
      by true = tt
      by false = (record { site_in = site_in; other = other; field_in = field_in }, tt)

  site_placed : (r m : ℕ) → r < schema.sites → r ≢ s → m ≤ length schema.fields → AllByRecursion Here (totals_of_site F r m)
  unfolding totals_of_site
  site_placed r zero site_in other le = tt
  site_placed r (suc m) site_in other le =
      let in_ : m < length schema.fields = omega (arith, le) in
      all_append (totals_of_site F r m) (one_total F r m Lower ++ one_total F r m Raise) (site_placed r m site_in other (omega (arith, le)))
      (all_append (one_total F r m Lower) (one_total F r m Raise) (one_placed r m Lower site_in other in_)
      (one_placed r m Raise site_in other in_))

  pub all_placed : (n : ℕ) → n ≤ schema.sites → AllByRecursion Here (totals_of F s (length schema.fields) n)
  unfolding totals_of
  all_placed zero le = tt
  all_placed (suc n) le =
      all_append (totals_of F s (length schema.fields) n) (cond (n == s) [] (totals_of_site F n (length schema.fields)))
      (all_placed n (omega (arith, le))) (by (n == s) refl)
    where
      by : (b : Bool) → (n == s) ≡ b → AllByRecursion Here (cond b [] (totals_of_site F n (length schema.fields)))
      by true is = tt
      by false is = site_placed n (length schema.fields) (omega (arith, le)) (eqb-false n s is) (omega arith)

-- ---- what a lawful summary tells

pub summary_tells : (schema : SchemaValue) (s : ℕ) (rs : List Record) → TellsOf schema s (summary_of schema s rs) rs
unfolding summary_of
summary_tells schema s rs =
    let m = length schema.fields in
    record {
      epoch = refl;
      count = rights_length (own_in schema s rs) m;
      rights = λ f k below. rights_told_at (own_in schema s rs) m f k below;
      given = λ r f k site_in other field_in. told_is (given_in rs) s m schema.sites r f k site_in other field_in;
      accepted = λ r f k site_in other field_in. told_is (accepted_in rs) s m schema.sites r f k site_in other field_in;
      cut = λ f k below. cut_told_is (cut_in rs) m f k below;
      gifts_placed = all_placed schema s (given_in rs) schema.sites (omega arith);
      accepts_placed = all_placed schema s (accepted_in rs) schema.sites (omega arith);
    }

-- a summary that may stand behind records tells what they stand for, and so what they and itself stand for
pub lawful_tells : (schema : SchemaValue) (s : ℕ) (rs : List Record) (v : SummaryValue) → may_follow schema s rs (summary_record v) ≡ true
    → TellsOf schema s v (rs ++ summary_record v ∷ [])
lawful_tells schema s rs v may =
    let before : TellsOf schema s v rs = subst (λ (x : SummaryValue). TellsOf schema s x rs)
    (sym (summary_equal v (summary_of schema s rs) may)) (summary_tells schema s rs) in
    let same : SameSums (rs ++ summary_record v ∷ []) rs = same_summary_push rs rs v (same_sums rs) in
    record {
      epoch = before.epoch ∙ sym same.epoch;
      count = before.count;
      rights = λ f k below. before.rights f k below ∙ sym (own_same schema s (rs ++ summary_record v ∷ []) rs same f k);
      given = λ r f k site_in other field_in. before.given r f k site_in other field_in ∙ sym (same.given r f k);
      accepted = λ r f k site_in other field_in. before.accepted r f k site_in other field_in ∙ sym (same.accepted r f k);
      cut = λ f k below. before.cut f k below ∙ sym (same.cut f k);
      gifts_placed = before.gifts_placed;
      accepts_placed = before.accepts_placed;
    }

-- a summary that is a record is in its ranges (with the text of summaries this is the identity)
pub summary_fits : (v : SummaryValue) → IsRecord (summary_record v) → IsSummary v
summary_fits v fits = fits
