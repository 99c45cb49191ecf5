-- The summary of a standing is that of the records that it is for.
use Rattle.std.proofs.Common.{◌≡◌, ◌≢◌, ℕ, zero, suc, ◌+◌, ◌<◌, ◌==◌, ◌&&◌, Bool, true, false, cond, List, [], ◌∷◌, ◌++◌, length, take, get_or, append_assoc, refl, sym, ◌∙◌, ap, arith}
use Rattle.std.specs.Prelude.{Option, Some, None}
use Rattle.std.proofs.lemmas.Bool.{eqb-false, eq-eqb, ne_eqb}
use Rattle.std.proofs.lemmas.List.{append-nil}
use Rattle.std.proofs.lemmas.List.Sums.{fold_more}
use Rattle.field_bounds.specs.declared.kind.Kind.{Kind}
use Rattle.field_bounds.specs.declared.kind.Kind.TheVariants.{Lower, Raise}
use Rattle.field_bounds.specs.Kind.{same_kind}
use Rattle.field_bounds.specs.Schema.{SchemaValue}
use Rattle.kept_records.specs.declared.record.Record.{Record}
use Rattle.kept_records.specs.declared.total.Total.{Total}
use Rattle.kept_records.specs.declared.total.Cut.{Cut}
use Rattle.kept_records.specs.Summary.{SummaryValue, same_rights, same_totals, same_cuts, one_total, one_cut, totals_of_site, totals_of, cuts_of, rights_of, cut_told_more, cut_told}
use Rattle.kept_records.specs.Stands.{greatest, own_in, given_in, accepted_in, cut_in, summary_of}
use Rattle.site_rights.specs.Rights.{own_at, cut_at}
use Rattle.gift_ledger.specs.declared.account.Account.{Account}
use Rattle.gift_ledger.specs.declared.account.FieldAccounts.{FieldAccounts}
use Rattle.gift_ledger.specs.Ledger.{account_in, account_at, LedgerValue}
use Rattle.log_replay.specs.declared.standing.Standing.{Standing}
use Rattle.log_replay.specs.Standing.{IsOther, Stands}
use Rattle.log_replay.specs.Telling.{side, side_in, side_with, is_of_site, summary_now}

one_same : (F G : ℕ → ℕ → Kind → ℕ) (r f : ℕ) (k : Kind) → F r f k ≡ G r f k → one_total F r f k ≡ one_total G r f k
one_same F G r f k h = ap (λ (n : ℕ). cond (n == 0) []
    (record { site = record { 0 = r }; field = record { 0 = f }; kind = k; total = n } ∷ [])) h

site_same : (F G : ℕ → ℕ → Kind → ℕ) (r m : ℕ) → ((f : ℕ) (k : Kind) → f < m → F r f k ≡ G r f k)
    → totals_of_site F r m ≡ totals_of_site G r m
unfolding totals_of_site
site_same F G r zero h = refl
site_same F G r (suc m) h =
    let low = one_same F G r m Lower (h m Lower (omega arith)) in
    let high = one_same F G r m Raise (h m Raise (omega arith)) in
    let rest = site_same F G r m (λ f k below. h f k (omega (arith, below))) in
    rw (rest, low, high) refl

-- the totals of a site by accounts that read as its own
pub side_by_accounts : (given : Bool) (ledger : LedgerValue) (accounts : List FieldAccounts) (r f : ℕ) (k : Kind)
    → account_in accounts f k ≡ account_at ledger r f k → side_in given accounts f k ≡ side given ledger r f k
side_by_accounts true ledger accounts r f k reads = ap (λ (account : Account). account.given) reads
side_by_accounts false ledger accounts r f k reads = ap (λ (account : Account). account.accepted) reads

-- totals that are all 0 add nothing
nothing_of_site : (F : ℕ → ℕ → Kind → ℕ) (r m : ℕ) → ((f : ℕ) (k : Kind) → F r f k ≡ 0) → totals_of_site F r m ≡ []
unfolding totals_of_site
nothing_of_site F r zero none = refl
nothing_of_site F r (suc m) none =
    let low = one_nothing F r m Lower (none m Lower) in
    let high = one_nothing F r m Raise (none m Raise) in
    let rest = nothing_of_site F r m none in
    rw (rest, low, high) refl
  where
    one_nothing : (F : ℕ → ℕ → Kind → ℕ) (r f : ℕ) (k : Kind) → F r f k ≡ 0 → one_total F r f k ≡ []
    one_nothing F r f k none = ap (λ (n : ℕ). cond (n == 0) []
        (record { site = record { 0 = r }; field = record { 0 = f }; kind = k; total = n } ∷ [])) none

-- so no accounts at all add nothing
pub site_without_accounts : (given : Bool) (ledger : LedgerValue) (accounts : List FieldAccounts) (r m : ℕ) (start : List Total)
    → ((f : ℕ) (k : Kind) → account_in accounts f k ≡ account_at ledger r f k) → length accounts ≡ 0
    → start ≡ start ++ totals_of_site (side given ledger) r m
site_without_accounts given ledger [] r m start reads none =
    sym (append-nil start)
    ∙ ap (λ (l : List Total). start ++ l) (sym (nothing_of_site (side given ledger) r m (λ f k.
    sym (side_by_accounts given ledger [] r f k (reads f k)) ∙ nothing given f k)))
  where
    nothing : (given : Bool) (f : ℕ) (k : Kind) → side_in given [] f k ≡ 0
    nothing true f Lower = refl
    nothing true f Raise = refl
    nothing false f Lower = refl
    nothing false f Raise = refl
site_without_accounts given ledger (a ∷ accounts) r m start reads none = absurd (omega (arith, none))

-- a total told anew changes none of another site
of_other : (anew : Option Total) (given : Bool) (ledger : LedgerValue) (r f : ℕ) (k : Kind) → is_of_site anew r ≡ false
    → side given ledger r f k ≡ side_with anew given ledger r f k
of_other None given ledger r f k off = refl
of_other (Some t) given ledger r f k off =
    ap (λ (c : Bool). cond (c && (t.field.0 == f) && same_kind t.kind k) t.total (side given ledger r f k)) (sym off)

pub other_site : (anew : Option Total) (given : Bool) (ledger : LedgerValue) (r m : ℕ) (start : List Total) → is_of_site anew r ≡ false
    → start ++ totals_of_site (side given ledger) r m ≡ start ++ totals_of_site (side_with anew given ledger) r m
other_site anew given ledger r m start off =
    ap (λ (l : List Total). start ++ l)
    (site_same (side given ledger) (side_with anew given ledger) r m (λ f k below. of_other anew given ledger r f k off))

pub totals_same : (F G : ℕ → ℕ → Kind → ℕ) (s m n : ℕ) → ((r f : ℕ) (k : Kind) → r < n → r ≢ s → f < m → F r f k ≡ G r f k)
    → totals_of F s m n ≡ totals_of G s m n
unfolding totals_of
totals_same F G s m zero h = refl
totals_same F G s m (suc n) h =
    let rest = totals_same F G s m n (λ r f k below apart in_. h r f k (omega (arith, below)) apart in_) in
    ap (λ (l : List Total). l ++ cond (n == s) [] (totals_of_site F n m)) rest
    ∙ ap (λ (l : List Total). totals_of G s m n ++ l) (by (n == s) refl)
  where
    by : (b : Bool) → (n == s) ≡ b → cond b [] (totals_of_site F n m) ≡ cond b [] (totals_of_site G n m)
    by true is = refl
    by false is = site_same F G n m (λ f k in_. h n f k (omega arith) (eqb-false n s is) in_)

pub rights_same : (F G : ℕ → Kind → ℕ) (m : ℕ) → ((f : ℕ) (k : Kind) → f < m → F f k ≡ G f k) → rights_of F m ≡ rights_of G m
unfolding rights_of
rights_same F G zero h = refl
rights_same F G (suc m) h =
    let low = h m Lower (omega arith) in
    let high = h m Raise (omega arith) in
    let rest = rights_same F G m (λ f k below. h f k (omega (arith, below))) in
    rw (rest, low, high) refl

one_cut_same : (F G : ℕ → Kind → ℕ) (f : ℕ) (k : Kind) → F f k ≡ G f k → one_cut F f k ≡ one_cut G f k
one_cut_same F G f k h = ap (λ (n : ℕ). cond (n == 0) [] (record { field = record { 0 = f }; kind = k; total = n } ∷ [])) h

pub cuts_same : (F G : ℕ → Kind → ℕ) (m : ℕ) → ((f : ℕ) (k : Kind) → f < m → F f k ≡ G f k) → cuts_of F m ≡ cuts_of G m
unfolding cuts_of
cuts_same F G zero h = refl
cuts_same F G (suc m) h =
    let low = one_cut_same F G m Lower (h m Lower (omega arith)) in
    let high = one_cut_same F G m Raise (h m Raise (omega arith)) in
    let rest = cuts_same F G m (λ f k below. h f k (omega (arith, below))) in
    rw (rest, low, high) refl

pub summary_is : (schema : SchemaValue) (standing : Standing) (s : ℕ) (rs : List Record) → Stands schema s rs standing
    → summary_now schema standing ≡ summary_of schema s rs
unfolding summary_of
summary_is schema standing s rs was =
    let m = length schema.fields in
    let ledger = standing.ledger in
    let rights = rights_same (own_at standing.rights) (own_in schema s rs) m
    (λ f k below. let l : f < length standing.rights = omega (arith, below, was.count) in was.own f k l) in
    let cuts = cuts_same (cut_at standing.rights) (cut_in rs) m (λ f k below. was.cut f k (omega (arith, below, was.count))) in
    let other : (r f : ℕ) → r < schema.sites → r ≢ s → f < m
    → IsOther schema s r f = λ r f site_in apart field_in. record { other = apart; site_in = site_in; field_in = field_in } in
    let gifts = totals_same (side true ledger) (given_in rs) s m schema.sites
    (λ r f k site_in apart field_in. was.given r f k (other r f site_in apart field_in)) in
    let accepts = totals_same (side false ledger) (accepted_in rs) s m schema.sites
    (λ r f k site_in apart field_in. was.accepted r f k (other r f site_in apart field_in)) in
    let here : ledger.site ≡ s = was.site in
    let gifts-here = ap (λ (x : ℕ). totals_of (side true ledger) x m schema.sites) here ∙ gifts in
    let accepts-here = ap (λ (x : ℕ). totals_of (side false ledger) x m schema.sites) here ∙ accepts in
    let made : ◌≡◌ {A = SummaryValue} (record {
      epoch = standing.epoch;
      rights = rights_of (own_at standing.rights) m;
      gifts =
          totals_of (side true ledger) ledger.site m schema.sites;
      accepts = totals_of (side false ledger) ledger.site m schema.sites;
      tightenings = cuts_of (cut_at standing.rights) m;
    })
    (record {
      epoch = greatest rs;
      rights = rights_of (own_in schema s rs) m;
      gifts = totals_of (given_in rs) s m schema.sites;
      accepts =
          totals_of (accepted_in rs) s m schema.sites;
      tightenings = cuts_of (cut_in rs) m;
    }) =
    cc (was.epoch, rights, gifts-here, accepts-here, cuts) in
    made

-- ---- one more field, one more site

pub site_more : (F : ℕ → ℕ → Kind → ℕ) (r m : ℕ) (start before mid after : List Total) → before ≡ start ++ totals_of_site F r m
    → mid ≡ before ++ one_total F r m Lower → after ≡ mid ++ one_total F r m Raise
    → after ≡ start ++ totals_of_site F r (m + 1)
unfolding totals_of_site
site_more F r m start before mid after b a c =
    c ∙ ap (λ (l : List Total). l ++ one_total F r m Raise) (a ∙ ap (λ (l : List Total). l ++ one_total F r m Lower) b)
    ∙ append_assoc (start ++ totals_of_site F r m) (one_total F r m Lower) (one_total F r m Raise)
    ∙ append_assoc start (totals_of_site F r m) (one_total F r m Lower ++ one_total F r m Raise)
    ∙ ap (λ (x : ℕ). start ++ totals_of_site F r x) one
  where
    one : suc m ≡ m + 1
    one = omega arith

pub site_none : (F : ℕ → ℕ → Kind → ℕ) (r : ℕ) (start : List Total) → start ≡ start ++ totals_of_site F r 0
unfolding totals_of_site
site_none F r start = sym (append-nil start)

pub sites_none : (F : ℕ → ℕ → Kind → ℕ) (s m : ℕ) → totals_of F s m 0 ≡ []
unfolding totals_of
sites_none F s m = refl

pub sites_more : (F : ℕ → ℕ → Kind → ℕ) (s m n : ℕ) (before after : List Total) → before ≡ totals_of F s m n → n ≢ s
    → after ≡ before ++ totals_of_site F n m → after ≡ totals_of F s m (n + 1)
unfolding totals_of
sites_more F s m n before after b apart a =
    a ∙ ap (λ (l : List Total). l ++ totals_of_site F n m) b
    ∙ ap (λ (c : Bool). totals_of F s m n ++ cond c [] (totals_of_site F n m)) (sym (ne_eqb n s apart))
    ∙ ap (λ (x : ℕ). totals_of F s m x) one
  where
    one : suc n ≡ n + 1
    one = omega arith

pub sites_same : (F : ℕ → ℕ → Kind → ℕ) (s m n : ℕ) (before : List Total) → before ≡ totals_of F s m n → n ≡ s
    → before ≡ totals_of F s m (n + 1)
unfolding totals_of
sites_same F s m n before b same =
    b ∙ sym (append-nil (totals_of F s m n))
    ∙ ap (λ (c : Bool). totals_of F s m n ++ cond c [] (totals_of_site F n m)) (sym (eq-eqb n s same))
    ∙ ap (λ (x : ℕ). totals_of F s m x) one
  where
    one : suc n ≡ n + 1
    one = omega arith

pub rights_none : (F : ℕ → Kind → ℕ) → rights_of F 0 ≡ []
unfolding rights_of
rights_none F = refl

pub rights_more : (F : ℕ → Kind → ℕ) (m : ℕ) (before after : List (ℕ × ℕ)) (low high : ℕ) → before ≡ rights_of F m → low ≡ F m Lower
    → high ≡ F m Raise → after ≡ before ++ (low, high) ∷ [] → after ≡ rights_of F (m + 1)
unfolding rights_of
rights_more F m before after low high b l h a =
    a ∙ ap (λ (x : List (ℕ × ℕ)). x ++ (low, high) ∷ []) b
    ∙ ap (λ (n : ℕ). rights_of F m ++ (n, high) ∷ []) l ∙ ap (λ (n : ℕ). rights_of F m ++ (F m Lower, n) ∷ []) h
    ∙ ap (λ (x : ℕ). rights_of F x) one
  where
    one : suc m ≡ m + 1
    one = omega arith

-- ---- the ends of two lists

pub rights_end : (as1 bs : List (ℕ × ℕ)) → length as1 ≡ 0 → (length bs == 0) ≡ same_rights as1 bs
rights_end [] [] none = refl
rights_end [] (b ∷ bs) none = ne_eqb (length (b ∷ bs)) 0 (λ e. absurd (omega (arith, e)))
rights_end (a ∷ as1) bs none = absurd (omega (arith, none))

pub totals_end : (as1 bs : List Total) → length as1 ≡ 0 → (length bs == 0) ≡ same_totals as1 bs
totals_end [] [] none = refl
totals_end [] (b ∷ bs) none = ne_eqb (length (b ∷ bs)) 0 (λ e. absurd (omega (arith, e)))
totals_end (a ∷ as1) bs none = absurd (omega (arith, none))

pub rights_over : (as1 bs : List (ℕ × ℕ)) → length as1 ≢ 0 → length bs ≡ 0 → false ≡ same_rights as1 bs
rights_over [] bs some none = absurd (some refl)
rights_over (a ∷ as1) [] some none = refl
rights_over (a ∷ as1) (b ∷ bs) some none = absurd (omega (arith, none))

pub totals_over : (as1 bs : List Total) → length as1 ≢ 0 → length bs ≡ 0 → false ≡ same_totals as1 bs
totals_over [] bs some none = absurd (some refl)
totals_over (a ∷ as1) [] some none = refl
totals_over (a ∷ as1) (b ∷ bs) some none = absurd (omega (arith, none))

pub cuts_end : (as1 bs : List Cut) → length as1 ≡ 0 → (length bs == 0) ≡ same_cuts as1 bs
cuts_end [] [] none = refl
cuts_end [] (b ∷ bs) none = ne_eqb (length (b ∷ bs)) 0 (λ e. absurd (omega (arith, e)))
cuts_end (a ∷ as1) bs none = absurd (omega (arith, none))

pub cuts_over : (as1 bs : List Cut) → length as1 ≢ 0 → length bs ≡ 0 → false ≡ same_cuts as1 bs
cuts_over [] bs some none = absurd (some refl)
cuts_over (a ∷ as1) [] some none = refl
cuts_over (a ∷ as1) (b ∷ bs) some none = absurd (omega (arith, none))

-- ---- what was given up, field by field

pub cuts_none : (F : ℕ → Kind → ℕ) → cuts_of F 0 ≡ []
unfolding cuts_of
cuts_none F = refl

pub cuts_more : (F : ℕ → Kind → ℕ) (m : ℕ) (before mid after : List Cut) → before ≡ cuts_of F m → mid ≡ before ++ one_cut F m Lower
    → after ≡ mid ++ one_cut F m Raise → after ≡ cuts_of F (m + 1)
unfolding cuts_of
cuts_more F m before mid after b a c =
    c ∙ ap (λ (l : List Cut). l ++ one_cut F m Raise) (a ∙ ap (λ (l : List Cut). l ++ one_cut F m Lower) b)
    ∙ append_assoc (cuts_of F m) (one_cut F m Lower) (one_cut F m Raise)
    ∙ ap (λ (x : ℕ). cuts_of F x) one
  where
    one : suc m ≡ m + 1
    one = omega arith

abbrev pub no_cut : Cut
no_cut = record { field = record { 0 = 0 }; kind = Lower; total = 0 }

pub cut_told_none : (f : ℕ) (k : Kind) → 0 ≡ cut_told [] f k
unfolding cut_told
cut_told_none f k = refl

-- one total more that is told
pub cut_told_one : (ts : List Cut) (i f : ℕ) (k : Kind) (before after : ℕ) → i < length ts → before ≡ cut_told (take i ts) f k
    → after ≡ cut_told_more f k before (get_or ts i no_cut) → after ≡ cut_told (take (i + 1) ts) f k
unfolding cut_told
cut_told_one ts i f k before after below b a =
    a ∙ ap (λ (n : ℕ). cut_told_more f k n (get_or ts i no_cut)) b ∙ sym (fold_more (cut_told_more f k) 0 ts i no_cut below)
