-- A base in range is the canonical summary of its own numbers exactly where it tells each field of the schema, and other sites and
-- fields of the schema alone.
use Rattle.std.proofs.Common.{◌≡◌, ℕ, ◌<◌, ◌≤◌, ◌==◌, Bool, true, false, not, ◌&&◌, cond, List, [], ◌∷◌, length, refl, sym, ap, ◌∙◌, subst, arith}
use Rattle.std.specs.Prelude.{nat_lt, fold}
use Rattle.std.specs.List.{AllByRecursion, list_all}
use Rattle.std.proofs.lemmas.Bool.{and_parts, ltb-true, lt-ltb, eq-eqb, ne_eqb}
use Rattle.std.proofs.lemmas.List.{same_lists as same_reads, get_or_default}
use Rattle.field_bounds.specs.declared.kind.Kind.{Kind}
use Rattle.field_bounds.specs.Kind.{same_kind}
use Rattle.field_bounds.specs.Schema.{SchemaValue}
use Rattle.field_bounds.specs.Limits.{IsSchema}
use Rattle.field_bounds.specs.Owed.{max_change, max_total}
use Rattle.kept_records.specs.declared.total.Total.{Total}
use Rattle.kept_records.specs.declared.total.Cut.{Cut}
use Rattle.kept_records.specs.Summary.{SummaryValue, rights_of, totals_of, cuts_of, rights_told, told_more, total_told, cut_told_more, cut_told, is_cut_before, rises, cuts_rise}
use Rattle.kept_records.specs.Summaries.{IsWhereDue}
use Rattle.kept_records.specs.Text.{IsListed, IsListedCut, IsSummary}
use Rattle.kept_records.specs.Stands.{is_field, is_other_site}
use Rattle.kept_records.proofs.Told.{told_is, as_total, as_totals, cuts_as_totals, rights_length, rights_at, all_placed}
use Rattle.log_replay.proofs.Rising.{Under, all_under, all_rise}
use Rattle.log_bases.specs.Bases.{told_again}
use Rattle.log_bases.specs.Numbers.{is_due, is_cut_due}
use Rattle.log_bases.proofs.Ordered.{Listed, same_lists}
use Rattle.log_bases.proofs.Canonical.{told_few, gifts_due, accepts_due}

-- ---- rights

rights_again : (rights : List (ℕ × ℕ)) (m : ℕ) → length rights ≡ m → rights ≡ rights_of (rights_told rights) m
rights_again rights m count =
    same_reads rights (rights_of (rights_told rights) m) (count ∙ sym (rights_length (rights_told rights) m))
    (λ i d below. get_or_default rights i d (0, 0) below ∙ sym (rights_at (rights_told rights) m i d (omega (arith, below, count))))

-- ---- totals with other sites

all_both : (P Q : Total → Type 0) (ts : List Total) → AllByRecursion P ts → AllByRecursion Q ts → AllByRecursion (λ t. P t × Q t) ts
all_both P Q [] p q = tt
all_both P Q (t ∷ ts) p q = ((p.0, q.0), all_both P Q ts p.1 q.1)

all_weaker : (P Q : Total → Type 0) → ((t : Total) → P t → Q t) → (ts : List Total) → AllByRecursion P ts → AllByRecursion Q ts
all_weaker P Q h [] all = tt
all_weaker P Q h (t ∷ ts) all = (h t all.0, all_weaker P Q h ts all.1)

listed_under : (n m : ℕ) → n ≤ 64 → m ≤ 256 → (t : Total) → Under n m max_total t → IsListed t
listed_under n m few_sites few_fields t u = (omega (arith, u.site, few_sites), omega (arith, u.field, few_fields), (u.some, u.few))

told_both : (ts : List Total) (x : Total) → fold (told_more x.site.0 x.field.0 x.kind) 0 ts ≡ total_told ts x.site.0 x.field.0 x.kind
unfolding total_told
told_both ts x = refl

totals_again : (schema : SchemaValue) → IsSchema schema → (s : ℕ) (ts : List Total) → AllByRecursion IsListed ts → rises ts ≡ true
    → AllByRecursion (λ t. IsWhereDue schema s t) ts → ts ≡ totals_of (total_told ts) s (length schema.fields) schema.sites
totals_again schema good s ts in_range rising due =
    let m = length schema.fields in
    let n = schema.sites in
    let F = total_told ts in
    let small : (r f : ℕ) (k : Kind) → F r f k ≤ max_total = λ r f k. told_few ts in_range r f k in
    let Due : Total → Type 0 = λ t. IsWhereDue schema s t in
    same_lists Due ts (totals_of F s m n) (all_both IsListed Due ts in_range due)
    (all_both IsListed Due (totals_of F s m n)
    (all_weaker (Under n m max_total) IsListed (listed_under n m good.few_sites good.few_fields) (totals_of F s m n)
    (all_under F max_total small s m n))
    (all_placed schema s F n (omega arith))) rising (all_rise F max_total small s m n)
    (λ x is. told_both ts x ∙ sym (told_is F s m n x.site.0 x.field.0 x.kind is.site_in is.other is.field_in)
    ∙ sym (told_both (totals_of F s m n) x))

-- ---- totals that were given up, as those of one site

cut_few : (ts : List Cut) → AllByRecursion IsListedCut ts → (f : ℕ) (k : Kind) → (z : ℕ) → z ≤ max_change
    → fold (cut_told_more f k) z ts ≤ max_change
cut_few [] all f k z few = few
cut_few (t ∷ ts) all f k z few =
    cut_few ts all.1 f k (cut_told_more f k z t) (one ((t.field.0 == f) && same_kind t.kind k))
  where
    one : (b : Bool) → cond b t.total z ≤ max_change
    one true = all.0.1.1
    one false = few

pub cuts_few : (ts : List Cut) → AllByRecursion IsListedCut ts → (f : ℕ) (k : Kind) → cut_told ts f k ≤ max_change
unfolding cut_told
cuts_few ts all f k = cut_few ts all f k 0 (omega arith)

told_as_total : (f : ℕ) (k : Kind) (z : ℕ) (ts : List Cut) → fold (cut_told_more f k) z ts ≡ fold (told_more 0 f k) z (as_totals ts)
told_as_total f k z [] = refl
told_as_total f k z (t ∷ ts) = told_as_total f k (cut_told_more f k z t) ts

rise_as_totals : (ts : List Cut) → cuts_rise ts ≡ rises (as_totals ts)
rise_as_totals [] = refl
rise_as_totals (a ∷ []) = refl
rise_as_totals (a ∷ b ∷ ts) = ap (λ (x : Bool). is_cut_before a b && x) (rise_as_totals (b ∷ ts))

-- of one site, and of so many fields
abbrev Below : ℕ → Total → Type 0
Below m t = (t.site.0 ≡ 0) × (t.field.0 < m)

cuts_below : (schema : SchemaValue) (ts : List Cut) → AllByRecursion IsListedCut ts → list_all (is_cut_due schema) ts ≡ true
    → AllByRecursion (Listed (Below (length schema.fields))) (as_totals ts)
cuts_below schema [] all due = tt
cuts_below schema (t ∷ ts) all due =
    let p = and_parts (is_cut_due schema t) (list_all (is_cut_due schema) ts) due in (
      ((omega arith, all.0.0, (all.0.1.0, omega (arith, all.0.1.1))), (refl, ltb-true _ _ p.0)),
      cuts_below schema ts all.1 p.1,
    )

below_due : (schema : SchemaValue) (ts : List Cut) → AllByRecursion (Below (length schema.fields)) (as_totals ts)
    → list_all (is_cut_due schema) ts ≡ true
below_due schema [] all = refl
below_due schema (t ∷ ts) all = rw (lt-ltb _ _ all.0.1, below_due schema ts all.1) refl

cut_same : (a b : Cut) → as_total a ≡ as_total b → a ≡ b
cut_same a b e =
    let field : a.field.0 ≡ b.field.0 = ap (λ (t : Total). t.field.0) e in
    let kind : a.kind ≡ b.kind = ap (λ (t : Total). t.kind) e in
    let total : a.total ≡ b.total = ap (λ (t : Total). t.total) e in
    let made : ◌≡◌ {A = Cut} (record { field = record { 0 = a.field.0 }; kind = a.kind; total = a.total })
    (record { field = record { 0 = b.field.0 }; kind = b.kind; total = b.total }) = cc in
    made

abbrev head_of : List Total → Total → Total
head_of [] d = d
head_of (t ∷ ts) d = t

abbrev tail_of : List Total → List Total
tail_of [] = []
tail_of (t ∷ ts) = ts

cuts_same : (as1 bs : List Cut) → as_totals as1 ≡ as_totals bs → as1 ≡ bs
cuts_same [] [] e = refl
cuts_same [] (b ∷ bs) e = absurd (omega (arith, ap length e))
cuts_same (a ∷ as1) [] e = absurd (omega (arith, ap length e))
cuts_same (a ∷ as1) (b ∷ bs) e =
    ap (λ (x : Cut). x ∷ as1) (cut_same a b (ap (λ (l : List Total). head_of l (as_total a)) e))
    ∙ ap (λ (l : List Cut). b ∷ l) (cuts_same as1 bs (ap tail_of e))

module _ (F : ℕ → Kind → ℕ) (small : (f : ℕ) (k : Kind) → F f k ≤ max_change) (m : ℕ) (few : m ≤ 256) where
  abbrev As : List Total
  As = totals_of (λ r. F) 1 m 1

  as_site : as_totals (cuts_of F m) ≡ As
  unfolding totals_of
  as_site = cuts_as_totals F m

  small_total : (r f : ℕ) (k : Kind) → F f k ≤ max_total
  small_total r f k = omega (arith, small f k)

  as_under : AllByRecursion (Under 1 m max_total) As
  as_under = all_under (λ r. F) max_total small_total 1 m 1

  as_below : AllByRecursion (Below m) As
  as_below = all_weaker (Under 1 m max_total) (Below m) (λ t u. (omega (arith, u.site), u.field)) As as_under

  as_listed : AllByRecursion (Listed (Below m)) As
  as_listed =
      all_both IsListed (Below m) As (all_weaker (Under 1 m max_total) IsListed (listed_under 1 m (omega arith) few) As as_under) as_below

  as_rise : rises As ≡ true
  as_rise = all_rise (λ r. F) max_total small_total 1 m 1

  as_told : (x : Total) → Below m x → fold (told_more x.site.0 x.field.0 x.kind) 0 As ≡ F x.field.0 x.kind
  unfolding total_told
  as_told x is =
      ap (λ (r : ℕ). fold (told_more r x.field.0 x.kind) 0 As) is.0
      ∙ told_is (λ r. F) 1 m 1 0 x.field.0 x.kind (omega arith) (omega arith) is.1

told_there : (ts : List Cut) (x : Total) → x.site.0 ≡ 0
    → fold (told_more x.site.0 x.field.0 x.kind) 0 (as_totals ts) ≡ cut_told ts x.field.0 x.kind
unfolding cut_told
told_there ts x is =
    ap (λ (r : ℕ). fold (told_more r x.field.0 x.kind) 0 (as_totals ts)) is ∙ sym (told_as_total x.field.0 x.kind 0 ts)

cuts_again : (schema : SchemaValue) → IsSchema schema → (ts : List Cut) → AllByRecursion IsListedCut ts → cuts_rise ts ≡ true
    → list_all (is_cut_due schema) ts ≡ true → ts ≡ cuts_of (cut_told ts) (length schema.fields)
cuts_again schema good ts in_range rising due =
    let m = length schema.fields in
    let F = cut_told ts in
    let small = cuts_few ts in_range in
    let few : m ≤ 256 = good.few_fields in
    let same : as_totals ts ≡ As F small m few =
    same_lists (Below m) (as_totals ts) (As F small m few) (cuts_below schema ts in_range due) (as_listed F small m few)
    (sym (rise_as_totals ts) ∙ rising) (as_rise F small m few) (λ x is. told_there ts x is.0 ∙ sym (as_told F small m few x is)) in
    cuts_same ts (cuts_of F m) (same ∙ sym (as_site F small m few))

-- ---- where totals stand, by a test

pub all_due : (schema : SchemaValue) (s : ℕ) (ts : List Total) → list_all (is_due schema s) ts ≡ true
    → AllByRecursion (λ t. IsWhereDue schema s t) ts
all_due schema s [] e = tt
all_due schema s (t ∷ ts) e =
    let p = and_parts (is_due schema s t) (list_all (is_due schema s) ts) e in
    let q = and_parts (is_other_site schema s t.site.0) (is_field schema t.field.0) p.0 in
    let o = and_parts (nat_lt t.site.0 schema.sites) (not (t.site.0 == s)) q.0 in (
      record {
        site_in = ltb-true _ _ o.0;
        other = λ same. by (t.site.0 == s) (eq-eqb _ _ same) o.1;
        field_in = ltb-true _ _ q.1;
      },
      all_due schema s ts p.1,
    )
  where
    by : (b : Bool) → b ≡ true → not b ≡ true → ⊥
    by true h n = absurd cc
    by false h n = absurd cc

pub due_all : (schema : SchemaValue) (s : ℕ) (ts : List Total) → AllByRecursion (λ t. IsWhereDue schema s t) ts
    → list_all (is_due schema s) ts ≡ true
due_all schema s [] all = refl
due_all schema s (t ∷ ts) all =
    rw (lt-ltb _ _ all.0.site_in, ne_eqb _ _ all.0.other, lt-ltb _ _ all.0.field_in, due_all schema s ts all.1) refl

-- ---- the base

module _ (schema : SchemaValue) (good : IsSchema schema) (s : ℕ) (base : SummaryValue) (fits : IsSummary base) where
  pub formed : length base.rights ≡ length schema.fields → list_all (is_due schema s) base.gifts ≡ true
      → list_all (is_due schema s) base.accepts ≡ true → list_all (is_cut_due schema) base.tightenings ≡ true
      → base ≡ told_again schema s base
  formed count gifts accepts cuts =
      let rights-are = rights_again base.rights (length schema.fields) count in
      let gifts-are = totals_again schema good s base.gifts fits.gifts fits.gifts_rise (all_due schema s base.gifts gifts) in
      let accepts-are = totals_again schema good s base.accepts fits.accepts fits.accepts_rise (all_due schema s base.accepts accepts) in
      let cuts-are = cuts_again schema good base.tightenings fits.tightenings fits.tightenings_rise cuts in
      let made : ◌≡◌ {A = SummaryValue} (record {
        epoch = base.epoch;
        rights = base.rights;
        gifts = base.gifts;
        accepts = base.accepts;
        tightenings = base.tightenings;
      }) (told_again schema s base) = cc (rights-are, gifts-are, accepts-are, cuts-are) in
      made

  module _ (form : base ≡ told_again schema s base) where
    pub form_count : length base.rights ≡ length schema.fields
    form_count =
        ap (λ (v : SummaryValue). length v.rights) form ∙ rights_length (rights_told base.rights) (length schema.fields)

    pub form_gifts : list_all (is_due schema s) base.gifts ≡ true
    form_gifts = due_all schema s base.gifts (gifts_due schema s base form)

    pub form_accepts : list_all (is_due schema s) base.accepts ≡ true
    form_accepts = due_all schema s base.accepts (accepts_due schema s base form)

    pub form_cuts : list_all (is_cut_due schema) base.tightenings ≡ true
    form_cuts =
        let m = length schema.fields in
        let F = cut_told base.tightenings in
        let small = cuts_few base.tightenings fits.tightenings in
        subst (λ (ts : List Cut). list_all (is_cut_due schema) ts ≡ true) (sym (ap (λ (v : SummaryValue). v.tightenings) form))
        (below_due schema (cuts_of F m)
        (subst (λ (ts : List Total). AllByRecursion (Below m) ts) (sym (as_site F small m good.few_fields))
        (as_below F small m good.few_fields)))
