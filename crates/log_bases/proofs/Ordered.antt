-- Two lists of totals that rise and tell the same are one.
use Rattle.std.proofs.Common.{◌≡◌, ℕ, ◌+◌, ◌*◌, ◌<◌, ◌≤◌, ◌==◌, Bool, true, false, ◌&&◌, ◌||◌, cond, List, [], ◌∷◌, refl, sym, ap, ◌∙◌, subst, inl, inr, ◌⊎◌, arith}
use Rattle.std.specs.Prelude.{nat_lt, fold}
use Rattle.std.specs.List.{AllByRecursion}
use Rattle.std.proofs.lemmas.Bool.{and_parts, ltb-true, eqb-true, eq-eqb}
use Rattle.field_bounds.specs.declared.kind.Kind.{Kind}
use Rattle.field_bounds.specs.declared.kind.Kind.TheVariants.{Lower, Raise}
use Rattle.field_bounds.specs.Kind.{same_kind}
use Rattle.field_bounds.proofs.Lawful.{same_kind-true}
use Rattle.kept_records.specs.declared.total.Total.{Total}
use Rattle.kept_records.specs.Summary.{told_more, is_before, kind_number, rises}
use Rattle.kept_records.specs.Text.{max_place, IsListed}
use Rattle.kept_records.proofs.Summaries.{kind_refl}
use Rattle.log_bases.proofs.Outside.{stays}

-- ---- the order of totals, by one number

-- where a total stands: it is greater of each total behind it
abbrev place : Total → ℕ
place t = t.site.0 * 131072 + (t.field.0 * 2 + kind_number t.kind)

kind_few : (k : Kind) → kind_number k ≤ 1
kind_few Lower = omega arith
kind_few Raise = omega arith

or_parts : (x y : Bool) → (x || y) ≡ true → (x ≡ true) ⊎ (y ≡ true)
or_parts true y e = inl refl
or_parts false y e = inr e

before_less : (a b : Total) → a.field.0 ≤ max_place → b.field.0 ≤ max_place → is_before a b ≡ true → place a < place b
before_less a b fa fb e =
    elim (or_parts (nat_lt a.site.0 b.site.0) _ e) [
      | inl site ↦ omega (arith, ltb-true _ _ site, fa, fb, kind_few a.kind, kind_few b.kind)
      | inr same ↦ by_field (and_parts (a.site.0 == b.site.0) _ same)
    ]
  where
    by_field : ((a.site.0 == b.site.0) ≡ true) × ((nat_lt a.field.0 b.field.0
        || ((a.field.0 == b.field.0) && nat_lt (kind_number a.kind) (kind_number b.kind))) ≡ true) → place a < place b
    by_field p =
        elim (or_parts (nat_lt a.field.0 b.field.0) _ p.1) [
          | inl field ↦ omega (arith, eqb-true _ _ p.0, ltb-true _ _ field, kind_few a.kind, kind_few b.kind)
          | inr there ↦
              let q = and_parts (a.field.0 == b.field.0) (nat_lt (kind_number a.kind) (kind_number b.kind)) there in
              omega (arith, eqb-true _ _ p.0, eqb-true _ _ q.0, ltb-true _ _ q.1)
        ]

all_weaker : (P Q : Total → Type 0) → ((t : Total) → P t → Q t) → (ts : List Total) → AllByRecursion P ts → AllByRecursion Q ts
all_weaker P Q h [] all = tt
all_weaker P Q h (t ∷ ts) all = (h t all.0, all_weaker P Q h ts all.1)

abbrev Behind : ℕ → Total → Type 0
Behind n t = n < place t

rises_behind : (a : Total) (ts : List Total) → IsListed a → AllByRecursion IsListed ts → rises (a ∷ ts) ≡ true
    → AllByRecursion (Behind (place a)) ts
rises_behind a [] la lts e = tt
rises_behind a (b ∷ ts) la lts e =
    let p = and_parts (is_before a b) (rises (b ∷ ts)) e in
    let first : place a < place b = before_less a b la.1 lts.0.1 p.0 in (
      first,
      all_weaker (Behind (place b)) (Behind (place a)) (λ t less. omega (arith, first, less)) ts (rises_behind b ts lts.0 lts.1 p.1),
    )

rises_rest : (a : Total) (ts : List Total) → rises (a ∷ ts) ≡ true → rises ts ≡ true
rises_rest a [] e = refl
rises_rest a (b ∷ ts) e = (and_parts (is_before a b) (rises (b ∷ ts)) e).1

-- ---- what a list tells of the place of a total

abbrev is_at : Total → Total → Bool
is_at t x = (t.site.0 == x.site.0) && (t.field.0 == x.field.0) && same_kind t.kind x.kind

abbrev told_from : Total → ℕ → List Total → ℕ
told_from x z ts = fold (told_more x.site.0 x.field.0 x.kind) z ts

same_place : (t x : Total) → is_at t x ≡ true → place t ≡ place x
same_place t x e =
    let p = and_parts ((t.site.0 == x.site.0) && (t.field.0 == x.field.0)) (same_kind t.kind x.kind) e in
    let q = and_parts (t.site.0 == x.site.0) (t.field.0 == x.field.0) p.0 in
    let kind : kind_number t.kind ≡ kind_number x.kind = ap kind_number (same_kind-true _ _ p.1) in
    omega (arith, eqb-true _ _ q.0, eqb-true _ _ q.1, kind)

at_itself : (x : Total) → is_at x x ≡ true
at_itself x = rw (eq-eqb x.site.0 x.site.0 refl, eq-eqb x.field.0 x.field.0 refl, kind_refl x.kind) refl

-- totals that all stand behind it tell nothing of it
told_none : (x : Total) (ts : List Total) → AllByRecursion (Behind (place x)) ts → (z : ℕ) → told_from x z ts ≡ z
told_none x [] all z = refl
told_none x (t ∷ ts) all z =
    told_none x ts all.1 (cond (is_at t x) t.total z)
    ∙ stays (is_at t x) t.total z (λ e. absurd (omega (arith, all.0, same_place t x e)))

told_first : (a : Total) (ts : List Total) → AllByRecursion (Behind (place a)) ts → told_from a 0 (a ∷ ts) ≡ a.total
told_first a ts all = told_none a ts all (cond (is_at a a) a.total 0) ∙ ap (λ (b : Bool). cond b a.total 0) (at_itself a)

-- what is told of a place is told there or behind the first
told_least : (n : ℕ) (x : Total) (ts : List Total) → AllByRecursion (λ t. n ≤ place t) ts → (z : ℕ) → (0 < z → n ≤ place x)
    → 0 < told_from x z ts → n ≤ place x
told_least n x [] all z before some = before some
told_least n x (t ∷ ts) all z before some = told_least n x ts all.1 (cond (is_at t x) t.total z) (one (is_at t x) refl) some
  where
    one : (b : Bool) → is_at t x ≡ b → 0 < cond b t.total z → n ≤ place x
    one true e h = omega (arith, all.0, same_place t x e)
    one false e h = before h

least_first : (a : Total) (ts : List Total) → AllByRecursion (Behind (place a)) ts → AllByRecursion (λ t. place a ≤ place t) (a ∷ ts)
least_first a ts all = (omega arith, all_weaker (Behind (place a)) (λ t. place a ≤ place t) (λ t less. omega (arith, less)) ts all)

-- what is told of the rest, where one total stands in front of both lists
rest_same : (a x : Total) (as1 bs : List Total) → AllByRecursion (Behind (place a)) as1 → AllByRecursion (Behind (place a)) bs
    → told_from x 0 (a ∷ as1) ≡ told_from x 0 (a ∷ bs) → told_from x 0 as1 ≡ told_from x 0 bs
rest_same a x as1 bs behind_as behind_bs same = by (is_at a x) refl
  where
    none : (ts : List Total) → AllByRecursion (Behind (place a)) ts → is_at a x ≡ true → told_from x 0 ts ≡ 0
    none ts all e =
        told_none x ts (subst (λ (n : ℕ). AllByRecursion (Behind n) ts) (same_place a x e) all) 0

    there : (ts : List Total) → is_at a x ≡ false → told_from x 0 (a ∷ ts) ≡ told_from x 0 ts
    there ts e = ap (λ (b : Bool). told_from x (cond b a.total 0) ts) e

    by : (b : Bool) → is_at a x ≡ b → told_from x 0 as1 ≡ told_from x 0 bs
    by true e = none as1 behind_as e ∙ sym (none bs behind_bs e)
    by false e = sym (there as1 e) ∙ same ∙ there bs e

-- ---- the lists themselves

kinds_same : (k l : Kind) → kind_number k ≡ kind_number l → k ≡ l
kinds_same Lower Lower e = refl
kinds_same Raise Raise e = refl
kinds_same Lower Raise e = absurd (omega (arith, e))
kinds_same Raise Lower e = absurd (omega (arith, e))

total_same : (a b : Total) → a.site.0 ≡ b.site.0 → a.field.0 ≡ b.field.0 → a.kind ≡ b.kind → a.total ≡ b.total → a ≡ b
total_same a b site field kind total =
    let made : ◌≡◌ {A = Total} (record { site = record { 0 = a.site.0 }; field = record { 0 = a.field.0 }; kind = a.kind; total = a.total })
    (record { site = record { 0 = b.site.0 }; field = record { 0 = b.field.0 }; kind = b.kind; total = b.total }) = cc in
    made

-- totals in range at places of which something is asked
abbrev pub Listed : (Total → Type 0) → Total → Type 0
Listed P t = IsListed t × P t

listed : (P : Total → Type 0) (ts : List Total) → AllByRecursion (Listed P) ts → AllByRecursion IsListed ts
listed P ts all = all_weaker (Listed P) IsListed (λ t l. l.0) ts all

pub same_lists : (P : Total → Type 0) (as1 bs : List Total) → AllByRecursion (Listed P) as1 → AllByRecursion (Listed P) bs
    → rises as1 ≡ true → rises bs ≡ true → ((x : Total) → P x → told_from x 0 as1 ≡ told_from x 0 bs) → as1 ≡ bs
same_lists P [] [] las lbs ras rbs same = refl
same_lists P [] (b ∷ bs) las lbs ras rbs same =
    let first = told_first b bs (rises_behind b bs lbs.0.0 (listed P bs lbs.1) rbs) in
    absurd (omega (arith, first, same b lbs.0.1, lbs.0.0.2.0))
same_lists P (a ∷ as1) [] las lbs ras rbs same =
    let first = told_first a as1 (rises_behind a as1 las.0.0 (listed P as1 las.1) ras) in
    absurd (omega (arith, first, same a las.0.1, las.0.0.2.0))
same_lists P (a ∷ as1) (b ∷ bs) las lbs ras rbs same =
    let behind_a = rises_behind a as1 las.0.0 (listed P as1 las.1) ras in
    let behind_b = rises_behind b bs lbs.0.0 (listed P bs lbs.1) rbs in
    let first_a = told_first a as1 behind_a in
    let first_b = told_first b bs behind_b in
    let up : place b ≤ place a = told_least (place b) a (b ∷ bs) (least_first b bs behind_b) 0 (λ h. absurd (omega (arith, h)))
    (omega (arith, first_a, same a las.0.1, las.0.0.2.0)) in
    let down : place a ≤ place b = told_least (place a) b (a ∷ as1) (least_first a as1 behind_a) 0 (λ h. absurd (omega (arith, h)))
    (omega (arith, first_b, same b lbs.0.1, lbs.0.0.2.0)) in
    let few : (a.field.0 ≤ max_place) × (b.field.0 ≤ max_place) = (las.0.0.1, lbs.0.0.1) in
    let site : a.site.0 ≡ b.site.0 = omega (arith, up, down, few.0, few.1, kind_few a.kind, kind_few b.kind) in
    let field : a.field.0 ≡ b.field.0 = omega (arith, up, down, site, kind_few a.kind, kind_few b.kind) in
    let kind : a.kind ≡ b.kind = kinds_same a.kind b.kind (omega (arith, up, down, site, field)) in
    let told_b : told_from a 0 (b ∷ bs) ≡ told_from b 0 (b ∷ bs) =
    ap (λ (n : ℕ). fold (told_more n a.field.0 a.kind) 0 (b ∷ bs)) site
    ∙ ap (λ (n : ℕ). fold (told_more b.site.0 n a.kind) 0 (b ∷ bs)) field
    ∙ ap (λ (k : Kind). fold (told_more b.site.0 b.field.0 k) 0 (b ∷ bs)) kind in
    let total : a.total ≡ b.total = sym first_a ∙ same a las.0.1 ∙ told_b ∙ first_b in
    let head : a ≡ b = total_same a b site field kind total in
    let behind_a_too : AllByRecursion (Behind (place a)) bs =
    subst (λ (x : Total). AllByRecursion (Behind (place x)) bs) (sym head) behind_b in
    let rest : as1 ≡ bs = same_lists P as1 bs las.1 lbs.1 (rises_rest a as1 ras) (rises_rest b bs rbs) (λ x p.
    rest_same a x as1 bs behind_a behind_a_too
    (subst (λ (y : Total). told_from x 0 (a ∷ as1) ≡ told_from x 0 (y ∷ bs)) (sym head) (same x p))) in
    ap (λ (x : Total). x ∷ as1) head ∙ ap (λ (l : List Total). b ∷ l) rest
