-- No total of a list that rises strictly by site, field and kind stands twice in it.
use Rattle.std.proofs.Common.{◌≡◌, ℕ, zero, suc, ◌<◌, ◌==◌, ◌&&◌, ◌||◌, ◌⊎◌, max, Bool, true, false, List, [], ◌∷◌, length, take, get_or, refl, sym, subst, ap, ◌∙◌, inl, inr, arith}
use Rattle.std.specs.Prelude.{nat_lt, fold}
use Rattle.std.specs.List.{AllByRecursion}
use Rattle.std.proofs.lemmas.Bool.{ne_eqb, eq-eqb, and_parts, ltb-true, eqb-true}
use Rattle.field_bounds.specs.declared.kind.Kind.{Kind}
use Rattle.field_bounds.specs.declared.kind.Kind.TheVariants.{Lower, Raise}
use Rattle.field_bounds.specs.Kind.{same_kind}
use Rattle.kept_records.specs.declared.total.Total.{Total}
use Rattle.kept_records.specs.Summary.{is_before, kind_number, rises, told_more}
use Rattle.field_bounds.specs.Schema.{SchemaValue}
use Rattle.gift_ledger.specs.declared.account.Account.{Account}
use Rattle.gift_ledger.specs.Ledger.{LedgerValue, total_at, accepted_at, fresh_ledger}
use Rattle.gift_ledger.proofs.LedgerLaws.{fresh_account}
use Rattle.log_replay.specs.Resuming.{NotesGifts, NotesAccepts}
use Rattle.log_replay.proofs.FromSummary.{no_total, each_at}

-- one total stands before another: by field and kind, and by site first
abbrev OnEarlierField : Total → Total → Type 0
OnEarlierField a b = (a.field.0 < b.field.0) ⊎ ((a.field.0 ≡ b.field.0) × (kind_number a.kind < kind_number b.kind))

abbrev Before : Total → Total → Type 0
Before a b = (a.site.0 < b.site.0) ⊎ ((a.site.0 ≡ b.site.0) × OnEarlierField a b)

or_cases : (x y : Bool) → (x || y) ≡ true → (x ≡ true) ⊎ (y ≡ true)
or_cases true y h = inl refl
or_cases false y h = inr h

abbrev by_field : Total → Total → Bool
by_field a b = nat_lt a.field.0 b.field.0 || ((a.field.0 == b.field.0) && nat_lt (kind_number a.kind) (kind_number b.kind))

before_is : (a b : Total) → is_before a b ≡ true → Before a b
before_is a b h = by (or_cases (nat_lt a.site.0 b.site.0) ((a.site.0 == b.site.0) && by_field a b) h)
  where
    on_field : (nat_lt a.field.0 b.field.0 ≡ true)
        ⊎ (((a.field.0 == b.field.0) && nat_lt (kind_number a.kind) (kind_number b.kind)) ≡ true) → OnEarlierField a b
    on_field (inl x) = inl (ltb-true a.field.0 b.field.0 x)
    on_field (inr x) =
        let both = and_parts (a.field.0 == b.field.0) (nat_lt (kind_number a.kind) (kind_number b.kind)) x in
        inr (eqb-true a.field.0 b.field.0 both.0, ltb-true (kind_number a.kind) (kind_number b.kind) both.1)

    by : (nat_lt a.site.0 b.site.0 ≡ true) ⊎ (((a.site.0 == b.site.0) && by_field a b) ≡ true) → Before a b
    by (inl x) = inl (ltb-true a.site.0 b.site.0 x)
    by (inr x) =
        let both = and_parts (a.site.0 == b.site.0) (by_field a b) x in
        inr (
          eqb-true a.site.0 b.site.0 both.0,
          on_field (or_cases (nat_lt a.field.0 b.field.0)
              ((a.field.0 == b.field.0) && nat_lt (kind_number a.kind) (kind_number b.kind)) both.1),
        )

over_field : (a b c : Total) → OnEarlierField a b → OnEarlierField b c → OnEarlierField a c
over_field a b c (inl x) (inl y) = inl (omega (arith, x, y))
over_field a b c (inl x) (inr y) = inl (omega (arith, x, y.0))
over_field a b c (inr x) (inl y) = inl (omega (arith, x.0, y))
over_field a b c (inr x) (inr y) = inr (x.0 ∙ y.0, omega (arith, x.1, y.1))

over : (a b c : Total) → Before a b → Before b c → Before a c
over a b c (inl x) (inl y) = inl (omega (arith, x, y))
over a b c (inl x) (inr y) = inl (omega (arith, x, y.0))
over a b c (inr x) (inl y) = inl (omega (arith, x.0, y))
over a b c (inr x) (inr y) = inr (x.0 ∙ y.0, over_field a b c x.1 y.1)

all_over : (t u : Total) → Before t u → (ts : List Total) → AllByRecursion (λ w. Before u w) ts → AllByRecursion (λ w. Before t w) ts
all_over t u h [] all = tt
all_over t u h (w ∷ ts) all = (over t u w h all.0, all_over t u h ts all.1)

all_before : (t : Total) (ts : List Total) → rises (t ∷ ts) ≡ true → AllByRecursion (λ u. Before t u) ts
all_before t [] h = tt
all_before t (u ∷ ts) h =
    let parts = and_parts (is_before t u) (rises (u ∷ ts)) h in
    let here = before_is t u parts.0 in
    (here, all_over t u here ts (all_before u ts parts.1))

rest_rises : (t : Total) (ts : List Total) → rises (t ∷ ts) ≡ true → rises ts ≡ true
rest_rises t [] h = refl
rest_rises t (u ∷ ts) h = (and_parts (is_before t u) (rises (u ∷ ts)) h).1

-- a total that stands before another tells nothing of that one's place
other_kind : (a b : Kind) → kind_number a < kind_number b → same_kind a b ≡ false
other_kind Lower Raise h = refl
other_kind Lower Lower h = absurd (omega (arith, h))
other_kind Raise Lower h = absurd (omega (arith, h))
other_kind Raise Raise h = absurd (omega (arith, h))

misses : (t u : Total) → Before t u → (n : ℕ) → told_more u.site.0 u.field.0 u.kind n t ≡ n
misses t u (inl x) n = rw (ne_eqb t.site.0 u.site.0 (λ same. omega (arith, x, same))) refl
misses t u (inr x) n = on_field x.1
  where
    on_field : OnEarlierField t u → told_more u.site.0 u.field.0 u.kind n t ≡ n
    on_field (inl y) =
        rw (eq-eqb t.site.0 u.site.0 x.0, ne_eqb t.field.0 u.field.0 (λ same. omega (arith, y, same))) refl
    on_field (inr y) =
        rw (eq-eqb t.site.0 u.site.0 x.0, eq-eqb t.field.0 u.field.0 y.0, other_kind t.kind u.kind y.1) refl

-- so those in front of a total tell nothing of its place
pub not_yet : (ts : List Total) (i : ℕ) → rises ts ≡ true → i < length ts → (t : Total) → t ≡ get_or ts i no_total → (n : ℕ)
    → fold (told_more t.site.0 t.field.0 t.kind) n (take i ts) ≡ n
not_yet [] i h below t is n = absurd (omega (arith, below))
not_yet (t ∷ ts) zero h below u is n = refl
not_yet (t ∷ ts) (suc i) h below u is n =
    let less : i < length ts = omega (arith, below) in
    let there : Before t (get_or ts i no_total) = each_at (λ w. Before t w) ts i no_total less (all_before t ts h) in
    ap (λ (m : ℕ). fold (told_more u.site.0 u.field.0 u.kind) m (take i ts))
    (misses t u (subst (λ (w : Total). Before t w) (sym is) there) n)
    ∙ not_yet ts i (rest_rises t ts h) less u is n

max_none : (n : ℕ) → max n 0 ≡ n
max_none n = omega arith

-- ---- in a ledger in which they are noted one after another

module _ (old now : LedgerValue) (ts : List Total) (i : ℕ) (below : i < length ts) (up : rises ts ≡ true) (t : Total)
    (is : t ≡ get_or ts i no_total) where
  pub none_given : ((r f : ℕ) (k : Kind) → total_at old r f k ≡ 0) → NotesGifts old (take i ts) now
      → total_at now t.site.0 t.field.0 t.kind ≡ 0
  none_given nothing was =
      was.given t.site.0 t.field.0 t.kind ∙ not_yet ts i up below t is (total_at old t.site.0 t.field.0 t.kind)
      ∙ nothing t.site.0 t.field.0 t.kind

  pub none_accepted : ((r f : ℕ) (k : Kind) → accepted_at old r f k ≡ 0) → NotesAccepts old (take i ts) now
      → max t.total (accepted_at now t.site.0 t.field.0 t.kind) ≡ t.total
  none_accepted nothing was =
      ap (λ (n : ℕ). max t.total n)
      (was.accepted t.site.0 t.field.0 t.kind ∙ not_yet ts i up below t is (accepted_at old t.site.0 t.field.0 t.kind)
      ∙ nothing t.site.0 t.field.0 t.kind) ∙ max_none t.total

-- a fresh ledger has given and accepted nothing
pub fresh_given : (schema : SchemaValue) (s : ℕ) (ledger : LedgerValue) → ledger ≡ fresh_ledger schema s → (r f : ℕ) (k : Kind)
    → total_at ledger r f k ≡ 0
fresh_given schema s ledger fresh r f k =
    ap (λ (l : LedgerValue). total_at l r f k) fresh ∙ ap (λ (x : Account). x.given) (fresh_account schema s r f k)

pub fresh_accepted : (schema : SchemaValue) (s : ℕ) (ledger : LedgerValue) → ledger ≡ fresh_ledger schema s → (r f : ℕ) (k : Kind)
    → accepted_at ledger r f k ≡ 0
fresh_accepted schema s ledger fresh r f k =
    ap (λ (l : LedgerValue). accepted_at l r f k) fresh ∙ ap (λ (x : Account). x.accepted) (fresh_account schema s r f k)
