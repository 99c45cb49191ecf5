-- Up to which transaction a horizon reaches, and which it spares.
use Rattle.std.proofs.Common.{◌≡◌, ◌⊎◌, ◌<◌, ◌≤◌, ◌==◌, ℕ, Bool, true, false, not, ◌&&◌, ◌||◌, List, [], ◌∷◌, ◌++◌, reverse, zero, suc, ◌+◌, slice_get, Option, None, Some, refl, sym, ap, ◌∙◌, subst, inl, inr, arith}
use Rattle.std.specs.Prelude.{nat_lt, nat_le}
use Rattle.std.proofs.lemmas.Bool.{and_parts, ltb-true, leb-true, eqb-true, lt-ltb, le-leb, eq-eqb, cases_lt}
use Rattle.std.proofs.lemmas.List.Folds.{list_any-append}
use Rattle.field_bounds.specs.declared.id.TxnId.{TxnId}
use Rattle.kept_records.specs.Keeping.{IsKept}
use Rattle.log_head.specs.declared.gone.Gone.{Gone}
use Rattle.log_head.specs.Horizons.{HorizonValue, horizon_of, is_listed, is_passed}
use Rattle.site_service.specs.LetGo.{may_be_gone}
use Rattle.site_service.specs.Kept.{TellsCommit}
use Rattle.field_bounds.specs.Effects.{open_txns, is_up_to}
use Rattle.site_step.specs.Site.{SiteValue, here}
use Rattle.site_service.specs.Shortening.{reach_told}
use Rattle.site_service.specs.Shorter.{txn_of, IsSpared, ListsNone, ListsOne, ListsIf, ListsOpen, ListsAllOpen}

-- ---- the order of transactions

or_parts : (a b : Bool) → (a || b) ≡ true → (a ≡ true) ⊎ (b ≡ true)
or_parts true b h = inl refl
or_parts false b h = inr h

or_true : (a : Bool) → (a || true) ≡ true
or_true true = refl
or_true false = refl

not_false : (b : Bool) → not b ≡ true → b ≡ false
not_false true h = absurd cc
not_false false h = refl

both : (b : Bool) → b ≡ true → b ≡ false → ⊥
both true e h = absurd cc
both false e h = absurd cc

abbrev UpTo : ℕ → ℕ → ℕ → ℕ → Type 0
UpTo e n x y = (x < e) ⊎ ((x ≡ e) × (y ≤ n))

up_to : (latest txn : TxnId) → is_up_to latest txn ≡ true → UpTo latest.epoch latest.number txn.epoch txn.number
up_to latest txn h =
    elim (or_parts (nat_lt txn.epoch latest.epoch) ((txn.epoch == latest.epoch) && nat_le txn.number latest.number) h) [
      | inl less ↦ inl (ltb-true _ _ less)
      | inr same ↦
          let p = and_parts (txn.epoch == latest.epoch) (nat_le txn.number latest.number) same in
          inr (eqb-true _ _ p.0, leb-true _ _ p.1)
    ]

is_up : (latest txn : TxnId) → UpTo latest.epoch latest.number txn.epoch txn.number → is_up_to latest txn ≡ true
is_up latest txn (inl less) = rw (lt-ltb _ _ less) refl
is_up latest txn (inr same) = rw (eq-eqb _ _ same.0, le-leb _ _ same.1) (or_true (nat_lt txn.epoch latest.epoch))

chain : (a b c d x y : ℕ) → UpTo a b c d → UpTo c d x y → UpTo a b x y
chain a b c d x y (inl p) (inl q) = inl (omega (arith, p, q))
chain a b c d x y (inl p) (inr q) = inl (omega (arith, p, q.0))
chain a b c d x y (inr p) (inl q) = inl (omega (arith, p.0, q))
chain a b c d x y (inr p) (inr q) = inr (omega (arith, p.0, q.0), omega (arith, p.1, q.1))

pub up_trans : (a b c : TxnId) → is_up_to a b ≡ true → is_up_to b c ≡ true → is_up_to a c ≡ true
up_trans a b c first second = is_up a c (chain _ _ _ _ _ _ (up_to a b first) (up_to b c second))

either : (a b c d : ℕ) → UpTo a b c d ⊎ UpTo c d a b
either a b c d = elim (cases_lt c a) [
  | inl less ↦ inl (inl less)
  | inr past ↦ elim (cases_lt a c) [
    | inl less ↦ inr (inl less)
    | inr back ↦ elim (cases_lt b d) [
      | inl fewer ↦ inr (inr (omega (arith, past, back), omega (arith, fewer)))
      | inr more ↦ inl (inr (omega (arith, past, back), more))
    ]
  ]
]

pub up_other : (a b : TxnId) → is_up_to a b ≡ false → is_up_to b a ≡ true
up_other a b not_so = elim (either a.epoch a.number b.epoch b.number) [
  | inl first ↦ absurd (both (is_up_to a b) (is_up a b first) not_so)
  | inr second ↦ is_up b a second
]

-- ---- which transactions a horizon tells as gone

abbrev Passed : HorizonValue → TxnId → Type 0
Passed h txn =
    (txn.epoch < h.epoch) ⊎ ((txn.epoch ≡ h.epoch) × (txn.number ≤ h.number) × (is_listed txn.number h.open_then ≡ false))

passed : (h : HorizonValue) (txn : TxnId) → is_passed h txn ≡ true → Passed h txn
passed h txn e =
    elim (or_parts (nat_lt txn.epoch h.epoch)
    ((txn.epoch == h.epoch) && nat_le txn.number h.number && not (is_listed txn.number h.open_then)) e) [
      | inl less ↦ inl (ltb-true _ _ less)
      | inr same ↦
          let p = and_parts ((txn.epoch == h.epoch) && nat_le txn.number h.number) (not (is_listed txn.number h.open_then)) same in
          let q = and_parts (txn.epoch == h.epoch) (nat_le txn.number h.number) p.0 in
          inr (eqb-true _ _ q.0, leb-true _ _ q.1, not_false _ p.1)
    ]

is_passed_by : (h : HorizonValue) (txn : TxnId) → Passed h txn → is_passed h txn ≡ true
is_passed_by h txn (inl less) = rw (lt-ltb _ _ less) refl
is_passed_by h txn (inr same) =
    rw (eq-eqb _ _ same.0, le-leb _ _ same.1, same.2) (or_true (nat_lt txn.epoch h.epoch))

not_passed : (h : HorizonValue) (txn : TxnId) → (Passed h txn → ⊥) → is_passed h txn ≡ false
not_passed h txn not_so = elim (is_passed h txn) as (λ b. is_passed h txn ≡ b → b ≡ false) [
  | true ↦ λ e. absurd (not_so (passed h txn e))
  | false ↦ λ e. refl
] refl

pub passed_up : (h : HorizonValue) (txn : TxnId) → is_passed h txn ≡ true → is_up_to (txn_of h.epoch h.number) txn ≡ true
passed_up h txn e = is_up (txn_of h.epoch h.number) txn (elim (passed h txn e) [
  | inl less ↦ inl less
  | inr same ↦ inr (same.0, same.1)
])

-- what may be gone is up to where it is told
pub told_up : (told : Option Gone) (txn : TxnId) → may_be_gone told txn ≡ true → is_up_to (reach_told told) txn ≡ true
told_up None txn e = absurd cc
told_up (Some gone) txn e = passed_up gone.horizon txn e

-- what is up to the last one is told as gone, where it isn't listed
pub up_passed : (last : TxnId) (listed : List ℕ) (txn : TxnId) → is_up_to last txn ≡ true
    → (txn.epoch ≡ last.epoch → is_listed txn.number listed ≡ true → ⊥) → is_passed (horizon_of last.epoch last.number listed) txn ≡ true
up_passed last listed txn up free = is_passed_by (horizon_of last.epoch last.number listed) txn (elim (up_to last txn up) [
  | inl less ↦ inl less
  | inr same ↦ inr (
    same.0,
    same.1,
    (elim (is_listed txn.number listed) as (λ b. is_listed txn.number listed ≡ b → b ≡ false) [
      | true ↦ λ e. absurd (free same.0 e)
      | false ↦ λ e. refl
    ] refl),
  )
])

-- ---- one more is listed

listed_more : (n m : ℕ) (listed : List ℕ) → is_listed n (listed ++ m ∷ []) ≡ (is_listed n listed || ((m == n) || false))
listed_more n m listed = list_any-append (λ (k : ℕ). k == n) listed (m ∷ [])

listed_last : (n : ℕ) (listed : List ℕ) → is_listed n (listed ++ n ∷ []) ≡ true
listed_last n listed = listed_more n n listed ∙ rw (eq-eqb n n refl) (or_true (is_listed n listed))

listed_before : (n m : ℕ) (listed : List ℕ) → is_listed n (listed ++ m ∷ []) ≡ false → is_listed n listed ≡ false
listed_before n m listed not_so = elim (is_listed n listed) as (λ b. (b || ((m == n) || false)) ≡ false → b ≡ false) [
  | true ↦ λ h. absurd cc
  | false ↦ λ h. refl
] (sym (listed_more n m listed) ∙ not_so)

or_false : (a : Bool) → (a || false) ≡ true → a ≡ true
or_false true h = refl
or_false false h = absurd cc

module _ (held : List ℕ) (told : Option Gone) (last txn : TxnId) (old : List ℕ) where
  -- it needn't be
  module _ (new : List ℕ) (same : new ≡ old) where
    needn't : IsSpared held told last old txn → ListsOne held told last old new txn
    needn't spared = record {
      none = λ none. subst (ListsNone held told last) (sym same) none;
      spared = subst (λ (l : List ℕ). IsSpared held told last l txn) (sym same) spared;
      others = λ other spares. subst (λ (l : List ℕ). IsSpared held told last l other) (sym same) spares;
    }

    pub gone_before : may_be_gone told txn ≡ true → ListsOne held told last old new txn
    gone_before gone = needn't (λ none not_so. absurd (both (may_be_gone told txn) gone not_so))

    pub not_reached : is_up_to last txn ≡ false → ListsOne held told last old new txn
    not_reached not_so = needn't (λ none free. not_passed (horizon_of last.epoch last.number old) txn (λ (p : Passed (horizon_of last.epoch last.number old) txn).
        both (is_up_to last txn) (passed_up (horizon_of last.epoch last.number old) txn
        (is_passed_by (horizon_of last.epoch last.number old) txn p)) not_so))

    pub held_still : IsKept held → TellsCommit held txn true → ListsOne held told last old new txn
    held_still kept tells = needn't (λ none free.
        let yes = tells kept.0 kept.1 kept.2 in let not_so = none kept.0 kept.1 kept.2 in absurd cc)

  module _ (new : List ℕ) (is : new ≡ old ++ txn.number ∷ []) (own : txn.epoch ≡ last.epoch) (free : may_be_gone told txn ≡ false)
      (tells : TellsCommit held txn false) where
    abbrev more : List ℕ
    more = old ++ txn.number ∷ []

    is_it : (n : ℕ) → (txn.number == n) ≡ true → txn ≡ txn_of last.epoch n
    is_it n same =
        ap (λ (e : ℕ). txn_of e txn.number) own ∙ ap (λ (k : ℕ). txn_of last.epoch k) (eqb-true txn.number n same)

    lists_none : ListsNone held told last old → ListsNone held told last more
    lists_none none n listed = elim (or_parts (is_listed n old) ((txn.number == n) || false) (sym (listed_more n txn.number old) ∙ listed)) [
      | inl before ↦ none n before
      | inr now ↦ subst (λ (t : TxnId). (may_be_gone told t ≡ false) × TellsCommit held t false) (is_it n (or_false (txn.number == n) now)) (free, tells)
    ]

    spared : IsSpared held told last more txn
    spared none not_so = not_passed (horizon_of last.epoch last.number more) txn (λ (p : Passed (horizon_of last.epoch last.number more) txn). elim p [
      | inl less ↦ absurd (omega (arith, less, own))
      | inr same ↦ both (is_listed txn.number more) (listed_last txn.number old) same.2
    ])

    others : (other : TxnId) → IsSpared held told last old other → IsSpared held told last more other
    others other spares none not_so = not_passed (horizon_of last.epoch last.number more) other (λ (p : Passed (horizon_of last.epoch last.number more) other).
        both (is_passed (horizon_of last.epoch last.number old) other)
        (is_passed_by (horizon_of last.epoch last.number old) other (elim p [
          | inl less ↦ inl less
          | inr same ↦ inr (same.0, same.1, listed_before other.number txn.number old same.2)
        ])) (spares none not_so))

    pub lists_more : ListsOne held told last old new txn
    lists_more = record {
      none = λ none. subst (ListsNone held told last) (sym is) (lists_none none);
      spared = subst (λ (l : List ℕ). IsSpared held told last l txn) (sym is) spared;
      others = λ other spares. subst (λ (l : List ℕ). IsSpared held told last l other) (sym is) (others other spares);
    }

-- ---- all open transactions were gone over

pub past_none : {X : Type 0} (xs : List X) (n k : ℕ) (x : X) → slice_get xs n ≡ None → slice_get xs k ≡ Some x → k < n
past_none [] n k x none some = absurd cc
past_none (y ∷ ys) zero k x none some = absurd cc
past_none (y ∷ ys) (suc n) zero x none some = omega arith
past_none (y ∷ ys) (suc n) (suc k) x none some = omega (arith, past_none ys n k x none some)

-- none was gone over
pub lists_nothing : (site : SiteValue) (held : List ℕ) (told : Option Gone) (last : TxnId) (listed : List ℕ) → listed ≡ []
    → ListsOpen site held told last 0 listed
lists_nothing site held told last listed none = record {
  none = λ m there. absurd (both (is_listed m []) (sym (ap (is_listed m) none) ∙ there) refl);
  spared = λ m txn fewer some. absurd (omega (arith, fewer));
}

-- one more was
at_or_before : (m n : ℕ) → m < n + 1 → (m < n) ⊎ (m ≡ n)
at_or_before m n fewer = elim (cases_lt m n) [
  | inl less ↦ inl less
  | inr past ↦ inr (omega (arith, fewer, past))
]

module _ (site : SiteValue) (held : List ℕ) (told : Option Gone) (last : TxnId) (n : ℕ) (before listed : List ℕ) (txn : TxnId)
    (so_far : ListsOpen site held told last n before) (next : slice_get (reverse (open_txns (here site).effects)) n ≡ Some txn)
    (one : ListsOne held told last before listed txn) where
  its_turn : (m : ℕ) (other : TxnId) → (m < n) ⊎ (m ≡ n) → slice_get (reverse (open_txns (here site).effects)) m ≡ Some other
      → IsSpared held told last listed other
  its_turn m other (inl less) some = one.others other (so_far.spared m other less some)
  its_turn m other (inr same) some =
      let found : ◌≡◌ {A = Option TxnId} (Some txn) (Some other) =
      sym next ∙ ap (λ (k : ℕ). slice_get (reverse (open_txns (here site).effects)) k) (sym same) ∙ some in
      let is : txn ≡ other = cc in
      subst (λ (t : TxnId). IsSpared held told last listed t) is one.spared

  pub lists_next : ListsOpen site held told last (n + 1) listed
  lists_next = record {
    none = one.none so_far.none;
    spared = λ k other fewer some. its_turn k other (at_or_before k n fewer) some;
  }

-- and no more are open
pub lists_all : (site : SiteValue) (held : List ℕ) (told : Option Gone) (last : TxnId) (n : ℕ) (listed : List ℕ)
    → ListsOpen site held told last n listed → slice_get (reverse (open_txns (here site).effects)) n ≡ None
    → ListsAllOpen site held told last listed
lists_all site held told last n listed so_far none =
    (so_far.none, λ k txn some. so_far.spared k txn (past_none (reverse (open_txns (here site).effects)) n k txn none some) some)

-- what is told where it is listed
pub lists_if : (held : List ℕ) (told : Option Gone) (last : TxnId) (old new : List ℕ) (txn : TxnId) (is : Bool) → is ≡ true
    → ListsIf held told last old new txn is → ListsOne held told last old new txn
lists_if held told last old new txn true is_so lists = lists
lists_if held told last old new txn false is_so lists = absurd (both false is_so refl)
