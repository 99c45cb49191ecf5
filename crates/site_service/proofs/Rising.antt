-- Transactions that rise, the search among them, and the set of those that came late.
use Rattle.std.proofs.Common.{rules, ◌≡◌, ◌↔◌, ◌⊎◌, ℕ, ◌+◌, ◌-◌, ◌<◌, Bool, true, false, cond, List, [], ◌∷◌, ◌++◌, length, get_or, Contains, IsTrue, Result, Ok, Err, Less, Equal, refl, sym, ap, ◌∙◌, subst, inl, inr, arith, length-append}
use Rattle.std.specs.BTreeSet.{BTreeSet, contains, Updates}
use Rattle.std.specs.Ordering.{is_eq, is_lt, partial_lt, ordering_index}
use Rattle.std.specs.Result.{is_ok}
use Rattle.std.specs.List.Sorted.{IsBinarySearchResult, IsSearchInRange, IsNonDecreasingBy}
use Rattle.std.proofs.lemmas.Bool.{cases_lt}
use Rattle.std.proofs.lemmas.Bool.Decides.{nat_tests}
use Rattle.std.proofs.lemmas.Cmp.{tied_itself}
use Rattle.std.proofs.lemmas.List.{get_or_append_left}
use Rattle.std.proofs.lemmas.List.Sorted.{searchable_from_sorted}
use Rattle.std.proofs.lemmas.List.Elements.{Contains-append_left, Contains-append_right, Contains-append_cases, Contains-push, Contains-push_cases}
use Rattle.std.proofs.lemmas.Map.Lookups.{CmpEqualImpliesEq}
use Rattle.std.proofs.lemmas.Map.Views.{btree_set_contains_iff, tells_apart}
use Rattle.std.proofs.Math.Seq.{get_or-append_seam}
use Rattle.field_bounds.specs.declared.id.TxnId.{TxnId}
use Rattle.field_bounds.specs.contracts.id.TxnIdOrd.TheImpl as order
use Rattle.field_bounds.specs.contracts.id.TxnIdOrd.TheImpl.Laws as laws
use Rattle.field_bounds.specs.contracts.id.TxnIdPartialOrd.TheImpl as partial
use Rattle.site_service.specs.Rising.{IsBefore, IsRising}

-- ---- the order

exact : CmpEqualImpliesEq (order.ghosts).cmp
exact x y same = search rules

less_before : (a b : TxnId) → IsBefore a b → (order.ghosts).cmp a b ≡ Less
less_before a b before = grind (arith, nat_tests)

-- what `<` says
pub lt_before : (a b : TxnId) → partial_lt (partial.ghosts).partial_cmp a b ≡ true → IsBefore a b
lt_before a b is = grind (arith, nat_tests)

pub before_lt : (a b : TxnId) → IsBefore a b → partial_lt (partial.ghosts).partial_cmp a b ≡ true
before_lt a b before = grind (arith, nat_tests)

before_trans : (a b c : TxnId) → IsBefore a b → IsBefore b c → IsBefore a c
before_trans a b c one two = grind (arith, nat_tests)

not_less : (a b : TxnId) → IsBefore a b → is_lt ((order.ghosts).cmp b a) ≡ false
not_less a b before = grind (arith, nat_tests)

-- ---- those that rise

-- one more, behind the last
pub one_behind : (txns : List TxnId) (last txn : TxnId) → 0 < length txns → ((d : TxnId) → get_or txns (length txns - 1) d ≡ last) → IsRising txns
    → IsBefore last txn → IsRising (txns ++ txn ∷ [])
one_behind txns last txn some is_last rising before i j d lt in_range =
    let front : (k : ℕ) → k < length txns → get_or (txns ++ txn ∷ []) k d ≡ get_or txns k d = λ k below. get_or_append_left txns (txn ∷ []) d k below in
    let to_last : i < length txns → IsBefore (get_or txns i d) txn = λ below. elim (cases_lt i (length txns - 1)) [
      | inl earlier ↦ before_trans _ _ _ (subst (IsBefore (get_or txns i d)) (is_last d) (rising i (length txns - 1) d earlier (omega arith))) before
      | inr at_end ↦ subst (λ (t : TxnId). IsBefore t txn) (sym (ap (λ (k : ℕ). get_or txns k d) {x = i} {y = length txns - 1} (omega arith) ∙ is_last d)) before
    ] in
    elim (cases_lt j (length txns)) [
      | inl below ↦ rw (front i (omega arith), front j below) (rising i j d lt below)
      | inr end ↦
          let at : j ≡ length txns = omega (arith, length-append txns (txn ∷ [])) in
          rw (front i (omega arith), at, get_or-append_seam txns txn [] d) (to_last (omega arith))
    ]

-- and only there
pub behind_last : (txns : List TxnId) (last txn : TxnId) → 0 < length txns → ((d : TxnId) → get_or txns (length txns - 1) d ≡ last)
    → IsRising (txns ++ txn ∷ []) → IsBefore last txn
behind_last txns last txn some is_last rising =
    let at : IsBefore (get_or (txns ++ txn ∷ []) (length txns - 1) txn) (get_or (txns ++ txn ∷ []) (length txns) txn) =
    rising (length txns - 1) (length txns) txn (omega arith) (omega (arith, length-append txns (txn ∷ []))) in
    rw (get_or_append_left txns (txn ∷ []) txn (length txns - 1) (omega arith), is_last txn, get_or-append_seam txns txn [] txn) at at

-- ---- the search

-- the answers of a comparison rise with them
answers_rise : (txns : List TxnId) (txn : TxnId) → IsRising txns → IsNonDecreasingBy (λ y. ordering_index ((order.ghosts).cmp y txn)) txns
answers_rise txns txn rising = searchable_from_sorted laws.total-law (λ t. t) txns txn (λ k d low high.
    not_less _ _ (rising k (k + 1) d (omega arith) high))

found_there : (txns : List TxnId) (txn : TxnId) (r : Result ℕ ℕ) → IsSearchInRange r (length txns)
    → IsBinarySearchResult (λ y. (order.ghosts).cmp y txn) txns r → is_ok r ≡ true → Contains txns txn
found_there txns txn (Ok at) in_range result found = (at, in_range, exact _ _ (result txn))
found_there txns txn (Err at) in_range result found = absurd cc

there_found : (txns : List TxnId) (txn : TxnId) (r : Result ℕ ℕ) → IsRising txns → IsBinarySearchResult (λ y. (order.ghosts).cmp y txn) txns r
    → Contains txns txn → is_ok r ≡ true
there_found txns txn (Ok at) rising result there = refl
there_found txns txn (Err at) rising result there =
    let parts = result (answers_rise txns txn rising) in
    let tie : (order.ghosts).cmp (get_or txns there.0 txn) txn ≡ Equal = rw there.2 (tied_itself laws.total-law txn) in
    elim (cases_lt there.0 at) [
      | inl below ↦ absurd (let less = parts.0 there.0 txn (omega arith) below in cc)
      | inr behind ↦ absurd (let greater = parts.1 there.0 txn behind there.1 in cc)
    ]

-- ---- those that came late

is_there : (s : BTreeSet TxnId) (txn : TxnId) → IsTrue (contains (order.ghosts).cmp s txn) ↔ Contains s.keys txn
is_there s txn = btree_set_contains_iff laws.total-law exact s txn

module _ (s n : BTreeSet TxnId) (put_in : TxnId) (put : Updates (order.ghosts).cmp s n put_in true) (other : TxnId) where
  one_of : (b : Bool) → is_eq ((order.ghosts).cmp put_in other) ≡ b
      → cond b true (contains (order.ghosts).cmp s other) ≡ true → (put_in ≡ other) ⊎ Contains s.keys other
  one_of true same found = inl (tells_apart exact put_in other same)
  one_of false apart found = inr ((is_there s other).0 found)

  still : (b : Bool) → contains (order.ghosts).cmp s other ≡ true → cond b true (contains (order.ghosts).cmp s other) ≡ true
  still true found = refl
  still false found = found

  there : (put_in ≡ other) ⊎ Contains s.keys other → Contains n.keys other
  there (inl now) = subst (λ (x : TxnId). Contains n.keys x) now ((is_there n put_in).0 put.1)
  there (inr before) = (is_there n other).0 (put.0 other ∙ still _ ((is_there s other).1 before))

  put_told : Contains n.keys other ↔ ((put_in ≡ other) ⊎ Contains s.keys other)
  put_told = (λ has. one_of _ refl (sym (put.0 other) ∙ (is_there n other).1 has), there)

-- ---- both

module _ (rising : List TxnId) (late : BTreeSet TxnId) (txn other : TxnId) where
  -- one more of those that rise
  pub pushed : Contains ((rising ++ txn ∷ []) ++ late.keys) other ↔ ((txn ≡ other) ⊎ Contains (rising ++ late.keys) other)
  pushed = (
    λ has. elim (Contains-append_cases (rising ++ txn ∷ []) late.keys other has) [
      | inl rises ↦ elim (Contains-push_cases rising txn other rises) [
        | inl before ↦ inr (Contains-append_left rising late.keys other before)
        | inr now ↦ inl now
      ]
      | inr before ↦ inr (Contains-append_right rising late.keys other before)
    ],
    λ either. elim either [
      | inl now ↦ Contains-append_left (rising ++ txn ∷ []) late.keys other (subst (Contains (rising ++ txn ∷ [])) now (Contains-push rising txn))
      | inr before ↦ elim (Contains-append_cases rising late.keys other before) [
        | inl rises ↦ Contains-append_left (rising ++ txn ∷ []) late.keys other (Contains-append_left rising (txn ∷ []) other rises)
        | inr came_late ↦ Contains-append_right (rising ++ txn ∷ []) late.keys other came_late
      ]
    ],
  )

  -- one more of those that came late
  pub inserted : (new : BTreeSet TxnId) → Updates (order.ghosts).cmp late new txn true
      → Contains (rising ++ new.keys) other ↔ ((txn ≡ other) ⊎ Contains (rising ++ late.keys) other)
  inserted new put =
      let told = put_told late new txn put other in (
        λ has. elim (Contains-append_cases rising new.keys other has) [
          | inl rises ↦ inr (Contains-append_left rising late.keys other rises)
          | inr came_late ↦ elim (told.0 came_late) [
            | inl now ↦ inl now
            | inr before ↦ inr (Contains-append_right rising late.keys other before)
          ]
        ],
        λ either. elim either [
          | inl now ↦ Contains-append_right rising new.keys other (told.1 (inl now))
          | inr before ↦ elim (Contains-append_cases rising late.keys other before) [
            | inl rises ↦ Contains-append_left rising new.keys other rises
            | inr came_late ↦ Contains-append_right rising new.keys other (told.1 (inr came_late))
          ]
        ],
      )

-- found among the late ones
pub late_told : (rising : List TxnId) (late : BTreeSet TxnId) (txn : TxnId) → contains (order.ghosts).cmp late txn ≡ true → Contains (rising ++ late.keys) txn
late_told rising late txn found = Contains-append_right rising late.keys txn ((is_there late txn).0 found)

-- not found there: the search among those that rise tells it
pub search_told : (rising : List TxnId) (late : BTreeSet TxnId) (txn : TxnId) (r : Result ℕ ℕ) → IsRising rising
    → contains (order.ghosts).cmp late txn ≡ false → IsSearchInRange r (length rising)
    → IsBinarySearchResult (λ y. (order.ghosts).cmp y txn) rising r → IsTrue (is_ok r) ↔ Contains (rising ++ late.keys) txn
search_told rising late txn r rises absent in_range result = (
  λ found. Contains-append_left rising late.keys txn (found_there rising txn r in_range result found),
  λ has. elim (Contains-append_cases rising late.keys txn has) [
    | inl there ↦ there_found rising txn r rises result there
    | inr came_late ↦ absurd (let found = (is_there late txn).1 came_late in cc)
  ],
)
