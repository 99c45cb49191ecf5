-- Open transactions that stand apart: one more, one fewer, and the place of one.
use Rattle.std.proofs.Common.{◌≡◌, ℕ, zero, suc, ◌<◌, ◌≤◌, Bool, true, false, not, ◌&&◌, ◌||◌, List, [], ◌∷◌, ◌++◌, filter, length, refl, ap, sym, ◌∙◌, subst, arith, set, get_or, inl, inr}
use Rattle.std.specs.Prelude.{nat_le, nat_lt}
use Rattle.std.specs.List.{remove}
use Rattle.std.proofs.lemmas.Bool.{cases_Bool, false≢true, or_parts, or_from, or_left, or_right, and_parts, and_from, not-true, not_from_false, leb-true, le-leb, ltb-true}
use Rattle.std.proofs.lemmas.List.{map-append}
use Rattle.std.proofs.Math.Seq.{map-set_same}
use Rattle.field_bounds.specs.declared.id.TxnId.{TxnId}
use Rattle.field_bounds.specs.Effects.{same_txn}
use Rattle.field_bounds.proofs.Lawful.{same_txn-true}
use Rattle.central_machine.specs.declared.journal.OpenRow.{OpenRow}
use Rattle.central_machine.specs.Open.{txns_of, has_row, index_of, IsClosed}
use Rattle.central_machine.specs.Rising.{rank, is_among, are_apart}
use Rattle.central_machine.proofs.Rows.{closed_is, has_place, place-here, place-there}

apart_parts : (top : ℕ) (t : TxnId) (ts : List TxnId) → are_apart top (t ∷ ts) ≡ true
    → (rank t ≤ top) × (is_among t ts ≡ false) × (are_apart top ts ≡ true)
apart_parts top t ts h =
    let first = and_parts (nat_le (rank t) top) (not (is_among t ts) && are_apart top ts) h in
    let rest = and_parts (not (is_among t ts)) (are_apart top ts) first.1 in
    (leb-true (rank t) top first.0, not-true (is_among t ts) rest.0, rest.1)

apart_from : (top : ℕ) (t : TxnId) (ts : List TxnId) → rank t ≤ top → is_among t ts ≡ false → are_apart top ts ≡ true
    → are_apart top (t ∷ ts) ≡ true
apart_from top t ts low alone rest =
    and_from (nat_le (rank t) top) (not (is_among t ts) && are_apart top ts) (le-leb (rank t) top low)
    (and_from (not (is_among t ts)) (are_apart top ts) (not_from_false (is_among t ts) alone) rest)

-- what ranks higher is another transaction
other : (u t : TxnId) → rank u < rank t → same_txn t u ≡ false
other u t less =
    elim (cases_Bool (same_txn t u)) [
      | inl same ↦ absurd (let one : rank t ≡ rank u = ap rank (same_txn-true t u same) in omega (arith, less, one))
      | inr apart ↦ apart
    ]

-- one more, that ranks above the top
pub among_more : (u : TxnId) (ts : List TxnId) (t : TxnId) → is_among u ts ≡ false → same_txn t u ≡ false → is_among u (ts ++ t ∷ []) ≡ false
among_more u [] t none apart = rw apart refl
among_more u (x ∷ xs) t none apart =
    let parts = or_parts (same_txn x u) (is_among u xs) none in
    or_from (same_txn x u) (is_among u (xs ++ t ∷ [])) parts.0 (among_more u xs t parts.1 apart)

pub apart_more : (top : ℕ) (ts : List TxnId) (t : TxnId) → are_apart top ts ≡ true → top < rank t
    → are_apart (rank t) (ts ++ t ∷ []) ≡ true
apart_more top [] t h above = apart_from (rank t) t [] (omega arith) refl refl
apart_more top (x ∷ xs) t h above =
    let parts = apart_parts top x xs h in
    apart_from (rank t) x (xs ++ t ∷ []) (omega (arith, parts.0, above))
    (among_more x xs t parts.1 (other x t (omega (arith, parts.0, above)))) (apart_more top xs t parts.2 above)

-- one fewer
among_fewer : (u : TxnId) (rows : List OpenRow) (i : ℕ) → is_among u (txns_of rows) ≡ false
    → is_among u (txns_of (remove rows i)) ≡ false
among_fewer u [] zero h = refl
among_fewer u [] (suc i) h = refl
among_fewer u (r ∷ rs) zero h = (or_parts (same_txn r.txn u) (is_among u (txns_of rs)) h).1
among_fewer u (r ∷ rs) (suc i) h =
    let parts = or_parts (same_txn r.txn u) (is_among u (txns_of rs)) h in
    or_from (same_txn r.txn u) (is_among u (txns_of (remove rs i))) parts.0 (among_fewer u rs i parts.1)

pub apart_fewer : (top : ℕ) (rows : List OpenRow) (i : ℕ) → are_apart top (txns_of rows) ≡ true
    → are_apart top (txns_of (remove rows i)) ≡ true
apart_fewer top [] zero h = refl
apart_fewer top [] (suc i) h = refl
apart_fewer top (r ∷ rs) zero h = (apart_parts top r.txn (txns_of rs) h).2
apart_fewer top (r ∷ rs) (suc i) h =
    let parts = apart_parts top r.txn (txns_of rs) h in
    apart_from top r.txn (txns_of (remove rs i)) parts.0 (among_fewer r.txn rs i parts.1) (apart_fewer top rs i parts.2)

-- a row of the transaction is the one at its place
among_at : (t : TxnId) (rows : List OpenRow) (at : ℕ) (d : OpenRow) → at < length rows
    → same_txn (get_or rows at d).txn t ≡ true → is_among t (txns_of rows) ≡ true
among_at t [] at d l h = absurd (omega (arith, l))
among_at t (r ∷ rs) zero d l h = or_left (same_txn r.txn t) (is_among t (txns_of rs)) h
among_at t (r ∷ rs) (suc at) d l h =
    or_right (same_txn r.txn t) (is_among t (txns_of rs)) (among_at t rs at d (omega (arith, l)) h)

pub place_at_most_one : (top : ℕ) (t : TxnId) (rows : List OpenRow) (at : ℕ) (d : OpenRow)
    → are_apart top (txns_of rows) ≡ true → at < length rows → same_txn (get_or rows at d).txn t ≡ true → at ≡ index_of t rows
place_at_most_one top t [] at d apart l h = absurd (omega (arith, l))
place_at_most_one top t (r ∷ rs) zero d apart l h = sym (place-here t r rs h)
place_at_most_one top t (r ∷ rs) (suc at) d apart l h =
    let parts = apart_parts top r.txn (txns_of rs) apart in
    elim (cases_Bool (same_txn r.txn t)) [
      | inl here ↦
          let none : is_among t (txns_of rs) ≡ false =
          subst (λ (u : TxnId). is_among u (txns_of rs) ≡ false) (same_txn-true r.txn t here) parts.1 in
          absurd (false≢true (sym none ∙ among_at t rs at d (omega (arith, l)) h))
      | inr there ↦ ap suc (place_at_most_one top t rs at d parts.2 (omega (arith, l)) h) ∙ sym (place-there t r rs there)
    ]

-- while each ranked above those before it
pub apart_now : (rising : Bool) (top : ℕ) (txns : List TxnId) → (not rising || are_apart top txns) ≡ true → rising ≡ true
    → are_apart top txns ≡ true
apart_now true top txns h now = h
apart_now false top txns h now = absurd (false≢true now)

-- the row at a transaction's place is all that goes
abbrev rest_of : TxnId → List OpenRow → List OpenRow
rest_of t rows = filter (λ r. not (same_txn r.txn t)) rows

none_goes : (t : TxnId) (rows : List OpenRow) → is_among t (txns_of rows) ≡ false → rest_of t rows ≡ rows
none_goes t [] h = refl
none_goes t (r ∷ rs) h =
    let parts = or_parts (same_txn r.txn t) (is_among t (txns_of rs)) h in
    rw parts.0 (ap (λ ys. r ∷ ys) (none_goes t rs parts.1))

one_goes : (top : ℕ) (t : TxnId) (rows : List OpenRow) → are_apart top (txns_of rows) ≡ true
    → remove rows (index_of t rows) ≡ rest_of t rows
one_goes top t [] h = refl
one_goes top t (r ∷ rs) h =
    let parts = apart_parts top r.txn (txns_of rs) h in
    elim (cases_Bool (same_txn r.txn t)) [
      | inl here ↦
          let none : is_among t (txns_of rs) ≡ false =
          subst (λ (u : TxnId). is_among u (txns_of rs) ≡ false) (same_txn-true r.txn t here) parts.1 in
          rw (place-here t r rs here, here) (sym (none_goes t rs none))
      | inr there ↦ rw (place-there t r rs there, there) (ap (λ ys. r ∷ ys) (one_goes top t rs parts.2))
    ]

-- all rows of a transaction go, the first before the others
first_goes : (t : TxnId) (rows : List OpenRow) → rest_of t (remove rows (index_of t rows)) ≡ rest_of t rows
first_goes t [] = refl
first_goes t (r ∷ rs) =
    elim (cases_Bool (same_txn r.txn t)) [
      | inl here ↦ rw (place-here t r rs here, here) refl
      | inr there ↦ rw (place-there t r rs there, there) (ap (λ ys. r ∷ ys) (first_goes t rs))
    ]

pub closed_alone : (rising : Bool) (top : ℕ) (t : TxnId) (rows left : List OpenRow) (i : ℕ)
    → (not rising || are_apart top (txns_of rows)) ≡ true → rising ≡ true → i ≡ index_of t rows → left ≡ remove rows i
    → IsClosed rows left t
closed_alone rising top t rows left i was now at is =
    let one = is ∙ ap (remove rows) at ∙ one_goes top t rows (apart_now rising top (txns_of rows) was now) in
    subst (λ (xs : List OpenRow). IsClosed rows xs t) (sym one) (closed_is t rows)

pub closed_all : (t : TxnId) (rows fewer left : List OpenRow) (i : ℕ) → i ≡ index_of t rows → fewer ≡ remove rows i
    → left ≡ filter (λ r. not (same_txn r.txn t)) fewer → IsClosed rows left t
closed_all t rows fewer left i at first is =
    let all = is ∙ ap (rest_of t) (first ∙ ap (remove rows) at) ∙ first_goes t rows in
    subst (λ (xs : List OpenRow). IsClosed rows xs t) (sym all) (closed_is t rows)

-- a transaction with no row
pub closed_none : (t : TxnId) (rows : List OpenRow) → has_row t rows ≡ false → IsClosed rows rows t
closed_none t rows h = subst (λ (left : List OpenRow). IsClosed rows left t) (rest_is t rows h) (closed_is t rows)
  where
    rest_is : (t : TxnId) (rows : List OpenRow) → has_row t rows ≡ false → rest_of t rows ≡ rows
    rest_is t [] h = refl
    rest_is t (r ∷ rs) h =
        let parts = or_parts (same_txn r.txn t) (has_row t rs) h in
        rw parts.0 (ap (λ ys. r ∷ ys) (rest_is t rs parts.1))

-- ---- what keeps them apart while each ranked above those before it

pub begun_apart : (rising : Bool) (top n : ℕ) (rows more : List OpenRow) (r : OpenRow)
    → (not rising || are_apart top (txns_of rows)) ≡ true → more ≡ rows ++ r ∷ [] → n ≡ rank r.txn
    → (not (rising && nat_lt top n) || are_apart n (txns_of more)) ≡ true
begun_apart false top n rows more r was is ranked = refl
begun_apart true top n rows more r was is ranked =
    elim (cases_Bool (nat_lt top n)) [
      | inl above ↦
          let txns : txns_of more ≡ txns_of rows ++ r.txn ∷ [] =
          ap txns_of is ∙ map-append (λ (r : OpenRow). r.txn) rows (r ∷ []) in
          rw (above, txns, ranked) (apart_more top (txns_of rows) r.txn was (omega (arith, ltb-true top n above, ranked)))
      | inr below ↦ rw below refl
    ]

pub fewer_apart : (rising : Bool) (top : ℕ) (rows left : List OpenRow) (i : ℕ)
    → (not rising || are_apart top (txns_of rows)) ≡ true → left ≡ remove rows i
    → (not rising || are_apart top (txns_of left)) ≡ true
fewer_apart false top rows left i was is = refl
fewer_apart true top rows left i was is = ap (λ (xs : List OpenRow). are_apart top (txns_of xs)) is ∙ apart_fewer top rows i was

pub same_apart : (rising : Bool) (top : ℕ) (rows : List OpenRow) (i : ℕ) (x y : OpenRow)
    → (not rising || are_apart top (txns_of rows)) ≡ true → x ≡ get_or rows i x → y.txn ≡ x.txn
    → (not rising || are_apart top (txns_of (set rows i y))) ≡ true
same_apart rising top rows i x y was at same =
    ap (λ (xs : List TxnId). not rising || are_apart top xs)
    (map-set_same (λ (r : OpenRow). r.txn) rows i y x (same ∙ ap (λ (r : OpenRow). r.txn) at)) ∙ was

-- ---- what the journal's calls find

pub no_row : (t : TxnId) (rows : List OpenRow) → length rows ≤ index_of t rows → has_row t rows ≡ false
no_row t rows past =
    elim (cases_Bool (has_row t rows)) [
      | inl there ↦ absurd (let less = has_place t rows there in omega (arith, less, past))
      | inr none ↦ none
    ]
