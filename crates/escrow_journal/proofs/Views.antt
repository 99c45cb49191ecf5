-- The journal's vector and what is seen of it.
use Rattle.std.proofs.Common.{◌≡◌, ℕ, ◌<◌, ◌≤◌, true, false, List, [], ◌∷◌, ◌++◌, length, refl, ap, sym, subst, ◌∙◌, arith, set, get_or, inl, inr}
use Rattle.std.specs.Prelude.{Result, Ok, Err, OnErr}
use Rattle.std.specs.List.{remove}
use Rattle.std.proofs.lemmas.Bool.{cases_Bool}
use Rattle.std.proofs.lemmas.List.{map-append, map-set, get_or-map, length-map}
use Rattle.std.proofs.lemmas.List.Sums.{passes_at_first}
use Rattle.std.proofs.Math.Seq.{map-set_same}
use Rattle.escrow_journal.specs.declared.journal.OpenTransaction.{OpenTransaction}
use Rattle.field_bounds.specs.declared.id.TxnId.{TxnId}
use Rattle.field_bounds.specs.declared.entry.Escrow.{Escrow}
use Rattle.field_bounds.specs.Effects.{same_txn}
use Rattle.field_bounds.specs.Owed.{max_open, max_escrows}
use Rattle.escrow_journal.specs.Journal.{Row, is_listed, escrows_at, with_escrow, rows_with, without, AreDistinct, IsJournal}
use Rattle.escrow_journal.specs.Kept.{rows_of, index_of}
use Rattle.escrow_journal.proofs.JournalLaws.{place_in, position_or_len-map, list_any-place, list_any-no_place, map-remove, remove-is, set-is, escrows_at-place, escrows_at-short, begun_is, removed_is, added_is, place_in-at}

-- at any result, from the fact itself
pub on_err : {A E : Type 0} {P : Type 0} (r : Result A E) → P → OnErr r P
on_err (Ok a) p = tt
on_err (Err e) p = p

abbrev pub row_of : OpenTransaction → Row
row_of r = (r.txn, r.escrows.items)

-- ---- s is what is seen of the items

module _ (s : List Row) (items : List OpenTransaction) (t : TxnId) (view : rows_of items ≡ s) where
  pub place_is : index_of t items ≡ place_in t s
  place_is = sym (position_or_len-map (λ (r : Row). same_txn r.0 t) row_of items) ∙ ap (place_in t) view

  length_is : length s ≡ length items
  length_is = ap length (sym view) ∙ length-map items row_of

  -- no place is found
  pub is_not_there : index_of t items ≡ length items → is_listed t s ≡ false
  is_not_there e =
      elim (cases_Bool (is_listed t s)) [
        | inl h ↦ absurd (let l = list_any-place (λ (r : Row). same_txn r.0 t) s h in omega (arith, place_is, length_is))
        | inr h ↦ h
      ]

  -- a place is found
  pub is_there : index_of t items < length items → is_listed t s ≡ true
  is_there l =
      elim (cases_Bool (is_listed t s)) [
        | inl h ↦ h
        | inr h ↦ absurd (let n = list_any-no_place (λ (r : Row). same_txn r.0 t) s h in omega (arith, place_is, length_is))
      ]

-- a row of the transaction stands at its place
pub guessed_at : (items : List OpenTransaction) (t : TxnId) (at : ℕ) (x : OpenTransaction) → AreDistinct (rows_of items) → at < length items
    → x ≡ get_or items at x → same_txn x.txn t ≡ true → at ≡ index_of t items
guessed_at items t at x distinct within is mine =
    let seen : (get_or (rows_of items) at (row_of x)).0 ≡ x.txn =
    ap (λ (r : Row). r.0) (get_or-map row_of items at x (row_of x) within) ∙ ap (λ (r : OpenTransaction). r.txn) (sym is) in
    place_in-at t (rows_of items) at (row_of x) distinct (omega (arith, within, length-map items row_of))
    (ap (λ (k : TxnId). same_txn k t) seen ∙ mine) ∙ sym (place_is (rows_of items) items t refl)

-- the place i is found in ds, which are the items
module _ (s : List Row) (items ds : List OpenTransaction) (t : TxnId) (view : rows_of items ≡ s) (deref : ds ≡ items) (i : ℕ)
    (within : i < length ds) (at : i ≡ index_of t ds) where
  found : i < length items
  found = omega (arith, ap length deref)

  here_is : i ≡ place_in t s
  here_is = at ∙ ap (index_of t) deref ∙ place_is s items t view

  open_is : is_listed t s ≡ true
  open_is = is_there s items t view (omega (arith, found, at, ap (index_of t) deref))

  pub item_escrows : (x : OpenTransaction) → x ≡ get_or items i x → x.escrows.items ≡ escrows_at t s
  item_escrows x e =
      ap (λ (r : OpenTransaction). r.escrows.items) e ∙ ap (λ (r : Row). r.1) (sym (get_or-map row_of items i x (row_of x) found))
      ∙ ap (λ (xs : List Row). (get_or xs i (row_of x)).1) view ∙ ap (λ (k : ℕ). (get_or s k (row_of x)).1) here_is
      ∙ escrows_at-place t s (row_of x) open_is

  module _ (was : IsJournal (rows_of items)) where
    seen : IsJournal s
    seen = subst IsJournal view was

    pub item_short : (x : OpenTransaction) → x ≡ get_or items i x → length x.escrows.items ≤ max_escrows
    item_short x e = subst (λ (xs : List Escrow). length xs ≤ max_escrows) (sym (item_escrows x e)) (escrows_at-short t s seen.short)

    -- the row at the place is taken out
    pub taken_view : (left : List OpenTransaction) → left ≡ remove items i → rows_of left ≡ without t s
    taken_view left e =
        ap rows_of e ∙ map-remove row_of items i ∙ ap (λ xs. remove xs i) view ∙ ap (remove s) here_is ∙ remove-is t s seen.distinct open_is

    -- the row at the place has one more escrow
    pub added_view : (x y : OpenTransaction) (e : Escrow) → x ≡ get_or items i x → y.txn ≡ x.txn
        → y.escrows.items ≡ x.escrows.items ++ e ∷ [] → rows_of (set items i y) ≡ rows_with t e s
    added_view x y e ex et es =
        let here : get_or s (place_in t s) (row_of x) ≡ row_of x =
        ap (λ (k : ℕ). get_or s k (row_of x)) (sym here_is) ∙ ap (λ (xs : List Row). get_or xs i (row_of x)) (sym view)
        ∙ get_or-map row_of items i x (row_of x) found ∙ ap row_of (sym ex) in
        let passes : same_txn (get_or s (place_in t s) (row_of x)).0 t ≡ true =
        passes_at_first (λ (r : Row). same_txn r.0 t) s (row_of x) (list_any-place (λ (r : Row). same_txn r.0 t) s open_is) in
        let mine : same_txn x.txn t ≡ true = rw here at passes in
        let w : row_of y ≡ with_escrow t e (get_or s (place_in t s) (row_of x)) =
        rw here (rw mine (ap (λ k. (k, y.escrows.items)) et ∙ ap (λ l. (x.txn, l)) es)) in
        map-set row_of items i y ∙ ap (λ xs. set xs i (row_of y)) view ∙ ap (λ k. set s k (row_of y)) here_is
        ∙ set-is t e s (row_of y) (row_of x) seen.distinct open_is w

    pub more_is : (x y : OpenTransaction) (e : Escrow) → length (escrows_at t s) < max_escrows → x ≡ get_or items i x → y.txn ≡ x.txn
        → y.escrows.items ≡ x.escrows.items ++ e ∷ [] → IsJournal (rows_of (set items i y))
    more_is x y e room ex et es = subst IsJournal (sym (added_view x y e ex et es)) (added_is s t e seen room)

    -- the row at the place is as it was
    pub same_view : (x y : OpenTransaction) → x ≡ get_or items i x → y.txn ≡ x.txn → y.escrows.items ≡ x.escrows.items
        → rows_of (set items i y) ≡ s
    same_view x y ex et es =
        map-set_same row_of items i y x (ap (λ k. (k, y.escrows.items)) et ∙ ap (λ l. (x.txn, l)) es ∙ ap row_of ex) ∙ view

    pub same_is : (x y : OpenTransaction) → x ≡ get_or items i x → y.txn ≡ x.txn → y.escrows.items ≡ x.escrows.items
        → IsJournal (rows_of (set items i y))
    same_is x y ex et es = subst IsJournal (sym (same_view x y ex et es)) seen

-- one more row, with no escrow
pub pushed_is : (s : List Row) (items more : List OpenTransaction) (x : OpenTransaction) (t : TxnId) → more ≡ items ++ x ∷ [] → x.txn ≡ t
    → x.escrows.items ≡ [] → rows_of items ≡ s → IsJournal (rows_of items) → is_listed t s ≡ false → length s < max_open
    → IsJournal (rows_of more)
pushed_is s items more x t e same none view was closed room =
    let row : ◌≡◌ {A = Row} (row_of x) (t, []) = ap (λ (u : TxnId). (u, x.escrows.items)) same ∙ ap (λ (xs : List Escrow). (t, xs)) none in
    let seen : rows_of more ≡ s ++ (t, []) ∷ [] =
    ap rows_of e ∙ map-append row_of items (x ∷ []) ∙ ap (λ (r : Row). rows_of items ++ r ∷ []) row
    ∙ ap (λ (rows : List Row). rows ++ (t, []) ∷ []) view in
    subst IsJournal (sym seen) (begun_is s t (subst IsJournal view was) closed room)

-- one row fewer, whichever it is
pub left_is : (items left : List OpenTransaction) (i : ℕ) → left ≡ remove items i → IsJournal (rows_of items) → IsJournal (rows_of left)
left_is items left i e was = subst IsJournal (sym (ap rows_of e ∙ map-remove row_of items i)) (removed_is (rows_of items) i was)
