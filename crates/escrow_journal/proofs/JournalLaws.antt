-- The list of open transactions: the place of one, one more escrow, one taken out, and what keeps it a journal.
use Rattle.std.proofs.Common.{◌≡◌, ℕ, ◌+◌, ◌<◌, ◌≤◌, Bool, true, false, cond, not, ◌||◌, List, [], ◌∷◌, ◌++◌, map, length, refl, ap, sym, ◌∙◌, subst, arith, set, get_or, suc, zero, inl, inr}
use Rattle.std.specs.Prelude.{All}
use Rattle.std.specs.List.{list_any, position_or_len, remove}
use Rattle.std.proofs.lemmas.Bool.{cases_Bool, false≢true, or_parts}
use Rattle.std.proofs.lemmas.List.{length-map, length-append}
use Rattle.std.proofs.lemmas.List.Elements.{All-nil, All-cons, All-head, All-tail, All-push}
use Rattle.std.proofs.lemmas.List.Folds.{list_any-append}
use Rattle.std.proofs.Math.Bool.{or-false, or-true}
use Rattle.field_bounds.specs.declared.id.TxnId.{TxnId}
use Rattle.field_bounds.specs.declared.entry.Escrow.{Escrow}
use Rattle.field_bounds.specs.Effects.{same_txn}
use Rattle.field_bounds.specs.Owed.{max_open, max_escrows}
use Rattle.field_bounds.proofs.Lawful.{same_txn-true}
use Rattle.field_bounds.proofs.Steps.{same_txn-sym}
use Rattle.escrow_journal.specs.Journal.{Row, is_listed, escrows_at, with_escrow, rows_with, without, AreDistinct, IsShort, IsJournal}

pub position_or_len-none : {X : Type 0} (p : X → Bool) (xs : List X) → ((k : ℕ) (d : X) → k < length xs → p (get_or xs k d) ≡ false)
    → position_or_len p xs ≡ length xs
position_or_len-none p [] h = refl
position_or_len-none p (x ∷ xs) h =
    rw (h 0 x (omega arith), position_or_len-none p xs (λ k d l. h (suc k) d (omega arith))) (omega arith)

pub position_or_len-here : {X : Type 0} (p : X → Bool) (x : X) (xs : List X) → p x ≡ true → position_or_len p (x ∷ xs) ≡ 0
position_or_len-here p x xs h = rw h refl

pub position_or_len-there : {X : Type 0} (p : X → Bool) (x : X) (xs : List X) → p x ≡ false
    → position_or_len p (x ∷ xs) ≡ suc (position_or_len p xs)
position_or_len-there p x xs h = rw h (omega arith)

pub position_or_len-map : {X Y : Type 0} (p : Y → Bool) (h : X → Y) (xs : List X)
    → position_or_len p (map h xs) ≡ position_or_len (λ x. p (h x)) xs
position_or_len-map p h [] = refl
position_or_len-map p h (x ∷ xs) = ap (λ n. cond (not (p (h x))) (1 + n) 0) (position_or_len-map p h xs)

pub list_any-place : {X : Type 0} (p : X → Bool) (xs : List X) → list_any p xs ≡ true → position_or_len p xs < length xs
list_any-place p [] h = absurd (false≢true h)
list_any-place p (x ∷ xs) h =
    elim (cases_Bool (p x)) [
      | inl here ↦ rw (position_or_len-here p x xs here) (omega arith)
      | inr there ↦ rw (position_or_len-there p x xs there) (omega (arith, list_any-place p xs (rw there at h)))
    ]

pub list_any-no_place : {X : Type 0} (p : X → Bool) (xs : List X) → list_any p xs ≡ false → position_or_len p xs ≡ length xs
list_any-no_place p [] h = refl
list_any-no_place p (x ∷ xs) h =
    let parts = or_parts (p x) (list_any p xs) h in
    rw (position_or_len-there p x xs parts.0, list_any-no_place p xs parts.1) refl

pub map-remove : {X Y : Type 0} (h : X → Y) (xs : List X) (i : ℕ) → map h (remove xs i) ≡ remove (map h xs) i
map-remove h [] zero = refl
map-remove h [] (suc i) = refl
map-remove h (x ∷ xs) zero = refl
map-remove h (x ∷ xs) (suc i) = ap (λ ys. h x ∷ ys) (map-remove h xs i)

-- a transaction that isn't there
without-none : (t : TxnId) (rows : List Row) → is_listed t rows ≡ false → without t rows ≡ rows
without-none t [] h = refl
without-none t (r ∷ rs) h =
    let parts = or_parts (same_txn r.0 t) (is_listed t rs) h in
    rw parts.0 (ap (λ ys. r ∷ ys) (without-none t rs parts.1))

added-none : (t : TxnId) (e : Escrow) (rows : List Row) → is_listed t rows ≡ false → rows_with t e rows ≡ rows
added-none t e [] h = refl
added-none t e (r ∷ rs) h =
    let parts = or_parts (same_txn r.0 t) (is_listed t rs) h in
    rw parts.0 (ap (λ ys. r ∷ ys) (added-none t e rs parts.1))

-- the place of a transaction in rows
abbrev pub place_in : TxnId → List Row → ℕ
place_in t rows = position_or_len (λ r. same_txn r.0 t) rows

pub remove-is : (t : TxnId) (rows : List Row) → AreDistinct rows → is_listed t rows ≡ true → remove rows (place_in t rows) ≡ without t rows
remove-is t [] d h = absurd (false≢true h)
remove-is t (r ∷ rs) d h =
    elim (cases_Bool (same_txn r.0 t)) [
      | inl here ↦
          let none : is_listed t rs ≡ false = subst (λ u. is_listed u rs ≡ false) (same_txn-true r.0 t here) d.0 in
          rw (position_or_len-here (λ (r : Row). same_txn r.0 t) r rs here, here) (sym (without-none t rs none))
      | inr there ↦
          rw (position_or_len-there (λ (r : Row). same_txn r.0 t) r rs there, there)
          (ap (λ ys. r ∷ ys) (remove-is t rs d.1 (rw there at h)))
    ]

pub set-is : (t : TxnId) (e : Escrow) (rows : List Row) (y d0 : Row) → AreDistinct rows → is_listed t rows ≡ true
    → y ≡ with_escrow t e (get_or rows (place_in t rows) d0) → set rows (place_in t rows) y ≡ rows_with t e rows
set-is t e [] y d0 d h w = absurd (false≢true h)
set-is t e (r ∷ rs) y d0 d h w =
    elim (cases_Bool (same_txn r.0 t)) [
      | inl here ↦
          let none : is_listed t rs ≡ false = subst (λ u. is_listed u rs ≡ false) (same_txn-true r.0 t here) d.0 in
          let at = position_or_len-here (λ (r : Row). same_txn r.0 t) r rs here in
          let w' = rw at at w in
          rw at (ap (λ z. z ∷ rs) w' ∙ ap (λ ys. with_escrow t e r ∷ ys) (sym (added-none t e rs none)))
      | inr there ↦
          let at = position_or_len-there (λ (r : Row). same_txn r.0 t) r rs there in
          let w' = rw at at w in
          rw (at, there) (ap (λ ys. r ∷ ys) (set-is t e rs y d0 d.1 (rw there at h) w'))
    ]

pub escrows_at-place : (t : TxnId) (rows : List Row) (d : Row) → is_listed t rows ≡ true
    → (get_or rows (place_in t rows) d).1 ≡ escrows_at t rows
escrows_at-place t [] d h = absurd (false≢true h)
escrows_at-place t (r ∷ rs) d h =
    elim (cases_Bool (same_txn r.0 t)) [
      | inl here ↦ rw (position_or_len-here (λ (r : Row). same_txn r.0 t) r rs here, here) refl
      | inr there ↦ rw (position_or_len-there (λ (r : Row). same_txn r.0 t) r rs there, there) (escrows_at-place t rs d (rw there at h))
    ]

-- what keeps the rows distinct
list_any-push : {X : Type 0} (p : X → Bool) (xs : List X) (x : X) → list_any p (xs ++ x ∷ []) ≡ (list_any p xs || p x)
list_any-push p xs x = list_any-append p xs (x ∷ []) ∙ ap (λ b. list_any p xs || b) (or-false (p x))

stands-remove : (u : TxnId) (rows : List Row) (i : ℕ) → is_listed u rows ≡ false → is_listed u (remove rows i) ≡ false
stands-remove u [] zero h = refl
stands-remove u [] (suc i) h = refl
stands-remove u (r ∷ rs) zero h = (or_parts (same_txn r.0 u) (is_listed u rs) h).1
stands-remove u (r ∷ rs) (suc i) h =
    let parts = or_parts (same_txn r.0 u) (is_listed u rs) h in
    rw parts.0 (stands-remove u rs i parts.1)

pub AreDistinct-remove : (rows : List Row) (i : ℕ) → AreDistinct rows → AreDistinct (remove rows i)
AreDistinct-remove [] zero d = tt
AreDistinct-remove [] (suc i) d = tt
AreDistinct-remove (r ∷ rs) zero d = d.1
AreDistinct-remove (r ∷ rs) (suc i) d = (stands-remove r.0 rs i d.0, AreDistinct-remove rs i d.1)

length-remove-le : {X : Type 0} (xs : List X) (i : ℕ) → length (remove xs i) ≤ length xs
length-remove-le [] zero = omega arith
length-remove-le [] (suc i) = omega arith
length-remove-le (x ∷ xs) zero = omega arith
length-remove-le (x ∷ xs) (suc i) = omega (arith, length-remove-le xs i)

All-remove : {X : Type 0} (P : X → Type 0) (xs : List X) (i : ℕ) → All P xs → All P (remove xs i)
All-remove P [] zero h = h
All-remove P [] (suc i) h = h
All-remove P (x ∷ xs) zero h = All-tail P x xs h
All-remove P (x ∷ xs) (suc i) h = All-cons P x (remove xs i) (All-head P x xs h) (All-remove P xs i (All-tail P x xs h))

key-with_escrow : (t : TxnId) (e : Escrow) (r : Row) → (with_escrow t e r).0 ≡ r.0
key-with_escrow t e r = elim (cases_Bool (same_txn r.0 t)) [ inl here ↦ rw here refl | inr there ↦ rw there refl ]

pub stands-added : (t : TxnId) (e : Escrow) (u : TxnId) (rows : List Row) → is_listed u (rows_with t e rows) ≡ is_listed u rows
stands-added t e u [] = refl
stands-added t e u (r ∷ rs) =
    ap (λ k. same_txn k u || is_listed u (rows_with t e rs)) (key-with_escrow t e r) ∙ ap (λ b. same_txn r.0 u || b) (stands-added t e u rs)

pub AreDistinct-added : (t : TxnId) (e : Escrow) (rows : List Row) → AreDistinct rows → AreDistinct (rows_with t e rows)
AreDistinct-added t e [] d = tt
AreDistinct-added t e (r ∷ rs) d =
    (ap (λ k. is_listed k (rows_with t e rs)) (key-with_escrow t e r) ∙ stands-added t e r.0 rs ∙ d.0, AreDistinct-added t e rs d.1)

stands-push : (u : TxnId) (rows : List Row) (r : Row) → is_listed u (rows ++ r ∷ []) ≡ (is_listed u rows || same_txn r.0 u)
stands-push u rows r = list_any-push (λ (r : Row). same_txn r.0 u) rows r

pub AreDistinct-push : (rows : List Row) (r : Row) → AreDistinct rows → is_listed r.0 rows ≡ false → AreDistinct (rows ++ r ∷ [])
AreDistinct-push [] r d h = (refl, tt)
AreDistinct-push (x ∷ xs) r d h =
    let parts = or_parts (same_txn x.0 r.0) (is_listed r.0 xs) h in
    (stands-push x.0 xs r ∙ ap (λ b. b || same_txn r.0 x.0) d.0 ∙ same_txn-sym r.0 x.0 ∙ parts.0, AreDistinct-push xs r d.1 parts.1)

-- ---- what keeps the rows a journal: one more transaction, one fewer, one more escrow

pub begun_is : (rows : List Row) (t : TxnId) → IsJournal rows → is_listed t rows ≡ false → length rows < max_open
    → IsJournal (rows ++ (t, []) ∷ [])
begun_is rows t was closed room =
    record {
      distinct = AreDistinct-push rows (t, []) was.distinct closed;
      few = omega (arith, length-append rows ((t, []) ∷ []));
      short = All-push IsShort rows (t, []) was.short (omega arith);
    }

pub removed_is : (rows : List Row) (i : ℕ) → IsJournal rows → IsJournal (remove rows i)
removed_is rows i was =
    record {
      distinct = AreDistinct-remove rows i was.distinct;
      few = omega (arith, length-remove-le rows i, was.few);
      short = All-remove IsShort rows i was.short;
    }

pub added-short : (t : TxnId) (e : Escrow) (rows : List Row) → AreDistinct rows → All IsShort rows
    → length (escrows_at t rows) < max_escrows → All IsShort (rows_with t e rows)
added-short t e [] d short room = All-nil IsShort
added-short t e (r ∷ rs) d short room =
    elim (cases_Bool (same_txn r.0 t)) [
      | inl here ↦
          let none : is_listed t rs ≡ false = subst (λ u. is_listed u rs ≡ false) (same_txn-true r.0 t here) d.0 in
          let few : length r.1 < max_escrows = rw here at room in
          let row : with_escrow t e r ≡ (r.0, r.1 ++ e ∷ []) = rw here refl in
          let rest : All IsShort (rows_with t e rs) = rw (added-none t e rs none) (All-tail IsShort r rs short) in
          All-cons IsShort (with_escrow t e r) (rows_with t e rs) (rw row (omega (arith, length-append r.1 (e ∷ [])))) rest
      | inr there ↦
          let row : with_escrow t e r ≡ r = rw there refl in
          All-cons IsShort (with_escrow t e r) (rows_with t e rs) (rw row (All-head IsShort r rs short))
          (added-short t e rs d.1 (All-tail IsShort r rs short) (rw there at room))
    ]

pub added_is : (rows : List Row) (t : TxnId) (e : Escrow) → IsJournal rows → length (escrows_at t rows) < max_escrows
    → IsJournal (rows_with t e rows)
added_is rows t e was room =
    record {
      distinct = AreDistinct-added t e rows was.distinct;
      few = omega (arith, length-map rows (with_escrow t e), was.few);
      short = added-short t e rows was.distinct was.short room;
    }

pub escrows_at-short : (t : TxnId) (rows : List Row) → All IsShort rows → length (escrows_at t rows) ≤ max_escrows
escrows_at-short t [] short = omega arith
escrows_at-short t (r ∷ rs) short =
    elim (cases_Bool (same_txn r.0 t)) [
      | inl here ↦ rw here (All-head IsShort r rs short)
      | inr there ↦ rw there (escrows_at-short t rs (All-tail IsShort r rs short))
    ]

-- a row of the transaction stands at its place, since it stands nowhere else
listed_at : (t : TxnId) (rows : List Row) (at : ℕ) (d : Row) → at < length rows → same_txn (get_or rows at d).0 t ≡ true
    → is_listed t rows ≡ true
listed_at t [] at d l h = absurd (omega (arith, l))
listed_at t (r ∷ rs) zero d l h = rw h refl
listed_at t (r ∷ rs) (suc at) d l h = rw (listed_at t rs at d (omega (arith, l)) h) (or-true (same_txn r.0 t))

pub place_in-at : (t : TxnId) (rows : List Row) (at : ℕ) (d : Row) → AreDistinct rows → at < length rows
    → same_txn (get_or rows at d).0 t ≡ true → at ≡ place_in t rows
place_in-at t [] at d distinct l h = absurd (omega (arith, l))
place_in-at t (r ∷ rs) zero d distinct l h = sym (position_or_len-here (λ (r : Row). same_txn r.0 t) r rs h)
place_in-at t (r ∷ rs) (suc at) d distinct l h =
    elim (cases_Bool (same_txn r.0 t)) [
      | inl here ↦
          let none : is_listed t rs ≡ false = subst (λ u. is_listed u rs ≡ false) (same_txn-true r.0 t here) distinct.0 in
          absurd (false≢true (sym none ∙ listed_at t rs at d (omega (arith, l)) h))
      | inr there ↦
          rw (position_or_len-there (λ (r : Row). same_txn r.0 t) r rs there)
          (ap suc (place_in-at t rs at d distinct.1 (omega (arith, l)) h))
    ]
