-- What one more effect does to the rights and the open transactions that match the effects.
use Rattle.std.proofs.Common.{◌≡◌, ℕ, ◌+◌, ◌<◌, Bool, true, false, not, cond, ◌&&◌, ◌||◌, List, [], ◌∷◌, ◌++◌, length, map, reverse, filter, refl, sym, ap, ◌∙◌, arith, inl, inr}
use Rattle.std.specs.Prelude.{sum_by}
use Rattle.std.specs.List.{list_any}
use Rattle.std.proofs.lemmas.Bool.{cases_Bool}
use Rattle.std.proofs.lemmas.List.{length-map, length-reverse, map-append}
use Rattle.std.proofs.lemmas.List.Elements.{All-cons, All-nil}
use Rattle.field_bounds.specs.declared.kind.Kind.{Kind}
use Rattle.field_bounds.specs.declared.id.TxnId.{TxnId}
use Rattle.field_bounds.specs.declared.entry.Escrow.{Escrow}
use Rattle.field_bounds.specs.Schema.{SchemaValue}
use Rattle.field_bounds.specs.declared.effect.Effect.{Effect}
use Rattle.field_bounds.specs.declared.effect.Effect.TheVariants.{Begins, Grants, Commits, Aborts, Gives, Accepts, Stops}
use Rattle.field_bounds.specs.Effects.{Base, same_txn, begun_txns, open_txns, is_begun, is_committed, is_dropped, is_open, escrows_of, takes, held_rights}
use Rattle.field_bounds.specs.Owed.{count_open}
use Rattle.field_bounds.proofs.Lawful.{IsLawful, granted-mono, same_txn-true}
use Rattle.field_bounds.proofs.Steps.{same_txn-sym, of_txn, of_txn_is, held_grant, held_commit, held_abort, new_is_unused}
use Rattle.site_rights.specs.declared.field_rights.FieldRights.{FieldRights}
use Rattle.site_rights.specs.declared.field_rights.Outcome.{Outcome}
use Rattle.site_rights.specs.declared.field_rights.Outcome.TheVariants.{Committed, Aborted}
use Rattle.site_rights.specs.Rights.{after_take, ending, by_escrow, by_escrows, AreInRange, AreHeld}
use Rattle.site_rights.proofs.RightsLaws.{length-by_escrow, length-by_escrows, held_at-taken, held_at-by_escrows}
use Rattle.escrow_journal.specs.Journal.{Row, is_listed, escrows_at, with_escrow, rows_with, without}
use Rattle.site_step.specs.State.{row_of, journal_of, SetsAside}
use Rattle.site_step.proofs.Reading.{Matches}
use Rattle.field_bounds.proofs.Opening.{any_open}
use Rattle.field_bounds.proofs.Lists.{reverse-cons, list_any-reverse, sum_by-reverse, filter-reverse, All-reverse, list_any-map, map-agree, map-map, filter-agree, filter-and, filter-map}

-- ---- what is read of the journal

pub length-journal_of : (es : List Effect) → length (journal_of es) ≡ count_open es
length-journal_of es = length-map (reverse (open_txns es)) (row_of es) ∙ length-reverse (open_txns es)

found_here : (a o b : Bool) → (a ≡ true → o ≡ b) → (a && b) ≡ (a && o)
found_here true o b h = sym (h refl)
found_here false o b h = refl

pub stands-journal_of : (t : TxnId) (es : List Effect) → is_listed t (journal_of es) ≡ (is_begun t es && is_open t es)
stands-journal_of t es =
    list_any-map (λ (r : Row). same_txn r.0 t) (row_of es) (reverse (open_txns es))
    ∙ list_any-reverse (λ u. same_txn u t) (open_txns es)
    ∙ any_open t es es

escrows_in : (t : TxnId) (es : List Effect) (ts : List TxnId) → list_any (λ u. same_txn u t) ts ≡ true
    → escrows_at t (map (row_of es) ts) ≡ reverse (escrows_of t es)
escrows_in t es [] h = cc
escrows_in t es (u ∷ ts) h =
    elim (cases_Bool (same_txn u t)) [
      | inl same ↦ rw same (ap (λ (x : TxnId). reverse (escrows_of x es)) (same_txn-true u t same))
      | inr apart ↦ rw apart (escrows_in t es ts (rw apart at h))
    ]

pub escrows_at-journal_of : (t : TxnId) (es : List Effect) → (is_begun t es && is_open t es) ≡ true
    → escrows_at t (journal_of es) ≡ reverse (escrows_of t es)
escrows_at-journal_of t es opened =
    escrows_in t es (reverse (open_txns es)) (list_any-reverse (λ u. same_txn u t) (open_txns es) ∙ any_open t es es ∙ opened)

-- ---- what changes the journal

pub journal_of-begin : (t : TxnId) (es : List Effect) → is_open t es ≡ true → escrows_of t es ≡ []
    → journal_of (Begins t ∷ es) ≡ journal_of es ++ (t, []) ∷ []
journal_of-begin t es opened none =
    let first : open_txns (Begins t ∷ es) ≡ t ∷ open_txns es = rw opened refl in
    let last : ◌≡◌ {A = Row} (t, reverse (escrows_of t es)) (t, []) = ap (λ (xs : List Escrow). (t, reverse xs)) none in
    ap (λ (ts : List TxnId). map (row_of es) (reverse ts)) first
    ∙ ap (map (row_of es)) (reverse-cons t (open_txns es))
    ∙ map-append (row_of es) (reverse (open_txns es)) (t ∷ [])
    ∙ ap (λ (r : Row). journal_of es ++ r ∷ []) last

one_more : (txn : TxnId) (e : Escrow) (es : List Effect) (u : TxnId)
    → with_escrow txn e (row_of es u) ≡ row_of (Grants txn e.field e.change ∷ es) u
one_more txn e es u = by (same_txn u txn)
  where
    by : (b : Bool) → ◌≡◌ {A = Row} (cond b (u, reverse (escrows_of u es) ++ e ∷ []) (u, reverse (escrows_of u es))) (
      u,
      reverse (cond b (e ∷ escrows_of u es) (escrows_of u es)),
    )
    by true = ap (λ (xs : List Escrow). (u, xs)) (sym (reverse-cons e (escrows_of u es)))
    by false = refl

pub journal_of-grant : (txn : TxnId) (e : Escrow) (es : List Effect)
    → rows_with txn e (journal_of es) ≡ journal_of (Grants txn e.field e.change ∷ es)
journal_of-grant txn e es =
    map-map (with_escrow txn e) (row_of es) (reverse (open_txns es))
    ∙ map-agree (λ u. with_escrow txn e (row_of es u)) (row_of (Grants txn e.field e.change ∷ es)) (one_more txn e es)
    (reverse (open_txns es))

-- the effect of an end
abbrev pub ended : Outcome → TxnId → Effect
ended Committed t = Commits t
ended Aborted t = Aborts t

commit_closes : (s c d : Bool) → (not (s || c) && not d) ≡ ((not c && not d) && not s)
commit_closes true true d = refl
commit_closes true false true = refl
commit_closes true false false = refl
commit_closes false true d = refl
commit_closes false false true = refl
commit_closes false false false = refl

abort_closes : (s c d : Bool) → (not c && not (s || d)) ≡ ((not c && not d) && not s)
abort_closes true true d = refl
abort_closes true false true = refl
abort_closes true false false = refl
abort_closes false true d = refl
abort_closes false false true = refl
abort_closes false false false = refl

open_then : (o : Outcome) (t : TxnId) (es : List Effect) (u : TxnId) → is_open u (ended o t ∷ es) ≡ (is_open u es && not (same_txn u t))
open_then Committed t es u = commit_closes (same_txn t u) (is_committed u es) (is_dropped u es)
    ∙ ap (λ b. is_open u es && not b) (same_txn-sym t u)
open_then Aborted t es u = abort_closes (same_txn t u) (is_committed u es) (is_dropped u es)
    ∙ ap (λ b. is_open u es && not b) (same_txn-sym t u)

begun_then : (o : Outcome) (t : TxnId) (es : List Effect) → begun_txns (ended o t ∷ es) ≡ begun_txns es
begun_then Committed t es = refl
begun_then Aborted t es = refl

row_then : (o : Outcome) (t : TxnId) (es : List Effect) → row_of (ended o t ∷ es) ≡ row_of es
row_then Committed t es = refl
row_then Aborted t es = refl

pub journal_of-end : (o : Outcome) (t : TxnId) (es : List Effect) → without t (journal_of es) ≡ journal_of (ended o t ∷ es)
journal_of-end o t es =
    let left : open_txns (ended o t ∷ es) ≡ filter (λ u. not (same_txn u t)) (open_txns es) =
    ap (filter (λ id. is_open id (ended o t ∷ es))) (begun_then o t es)
    ∙ filter-agree (λ id. is_open id (ended o t ∷ es)) (λ id. is_open id es && not (same_txn id t)) (open_then o t es) (begun_txns es)
    ∙ filter-and (λ id. is_open id es) (λ id. not (same_txn id t)) (begun_txns es) in
    filter-map (λ (r : Row). not (same_txn r.0 t)) (row_of es) (reverse (open_txns es))
    ∙ ap (map (row_of es)) (filter-reverse (λ u. not (same_txn u t)) (open_txns es) ∙ ap reverse (sym left))
    ∙ ap (λ (f : TxnId → Row). map f (reverse (open_txns (ended o t ∷ es)))) (sym (row_then o t es))

-- ---- what changes rights and journal together

module _ (schema : SchemaValue) (base : Base) (es : List Effect) (lawful : IsLawful schema base es) (rows : List FieldRights)
    (journal : List Row) (was : Matches schema base es rows journal) where
  pub aside_begin : (t : TxnId) → is_begun t es ≡ false → SetsAside (Begins t ∷ es) rows (journal ++ (t, []) ∷ [])
  aside_begin t new =
      let unused = new_is_unused schema base t es lawful new in
      let opened : is_open t es ≡ true = rw (unused.uncommitted, unused.undropped) refl in
      record {
        held = λ f k l. was.held f k l;
        journal = ap (λ (j : List Row). j ++ (t, []) ∷ []) was.journal ∙ sym (journal_of-begin t es opened unused.no_escrow);
      }

  pub aside_grant : (txn : TxnId) (e : Escrow) → e.field.0 < length rows → is_open txn es ≡ true
      → SetsAside (Grants txn e.field e.change ∷ es) (by_escrow after_take rows e) (rows_with txn e journal)
  aside_grant txn e range opened =
      let same = length-by_escrow after_take rows e in
      record {
        held = λ f k l. omega (
          arith,
          held_at-taken rows e f k range,
          was.held f k (omega (arith, l, same)),
          held_grant schema base es lawful f k txn e opened,
        );
        journal = ap (rows_with txn e) was.journal ∙ journal_of-grant txn e es;
      }

  -- the escrows of a transaction are on fields of the schema, and held while it is open
  in_range_of : (t : TxnId) (fs : List Effect) → IsLawful schema base fs → AreInRange rows (escrows_of t fs)
  in_range_of t [] l = All-nil (λ (e : Escrow). e.field.0 < length rows)
  in_range_of t (Grants txn field change ∷ fs) l =
      let before = in_range_of t fs l.0 in
      by (same_txn t txn) before (All-cons (λ (e : Escrow). e.field.0 < length rows) (record { field = field; change = change })
      (escrows_of t fs) (omega (arith, was.count, l.1.in_schema)) before)
    where
      by : (b : Bool) → AreInRange rows (escrows_of t fs) → AreInRange rows (record { field = field; change = change } ∷ escrows_of t fs)
          → AreInRange rows (cond b (record { field = field; change = change } ∷ escrows_of t fs) (escrows_of t fs))
      by true before more = more
      by false before more = before
  in_range_of t (Begins txn ∷ fs) l = in_range_of t fs l.0
  in_range_of t (Commits txn ∷ fs) l = in_range_of t fs l.0
  in_range_of t (Aborts txn ∷ fs) l = in_range_of t fs l.0
  in_range_of t (Gives to field kind amount ∷ fs) l = in_range_of t fs l.0
  in_range_of t (Accepts from field kind total ∷ fs) l = in_range_of t fs l.0
  in_range_of t (Stops ∷ fs) l = in_range_of t fs l.0

  pub are_in_range : (t : TxnId) → AreInRange rows (reverse (escrows_of t es))
  are_in_range t = All-reverse (λ (e : Escrow). e.field.0 < length rows) (escrows_of t es) (in_range_of t es lawful)

  sum_is : (t : TxnId) (f : ℕ) (k : Kind) → sum_by (takes f k) (reverse (escrows_of t es)) ≡ of_txn t f k es
  sum_is t f k = sum_by-reverse (takes f k) (escrows_of t es) ∙ sym (of_txn_is t f k es)

  pub are_held : (t : TxnId) → is_open t es ≡ true → AreHeld rows (reverse (escrows_of t es))
  are_held t opened f k l =
      let fewer = granted-mono (λ id. same_txn t id) (λ id. is_open id es)
      (λ id same. ap (λ (x : TxnId). is_open x es) (sym (same_txn-true t id same)) ∙ opened) f k es in
      omega (arith, sum_is t f k, was.held f k l, fewer)

  held_end : (o : Outcome) (t : TxnId) → is_open t es ≡ true → (f : ℕ) (k : Kind)
      → held_rights f k (ended o t ∷ es) + of_txn t f k es ≡ held_rights f k es
  held_end Committed t opened f k = held_commit schema base es lawful f k t opened
  held_end Aborted t opened f k = held_abort schema base es lawful f k t opened

  -- what a transaction that ends holds is given back, however it ends
  pub aside_end : (o : Outcome) (t : TxnId) → is_open t es ≡ true
      → SetsAside (ended o t ∷ es) (by_escrows (ending Aborted) rows (reverse (escrows_of t es))) (without t journal)
  aside_end o t opened =
      let gone = reverse (escrows_of t es) in
      let same = length-by_escrows (ending Aborted) rows gone in
      record {
        held = λ f k l.
            let l' : f < length rows = omega (arith, l, same) in
            omega (
              arith,
              held_at-by_escrows Aborted rows gone (are_in_range t) (are_held t opened) f k l',
              was.held f k l',
              sum_is t f k,
              held_end o t opened f k,
            );
        journal = ap (without t) was.journal ∙ journal_of-end o t es;
      }
