-- Rows of statements: which statements they tell, and that each is found by its slot.
use Rattle.std.proofs.Common.{ℕ, ◌≡◌, ◌<◌, suc, zero, List, [], ◌∷◌, ◌++◌, map, length, get_or, set, Contains, Some, ◌⊎◌, inl, inr, refl, sym, ap, ◌∙◌, subst, arith}
use Rattle.std.specs.List.{slice_get}
use Rattle.std.proofs.lemmas.Option.{same_Some, none-some, slice_get_within, get_or_from_slice_get}
use Rattle.std.specs.Prelude.{Result, Ok, Err, IfOk, Bool, true, false}
use Rattle.std.specs.Bool.{OnTrue, OnFalse}
use Rattle.std.proofs.lemmas.List.{get_or-map, length-map, length-set, append-nil}
use Rattle.std.proofs.lemmas.List.Elements.{Contains-append_left, Contains-append_right, Contains-append_cases}
use Rattle.field_bounds.specs.declared.entry.Statement.{Statement}
use Rattle.statement_set.specs.declared.row.Channel.{Channel}
use Rattle.statement_set.specs.declared.row.Row.{Row}
use Rattle.statement_set.specs.declared.rows.Rows.{Rows}
use Rattle.statement_set.specs.Rows.{channel_of, statement_at, slot_of, Rises, IsPutIn, IsPutAmong, rows_told, IsOfNone, IsTaken, IsFiled}
use Rattle.statement_set.proofs.Lists.{set_cases, set_there, set_elsewhere, push_cases, twice_there}

-- ---- the statements of a row

row_tells : (row : Row) (told : Statement) → Contains (map (statement_at row.channel) row.totals.items) told
    → (row.channel ≡ channel_of told) × Contains row.totals.items told.total
row_tells row told has =
    let below : has.0 < length row.totals.items = omega (arith, length-map row.totals.items (statement_at row.channel), has.1) in
    let same = sym (get_or-map (statement_at row.channel) row.totals.items has.0 told.total told below) ∙ has.2 in
    (ap channel_of same, (has.0, below, ap (λ (s : Statement). s.total) same))

told_by_row : (row : Row) (told : Statement) → row.channel ≡ channel_of told → Contains row.totals.items told.total
    → Contains (map (statement_at row.channel) row.totals.items) told
told_by_row row told its has = (
  has.0,
  omega (arith, length-map row.totals.items (statement_at row.channel), has.1),
  get_or-map (statement_at row.channel) row.totals.items has.0 told.total told has.1
      ∙ ap (statement_at row.channel) has.2
      ∙ ap (λ (c : Channel). statement_at c told.total) its,
)

-- ---- the statements of some rows

pub rows_tell : (rows : List Row) (told : Statement) → Contains (rows_told rows) told
    → (r : ℕ) × (row : Row) × (slice_get rows r ≡ Some row) × (row.channel ≡ channel_of told) × Contains row.totals.items told.total
rows_tell [] told has = absurd (omega (arith, has.1))
rows_tell (row ∷ rows) told has =
    elim (Contains-append_cases (map (statement_at row.channel) row.totals.items) (rows_told rows) told has) [
      | inl first ↦ let is = row_tells row told first in (0, row, refl, is.0, is.1)
      | inr later ↦ let is = rows_tell rows told later in (suc is.0, is.1, is.2, is.3, is.4)
    ]

pub told_by_rows : (rows : List Row) (told : Statement) (r : ℕ) (row : Row) → slice_get rows r ≡ Some row
    → row.channel ≡ channel_of told → Contains row.totals.items told.total → Contains (rows_told rows) told
told_by_rows [] told r row at its has = absurd (none-some row at)
told_by_rows (x ∷ rows) told zero row at its has =
    Contains-append_left (map (statement_at x.channel) x.totals.items) (rows_told rows) told
    (subst (λ (w : Row). Contains (map (statement_at w.channel) w.totals.items) told) (sym (same_Some x row at)) (told_by_row row told its has))
told_by_rows (x ∷ rows) told (suc r) row at its has =
    Contains-append_right (map (statement_at x.channel) x.totals.items) (rows_told rows) told (told_by_rows rows told r row at its has)

-- what is put among others is put among them and more
pub front_put : (behind before after : List Statement) (told : Statement) → IsPutAmong before after told
    → IsPutAmong (before ++ behind) (after ++ behind) told
front_put behind before after told put other = (forth, back)
  where
    forth : Contains (after ++ behind) other → (told ≡ other) ⊎ Contains (before ++ behind) other
    forth has =
        elim (Contains-append_cases after behind other has) [
          | inl now ↦ elim ((put other).0 now) [ inl same ↦ inl same | inr was ↦ inr (Contains-append_left before behind other was) ]
          | inr later ↦ inr (Contains-append_right before behind other later)
        ]

    back : (told ≡ other) ⊎ Contains (before ++ behind) other → Contains (after ++ behind) other
    back (inl same) = Contains-append_left after behind other ((put other).1 (inl same))
    back (inr was) =
        elim (Contains-append_cases before behind other was) [
          | inl first ↦ Contains-append_left after behind other ((put other).1 (inr first))
          | inr later ↦ Contains-append_right after behind other later
        ]

pub behind_put : (front before after : List Statement) (told : Statement) → IsPutAmong before after told
    → IsPutAmong (front ++ before) (front ++ after) told
behind_put front before after told put other = (forth, back)
  where
    forth : Contains (front ++ after) other → (told ≡ other) ⊎ Contains (front ++ before) other
    forth has =
        elim (Contains-append_cases front after other has) [
          | inl first ↦ inr (Contains-append_left front before other first)
          | inr now ↦ elim ((put other).0 now) [ inl same ↦ inl same | inr was ↦ inr (Contains-append_right front before other was) ]
        ]

    back : (told ≡ other) ⊎ Contains (front ++ before) other → Contains (front ++ after) other
    back (inl same) = Contains-append_right front after other ((put other).1 (inl same))
    back (inr was) =
        elim (Contains-append_cases front before other was) [
          | inl first ↦ Contains-append_left front after other first
          | inr later ↦ Contains-append_right front after other ((put other).1 (inr later))
        ]

-- a row with a total put in
pub row_put : (rows : List Row) (r : ℕ) (row new : Row) (told : Statement) → slice_get rows r ≡ Some row → new.channel ≡ row.channel
    → row.channel ≡ channel_of told → IsPutIn row.totals.items new.totals.items told.total
    → IsPutAmong (rows_told rows) (rows_told (set rows r new)) told
row_put [] r row new told at kept its put other = absurd (none-some row at)
row_put (x ∷ rows) zero row new told at kept its put other = (forth, back)
  where
    is : x ≡ row
    is = same_Some x row at

    told_now : (s : Statement) → row.channel ≡ channel_of s → told.total ≡ s.total → told ≡ s
    told_now s of same =
        ap (λ (c : Channel). statement_at c told.total) (sym its ∙ of) ∙ ap (λ (total : ℕ). statement_at (channel_of s) total) same

    forth : Contains (rows_told (new ∷ rows)) other → (told ≡ other) ⊎ Contains (rows_told (x ∷ rows)) other
    forth has =
        elim (Contains-append_cases (map (statement_at new.channel) new.totals.items) (rows_told rows) other has) [
          | inl first ↦
              let tells = row_tells new other first in
              let of = sym kept ∙ tells.0 in
              elim ((put other.total).0 tells.1) [
                | inl same ↦ inl (told_now other of same)
                | inr was ↦ inr (told_by_rows (x ∷ rows) other 0 row (ap (λ (w : Row). Some w) is) of was)
              ]
          | inr later ↦ inr (Contains-append_right (map (statement_at x.channel) x.totals.items) (rows_told rows) other later)
        ]

    back_one : (s : Statement) → row.channel ≡ channel_of s → (told.total ≡ s.total) ⊎ Contains row.totals.items s.total
        → Contains (rows_told (new ∷ rows)) s
    back_one s of one =
        Contains-append_left (map (statement_at new.channel) new.totals.items) (rows_told rows) s
        (told_by_row new s (kept ∙ of) ((put s.total).1 one))

    back : (told ≡ other) ⊎ Contains (rows_told (x ∷ rows)) other → Contains (rows_told (new ∷ rows)) other
    back (inl same) = back_one other (its ∙ ap channel_of same) (inl (ap (λ (s : Statement). s.total) same))
    back (inr was) =
        elim (Contains-append_cases (map (statement_at x.channel) x.totals.items) (rows_told rows) other was) [
          | inl first ↦
              let tells = row_tells row other
              (subst (λ (w : Row). Contains (map (statement_at w.channel) w.totals.items) other) is first) in
              back_one other tells.0 (inr tells.1)
          | inr later ↦ Contains-append_right (map (statement_at new.channel) new.totals.items) (rows_told rows) other later
        ]
row_put (x ∷ rows) (suc r) row new told at kept its put other =
    behind_put (map (statement_at x.channel) x.totals.items) (rows_told rows) (rows_told (set rows r new)) told
    (row_put rows r row new told at kept its put) other

-- a row that tells what another told
pub row_same : (rows : List Row) (r : ℕ) (row new : Row) → slice_get rows r ≡ Some row → new.channel ≡ row.channel
    → new.totals.items ≡ row.totals.items → rows_told (set rows r new) ≡ rows_told rows
row_same [] r row new at kept same = refl
row_same (x ∷ rows) zero row new at kept same =
    ap (λ (l : List Statement). l ++ rows_told rows)
    (ap (λ (c : Channel). map (statement_at c) new.totals.items) kept ∙ ap (λ (l : List ℕ). map (statement_at row.channel) l) same
    ∙ ap (λ (w : Row). map (statement_at w.channel) w.totals.items) (sym (same_Some x row at)))
row_same (x ∷ rows) (suc r) row new at kept same =
    ap (λ (l : List Statement). map (statement_at x.channel) x.totals.items ++ l) (row_same rows r row new at kept same)

-- a row with no statement behind others
pub row_more : (rows : List Row) (row : Row) → row.totals.items ≡ [] → rows_told (rows ++ row ∷ []) ≡ rows_told rows
row_more [] row none = append-nil _ ∙ ap (λ (l : List ℕ). map (statement_at row.channel) l) none
row_more (x ∷ rows) row none = ap (λ (l : List Statement). map (statement_at x.channel) x.totals.items ++ l) (row_more rows row none)

-- ---- a row is found by its slot, and by no other

pub one_row : (rows : Rows) → IsFiled rows → (r p : ℕ) (row found : Row) → slice_get rows.rows.items r ≡ Some row
    → slice_get rows.rows.items p ≡ Some found → row.channel ≡ found.channel → r ≡ p
one_row rows filed r p row found at there same =
    same_Some r p (sym (filed.told r row at)
    ∙ ap (λ (c : Channel). slice_get rows.slots.items (slot_of c (length rows.slots.items))) same ∙ filed.told p found there)

pub told_by_its_row : (rows : Rows) → IsFiled rows → (told : Statement) (p : ℕ) (found : Row) → slice_get rows.rows.items p ≡ Some found
    → found.channel ≡ channel_of told → Contains (rows_told rows.rows.items) told → Contains found.totals.items told.total
told_by_its_row rows filed told p found there its has =
    let is = rows_tell rows.rows.items told has in
    let one = one_row rows filed is.0 p is.1 found is.2 there (is.3 ∙ sym its) in
    let same = same_Some is.1 found (sym is.2 ∙ ap (λ (r : ℕ). slice_get rows.rows.items r) one ∙ there) in
    subst (λ (w : Row). Contains w.totals.items told.total) same is.4

pub told_by_none : (rows : List Row) (told : Statement) → IsOfNone rows (channel_of told) → Contains (rows_told rows) told → ⊥
told_by_none rows told none has = let is = rows_tell rows told has in none is.0 is.1 is.2 is.3

-- ---- rows stay filed

pub filed_put : (before after : Rows) → IsFiled before → (r : ℕ) (row new : Row) → slice_get before.rows.items r ≡ Some row
    → new.channel ≡ row.channel → Rises new.totals.items → after.slots.items ≡ before.slots.items
    → after.rows.items ≡ set before.rows.items r new → IsFiled after
filed_put before after filed r row new at kept rises slots are = record {
  told = λ p found there. elim (cases p found there) [
    | inl put ↦ subst (λ (l : List ℕ). slice_get l (slot_of found.channel (length l)) ≡ Some p) (sym slots)
        (ap (λ (c : Channel). slice_get before.slots.items (slot_of c (length before.slots.items)))
        (ap (λ (w : Row). w.channel) (sym put.1) ∙ kept) ∙ filed.told r row at ∙ ap (λ (i : ℕ). Some i) put.0)
    | inr was ↦ subst (λ (l : List ℕ). slice_get l (slot_of found.channel (length l)) ≡ Some p) (sym slots) (filed.told p found was)
  ];
  rising = λ p found there. elim (cases p found there) [
    | inl put ↦ subst (λ (w : Row). Rises w.totals.items) put.1 rises
    | inr was ↦ filed.rising p found was
  ];
}
  where
    cases : (p : ℕ) (found : Row) → slice_get after.rows.items p ≡ Some found
        → ((r ≡ p) × (new ≡ found)) ⊎ (slice_get before.rows.items p ≡ Some found)
    cases p found there =
        set_cases before.rows.items r p new found (ap (λ (l : List Row). slice_get l p) (sym are) ∙ there)

pub filed_more : (before after : Rows) → IsFiled before → (slot : ℕ) (row : Row) → slot < length before.slots.items
    → slot ≡ slot_of row.channel (length before.slots.items) → row.totals.items ≡ []
    → (IsTaken before.rows.items (length before.slots.items) slot → ⊥)
    → after.slots.items ≡ set before.slots.items slot (length before.rows.items)
    → after.rows.items ≡ before.rows.items ++ row ∷ [] → IsFiled after
filed_more before after filed slot row inside its none free slots are = record {
  told = λ p found there. elim (cases p found there) [
    | inl put ↦ found_at p found
        (subst (λ (w : Row). slice_get (set before.slots.items slot (length before.rows.items)) (slot_of w.channel (length before.slots.items)) ≡ Some p) put.1
        (ap (λ (i : ℕ). slice_get (set before.slots.items slot (length before.rows.items)) i) (sym its) ∙ set_there before.slots.items slot (length before.rows.items) inside
        ∙ ap (λ (i : ℕ). Some i) (sym put.0)))
    | inr was ↦ found_at p found
        (set_elsewhere before.slots.items slot (slot_of found.channel (length before.slots.items)) (length before.rows.items) (λ same. free (p, found, was, same))
        ∙ filed.told p found was)
  ];
  rising = λ p found there. elim (cases p found there) [
    | inl put ↦ subst (λ (w : Row). Rises w.totals.items) put.1
        (subst (λ (l : List ℕ). Rises l) (sym none) (λ i j up in'. absurd (omega (arith, in'))))
    | inr was ↦ filed.rising p found was
  ];
}
  where
    cases : (p : ℕ) (found : Row) → slice_get after.rows.items p ≡ Some found
        → ((p ≡ length before.rows.items) × (row ≡ found)) ⊎ (slice_get before.rows.items p ≡ Some found)
    cases p found there =
        push_cases before.rows.items p row found (ap (λ (l : List Row). slice_get l p) (sym are) ∙ there)

    found_at : (p : ℕ) (found : Row)
        → slice_get (set before.slots.items slot (length before.rows.items)) (slot_of found.channel (length before.slots.items)) ≡ Some p
        → slice_get after.slots.items (slot_of found.channel (length after.slots.items)) ≡ Some p
    found_at p found at =
        subst (λ (l : List ℕ). slice_get l (slot_of found.channel (length l)) ≡ Some p) (sym slots)
        (subst (λ (n : ℕ). slice_get (set before.slots.items slot (length before.rows.items)) (slot_of found.channel n) ≡ Some p)
        (sym (length-set before.slots.items slot (length before.rows.items))) at)

pub filed_wider : (before after : Rows) → IsFiled before → after.slots.items ≡ before.slots.items ++ before.slots.items
    → after.rows.items ≡ before.rows.items → IsFiled after
filed_wider before after filed slots are = record {
  told = λ r row at.
      subst (λ (l : List ℕ). slice_get l (slot_of row.channel (length l)) ≡ Some r) (sym slots)
      (twice_there before.slots.items _ r (filed.told r row (ap (λ (l : List Row). slice_get l r) (sym are) ∙ at)));
  rising = λ r row at. filed.rising r row (ap (λ (l : List Row). slice_get l r) (sym are) ∙ at);
}

-- with no slot there is no row
pub filed_none : (rows : Rows) → IsFiled rows → length rows.slots.items ≡ 0 → (r : ℕ) (row : Row) → slice_get rows.rows.items r ≡ Some row → ⊥
filed_none rows filed none r row at =
    let within = slice_get_within rows.slots.items _ r (filed.told r row at) in omega (arith, within, none)

pub filed_first : (before after : Rows) → IsFiled before → length before.slots.items ≡ 0
    → after.rows.items ≡ before.rows.items → IsFiled after
filed_first before after filed none are = record {
  told = λ r row at. absurd (filed_none before filed none r row (ap (λ (l : List Row). slice_get l r) (sym are) ∙ at));
  rising = λ r row at. filed.rising r row (ap (λ (l : List Row). slice_get l r) (sym are) ∙ at);
}

pub filed_same : (before after : Rows) → IsFiled before → after.slots.items ≡ before.slots.items
    → after.rows.items ≡ before.rows.items → IsFiled after
filed_same before after filed slots are = record {
  told = λ r row at.
      subst (λ (l : List ℕ). slice_get l (slot_of row.channel (length l)) ≡ Some r) (sym slots)
      (filed.told r row (ap (λ (l : List Row). slice_get l r) (sym are) ∙ at));
  rising = λ r row at. filed.rising r row (ap (λ (l : List Row). slice_get l r) (sym are) ∙ at);
}

-- what the slot of a channel tells is its row, if there is one
pub told_spot : (rows : Rows) → IsFiled rows → (channel : Channel) (slot spot r : ℕ) (row : Row)
    → slot ≡ slot_of channel (length rows.slots.items) → spot ≡ get_or rows.slots.items slot spot
    → slice_get rows.rows.items r ≡ Some row → row.channel ≡ channel → spot ≡ r
told_spot rows filed channel slot spot r row its tells at of =
    tells ∙ get_or_from_slice_get rows.slots.items slot r spot
    (ap (λ (i : ℕ). slice_get rows.slots.items i) (its ∙ ap (λ (c : Channel). slot_of c (length rows.slots.items)) (sym of))
    ∙ filed.told r row at)

-- ---- under an answer that there is memory

pub where_true : {E P Q : Type 0} (r : Result Bool E) → (P → Q) → IfOk r (λ b. OnTrue b P) → IfOk r (λ b. OnTrue b Q)
where_true (Ok true) more is = more is
where_true (Ok false) more is = is
where_true (Err e) more is = is

pub where_false : {E P Q : Type 0} (r : Result Bool E) → (P → Q) → IfOk r (λ b. OnFalse b P) → IfOk r (λ b. OnFalse b Q)
where_false (Ok true) more is = is
where_false (Ok false) more is = more is
where_false (Err e) more is = is
