-- What is kept of a site on one field, effect by effect.
use Rattle.std.proofs.Common.{◌≡◌, ◌≢◌, ℕ, zero, suc, ◌+◌, ◌*◌, ◌<◌, ◌≤◌, max, Bool, true, false, not, ◌&&◌, ◌||◌, cond, eqb, List, [], ◌∷◌, ◌++◌, filter, reverse, drop, length, get_or, slice_set, refl, sym, ◌∙◌, ap, subst, arith, Some}
use Rattle.std.proofs.lemmas.Bool.{or_left, or_right, eq-eqb, ne_eqb}
use Rattle.std.specs.Prelude.{ℤ, unsigned_abs, Option}
use Rattle.std.specs.Global.{Vec}
use Rattle.std.proofs.lemmas.List.{drop_more, reverse-append}
use Rattle.field_bounds.proofs.Lists.{filter-reverse}
use Rattle.field_bounds.specs.declared.kind.Kind.{Kind}
use Rattle.field_bounds.specs.declared.kind.Kind.TheVariants.{Lower, Raise}
use Rattle.field_bounds.specs.declared.id.TxnId.{TxnId}
use Rattle.field_bounds.specs.declared.id.SiteNo.{SiteNo}
use Rattle.field_bounds.specs.declared.id.FieldNo.{FieldNo}
use Rattle.field_bounds.specs.Kind.{kind_of, same_kind}
use Rattle.field_bounds.specs.Schema.{SchemaValue}
use Rattle.field_bounds.specs.declared.effect.Effect.{Effect}
use Rattle.field_bounds.specs.declared.effect.Effect.TheVariants.{Begins, Grants, Commits, Aborts, Gives, Accepts, Stops}
use Rattle.field_bounds.specs.Effects.{Base, fresh, same_txn, is_begun, is_committed, is_dropped, is_open, begun_txns, open_txns, granted_sizes, gifts, total_accepted}
use Rattle.field_bounds.proofs.Lawful.{IsLawful, open_parts, same_txn-true}
use Rattle.field_bounds.proofs.Steps.{granted-or, granted-same, weigh_none, same_txn-sym, fate_here, new_is_unused}
use Rattle.field_bounds.proofs.Stops.{closed_by_stop, stop_closes_all}
use Rattle.reaching_steps.specs.declared.standing.Held.{Held}
use Rattle.reaching_steps.specs.declared.standing.FieldHoldings.{FieldHoldings}
use Rattle.reaching_steps.specs.FieldHoldings.{is_of, size_in, counted_of, held_sizes, pushed, Grows, Tells, Stands, Notes}
use Rattle.reaching_steps.proofs.Sites.{same_txn-refl}

-- ---- lists

filter_twice : (p q : TxnId → Bool) (l : List TxnId) → filter p (filter q l) ≡ filter (λ x. q x && p x) l
filter_twice p q [] = refl
filter_twice p q (x ∷ l) = by (q x) (filter_twice p q l)
  where
    by : (b : Bool) → filter p (filter q l) ≡ filter (λ x. q x && p x) l
        → filter p (cond b (x ∷ filter q l) (filter q l)) ≡ cond (b && p x) (x ∷ filter (λ x. q x && p x) l) (filter (λ x. q x && p x) l)
    by true rest = ap (λ (m : List TxnId). cond (p x) (x ∷ m) m) rest
    by false rest = rest

filter_begun : (p q : TxnId → Bool) (es : List Effect) → ((id : TxnId) → is_begun id es ≡ true → p id ≡ q id)
    → filter p (begun_txns es) ≡ filter q (begun_txns es)
filter_begun p q [] h = refl
filter_begun p q (Begins txn ∷ es) h =
    let here = h txn (or_left (same_txn txn txn) (is_begun txn es) (same_txn-refl txn)) in
    ap (λ (b : Bool). cond b (txn ∷ filter p (begun_txns es)) (filter p (begun_txns es))) here
    ∙ ap (λ (l : List TxnId). cond (q txn) (txn ∷ l) l)
    (filter_begun p q es (λ id there. h id (or_right (same_txn txn id) (is_begun id es) there)))
filter_begun p q (e ∷ es) h = filter_begun p q es h

-- ---- sums over a list with one more at its end

granted_head : (q : TxnId → Bool) (f : ℕ) (k : Kind) (e : Effect) (l : List Effect)
    → granted_sizes q f k (e ∷ l) ≡ granted_sizes q f k (e ∷ []) + granted_sizes q f k l
granted_head q f k (Grants txn field change) l = omega arith
granted_head q f k e l = omega arith

granted_push : (q : TxnId → Bool) (f : ℕ) (k : Kind) (e : Effect) (l : List Effect)
    → granted_sizes q f k (l ++ e ∷ []) ≡ granted_sizes q f k (e ∷ l)
granted_push q f k e [] = refl
granted_push q f k e (x ∷ l) =
    omega (arith, granted_head, granted_push q f k e l)

given_head : (p : Option SiteNo → Bool) (f : ℕ) (k : Kind) (e : Effect) (l : List Effect)
    → gifts p f k (e ∷ l) ≡ gifts p f k (e ∷ []) + gifts p f k l
given_head p f k (Gives to field kind amount) l = omega arith
given_head p f k e l = omega arith

given_push : (p : Option SiteNo → Bool) (f : ℕ) (k : Kind) (e : Effect) (l : List Effect)
    → gifts p f k (l ++ e ∷ []) ≡ gifts p f k (e ∷ l)
given_push p f k e [] = refl
given_push p f k e (x ∷ l) =
    omega (arith, given_head, given_push p f k e l)

-- the total that an effect accepts
abbrev pub total_of : ℕ → ℕ → Kind → Effect → ℕ
total_of from f k (Accepts site field kind total) = cond (eqb field.0 f && same_kind kind k && eqb site.0 from) total 0
total_of from f k e = 0

accepted_head : (base : Base) (from f : ℕ) (k : Kind) (e : Effect) (l : List Effect)
    → total_accepted base from f k (e ∷ l) ≡ max (total_of from f k e) (total_accepted base from f k l)
accepted_head base from f k (Accepts site field kind total) l =
    by (eqb field.0 f && same_kind kind k && eqb site.0 from) total (total_accepted base from f k l)
  where
    by : (b : Bool) (n x : ℕ) → cond b (max n x) x ≡ max (cond b n 0) x
    by true n x = refl
    by false n x = omega arith
accepted_head base from f k e l = omega arith

accepted_push : (base : Base) (from f : ℕ) (k : Kind) (e : Effect) (l : List Effect)
    → total_accepted base from f k (l ++ e ∷ []) ≡ total_accepted base from f k (e ∷ l)
accepted_push base from f k e [] = refl
accepted_push base from f k e (x ∷ l) =
    omega (arith, accepted_head, accepted_push base from f k e l)

-- ---- what a transaction holds

pub granted_none : (f : ℕ) (k : Kind) (es : List Effect) → granted_sizes (λ _. false) f k es ≡ 0
granted_none f k [] = refl
granted_none f k (Grants txn field change ∷ es) =
    omega (arith, granted_none f k es, weigh_none (eqb field.0 f && same_kind (kind_of change) k) false (unsigned_abs change) refl)
granted_none f k (e ∷ es) = granted_none f k es

-- without what one transaction holds
held_without : (t : TxnId) (q : TxnId → Bool) (k : Kind) (l : List Held)
    → held_sizes q k (filter (λ (row : Held). not (same_txn row.txn t)) l) ≡ held_sizes (λ id. not (same_txn id t) && q id) k l
held_without t q k [] = refl
held_without t q k (row ∷ l) = by (same_txn row.txn t) (held_without t q k l)
  where
    kept : List Held
    kept = filter (λ (row : Held). not (same_txn row.txn t)) l

    by : (s : Bool) → held_sizes q k kept ≡ held_sizes (λ id. not (same_txn id t) && q id) k l
        → held_sizes q k (cond (not s) (row ∷ kept) kept)
        ≡ cond (not s && q row.txn) (size_in k row) 0 + held_sizes (λ id. not (same_txn id t) && q id) k l
    by true rest = omega (arith, rest)
    by false rest = omega (arith, rest)

-- what it holds, and what the others hold
held_split : (t : TxnId) (k : Kind) (l : List Held)
    → held_sizes (λ id. not (same_txn id t) && true) k l + held_sizes (is_of (Some t)) k l ≡ held_sizes (λ _. true) k l
held_split t k [] = refl
held_split t k (row ∷ l) = by (same_txn row.txn t) (held_split t k l)
  where
    by : (s : Bool)
        → held_sizes (λ id. not (same_txn id t) && true) k l + held_sizes (is_of (Some t)) k l ≡ held_sizes (λ _. true) k l
        → (cond (not s && true) (size_in k row) 0 + held_sizes (λ id. not (same_txn id t) && true) k l)
        + (cond s (size_in k row) 0 + held_sizes (is_of (Some t)) k l) ≡ size_in k row + held_sizes (λ _. true) k l
    by true rest = omega (arith, rest)
    by false rest = omega (arith, rest)

held_left : (t : TxnId) (k : Kind) (l : List Held)
    → held_sizes (λ _. true) k (filter (λ (row : Held). not (same_txn row.txn t)) l) + held_sizes (is_of (Some t)) k l
    ≡ held_sizes (λ _. true) k l
held_left t k l = omega (arith, held_without t (λ _. true) k l, held_split t k l)

-- a row holds no more than all do
pub held_row : (k : Kind) (l : List Held) (i : ℕ) (d : Held) → i < length l
    → size_in k (get_or l i d) ≤ held_sizes (λ _. true) k l
held_row k [] i d below = absurd (omega (arith, below))
held_row k (row ∷ l) zero d below = omega arith
held_row k (row ∷ l) (suc i) d below = omega (arith, held_row k l i d (omega (arith, below)))

-- a row more in the place of one
pub held_set : (q : TxnId → Bool) (k : Kind) (l : List Held) (i : ℕ) (d row : Held) → i < length l
    → held_sizes q k (slice_set l i row) + counted_of q k (get_or l i d) ≡ held_sizes q k l + counted_of q k row
held_set q k [] i d row below = absurd (omega (arith, below))
held_set q k (x ∷ l) zero d row below = omega arith
held_set q k (x ∷ l) (suc i) d row below = omega (arith, held_set q k l i d row (omega (arith, below)))

held_push : (q : TxnId → Bool) (k : Kind) (l : List Held) (row : Held)
    → held_sizes q k (l ++ row ∷ []) ≡ held_sizes q k l + counted_of q k row
held_push q k [] row = omega arith
held_push q k (x ∷ l) row = omega (arith, held_push q k l row)

pub held_same : (q : TxnId → Bool) (k : Kind) {held more : List Held} → more ≡ held → held_sizes q k more ≡ held_sizes q k held
held_same q k is = ap (λ (l : List Held). held_sizes q k l) is

-- one that holds so much more
more_counted : (b j : Bool) (x y n : ℕ) → y ≡ x + cond j n 0 → cond b y 0 ≡ cond b x 0 + cond (j && b) n 0
more_counted true true x y n is = is
more_counted true false x y n is = is
more_counted false true x y n is = refl
more_counted false false x y n is = refl

pub grows_at : (t : TxnId) (kind : Kind) (n : ℕ) (held more : List Held) (i : ℕ) (old row : Held) → i < length held
    → old ≡ get_or held i old → same_txn (get_or held i old).txn t ≡ true → row.txn ≡ old.txn
    → (size_in kind old + n ≤ 340282366920938463463374607431768211455
    → (k : Kind) → size_in k row ≡ size_in k old + cond (same_kind kind k) n 0)
    → more ≡ slice_set held i row → Grows t kind n held more
unfolding Grows
grows_at t kind n held more i old row below found its txn_is sizes is = λ fits q k.
    let room : size_in kind old ≤ held_sizes (λ _. true) kind held =
    subst (λ (x : Held). size_in kind x ≤ held_sizes (λ _. true) kind held) (sym found) (held_row kind held i old below) in
    let here = sizes (omega (arith, fits, room)) k in
    let old_is : old.txn ≡ t = ap (λ (x : Held). x.txn) found ∙ same_txn-true (get_or held i old).txn t its in
    let row_is : counted_of q k row ≡ cond (q t) (size_in k row) 0 =
    ap (λ (x : TxnId). cond (q x) (size_in k row) 0) (txn_is ∙ old_is) in
    let was_is : counted_of q k (get_or held i old) ≡ cond (q t) (size_in k old) 0 =
    ap (λ (x : Held). counted_of q k x) (sym found) ∙ ap (λ (x : TxnId). cond (q x) (size_in k old) 0) old_is in
    let grown = more_counted (q t) (same_kind kind k) (size_in k old) (size_in k row) n here in
    omega (arith, held_same q k is, held_set q k held i old row below, row_is, was_is, grown)

pub grows_first : (t : TxnId) (kind : Kind) (n : ℕ) (held more : List Held) (first row : Held) → first.txn ≡ t
    → first.lower ≡ 0 → first.raise ≡ 0 → row.txn ≡ first.txn
    → (size_in kind first + n ≤ 340282366920938463463374607431768211455
    → (k : Kind) → size_in k row ≡ size_in k first + cond (same_kind kind k) n 0)
    → more ≡ held ++ row ∷ [] → Grows t kind n held more
unfolding Grows
grows_first t kind n held more first row first_is low high txn_is sizes is = λ fits q k.
    let none : (j : Kind) → size_in j first ≡ 0 = nothing in
    let here = sizes (omega (arith, fits, none kind)) k in
    let row_is : counted_of q k row ≡ cond (q t) (size_in k row) 0 =
    ap (λ (x : TxnId). cond (q x) (size_in k row) 0) (txn_is ∙ first_is) in
    let grown = more_counted (q t) (same_kind kind k) 0 (size_in k row) n (here ∙ ap (λ (x : ℕ). x + cond (same_kind kind k) n 0) (none k)) in
    omega (arith, held_same q k is, held_push q k held row, row_is, grown, same_either (q t))
  where
    same_either : (b : Bool) → cond b zero 0 ≡ zero
    same_either true = refl
    same_either false = refl

    nothing : (j : Kind) → size_in j first ≡ 0
    nothing Lower = low
    nothing Raise = high

weigh_off : (a b c : Bool) (n : ℕ) → a ≡ false → cond (a && b && c) n 0 ≡ 0
weigh_off true b c n h = cc
weigh_off false b c n h = refl

-- ---- each effect

pub notes_begin : (f : ℕ) (kept : FieldHoldings) (txns : Vec TxnId) (t : TxnId) → txns.items ≡ kept.txns.items ++ t ∷ []
    → Notes f kept (Begins t) (record kept { txns = txns })
unfolding Notes Stands
notes_begin f kept txns t ids_is = λ schema base es lawful before few.
    let was = before (omega (arith, few)) in
    let unused = new_is_unused schema base t es lawful.0 lawful.1 in
    let opened : is_open t es ≡ true = rw (unused.uncommitted, unused.undropped) refl in
    record {
      ids = rw (ids_is, reverse-append kept.txns.items (t ∷ []), was.ids, opened) refl;
      held = was.held;
      raised = was.raised;
      lowered = was.lowered;
      given = was.given;
      accepted = was.accepted;
      short = few;
      few = omega (arith, was.few);
    }

pub notes_grant : (f : ℕ) (kept : FieldHoldings) (held : Vec Held) (t : TxnId) (field : FieldNo) (x : ℤ) → field.0 ≡ f
    → unsigned_abs x ≤ 9223372036854775808 → Grows t (kind_of x) (unsigned_abs x) kept.held.items held.items
    → Notes f kept (Grants t field x) (record kept { held = held })
unfolding Notes Stands Grows
notes_grant f kept held t field x at small grows = λ schema base es lawful before few.
    let was = before (omega (arith, few)) in
    let opened = lawful.1.opened in
    let fate = open_parts (is_committed t es) (is_dropped t es) opened in
    let none : (k : Kind) → cond (eqb field.0 f && same_kind (kind_of x) k && is_committed t es) (unsigned_abs x) 0 ≡ 0 =
    λ k. weigh_none (eqb field.0 f && same_kind (kind_of x) k) (is_committed t es) (unsigned_abs x) fate.0 in
    let fits = all_fit (kind_of x) (length es) (unsigned_abs x) small (omega (arith, few)) was.few in
    let grown = grows fits in
    record {
      ids = was.ids;
      held = λ q k. omega (arith, grown q k, was.held q k, by q k (eqb field.0 f) (is_open t es) (eq-eqb field.0 f at) opened);
      raised = omega (arith, was.raised, none Raise);
      lowered = omega (arith, was.lowered, none Lower);
      given = was.given;
      accepted = was.accepted;
      short = few;
      few = let one = one_kind (kind_of x) (unsigned_abs x) in
          omega (arith, was.few, grown (λ _. true) Raise, grown (λ _. true) Lower, one, small);
    }
  where
    by : (q : TxnId → Bool) (k : Kind) (a o : Bool) → a ≡ true → o ≡ true
        → cond (same_kind (kind_of x) k && q t) (unsigned_abs x) 0
        ≡ cond (a && same_kind (kind_of x) k && (o && q t)) (unsigned_abs x) 0
    by q k true true on opened = refl
    by q k true false on opened = cc
    by q k false o on opened = cc

    one_kind : (j : Kind) (n : ℕ) → cond (same_kind j Raise && true) n 0 + cond (same_kind j Lower && true) n 0 ≡ n
    one_kind Raise n = omega arith
    one_kind Lower n = omega arith

    all_fit : (j : Kind) (m n : ℕ) → n ≤ 9223372036854775808 → m ≤ 18446744073709551615
        → kept.raised + kept.lowered + held_sizes (λ _. true) Raise kept.held.items + held_sizes (λ _. true) Lower kept.held.items
        ≤ m * 9223372036854775808
        → held_sizes (λ _. true) j kept.held.items + n ≤ 340282366920938463463374607431768211455
    all_fit Raise m n small short h = omega (arith, small, short, h)
    all_fit Lower m n small short h = omega (arith, small, short, h)

-- a grant on another field
pub notes_elsewhere : (f : ℕ) (kept : FieldHoldings) (t : TxnId) (field : FieldNo) (x : ℤ) → field.0 ≢ f → Notes f kept (Grants t field x) kept
unfolding Notes Stands
notes_elsewhere f kept t field x apart = λ schema base es lawful before few.
    let was = before (omega (arith, few)) in
    let off = ne_eqb field.0 f apart in
    let none : (k : Kind) (b : Bool) → cond (eqb field.0 f && same_kind (kind_of x) k && b) (unsigned_abs x) 0 ≡ 0 =
    λ k b. weigh_off (eqb field.0 f) (same_kind (kind_of x) k) b (unsigned_abs x) off in
    record {
      ids = was.ids;
      held = λ q k. omega (arith, was.held q k, none k (is_open t es && q t));
      raised = omega (arith, was.raised, none Raise (is_committed t es));
      lowered = omega (arith, was.lowered, none Lower (is_committed t es));
      given = was.given;
      accepted = was.accepted;
      short = few;
      few = omega (arith, was.few);
    }

-- the transaction ends
module _ (f : ℕ) (kept more : FieldHoldings) (t : TxnId)
    (ids_is : more.txns.items ≡ filter (λ (x : TxnId). not (same_txn x t)) kept.txns.items)
    (held_is : more.held.items ≡ filter (λ (row : Held). not (same_txn row.txn t)) kept.held.items)
    (gifts_is : more.gifts ≡ kept.gifts) where
  -- of an effect e after which those are open that were, but for the one
  ended_ids : (e : Effect) (es : List Effect) → Tells f kept es → begun_txns (e ∷ es) ≡ begun_txns es
      → ((id : TxnId) → (is_open id es && not (same_txn id t)) ≡ is_open id (e ∷ es))
      → reverse more.txns.items ≡ open_txns (e ∷ es)
  ended_ids e es was begun same =
      ap (λ (l : List TxnId). reverse l) ids_is ∙ sym (filter-reverse (λ (x : TxnId). not (same_txn x t)) kept.txns.items)
      ∙ ap (λ (l : List TxnId). filter (λ (x : TxnId). not (same_txn x t)) l) was.ids
      ∙ filter_twice (λ (x : TxnId). not (same_txn x t)) (λ id. is_open id es) (begun_txns es)
      ∙ filter_begun (λ id. is_open id es && not (same_txn id t)) (λ id. is_open id (e ∷ es)) es (λ id there. same id)
      ∙ ap (λ (l : List TxnId). filter (λ id. is_open id (e ∷ es)) l) (sym begun)

  ended_held : (schema : SchemaValue) (base : Base) (e : Effect) (es : List Effect) → IsLawful schema base es → Tells f kept es
      → ((id : TxnId) → (is_open id es && not (same_txn id t)) ≡ is_open id (e ∷ es)) → (q : TxnId → Bool) (k : Kind)
      → held_sizes q k more.held.items ≡ granted_sizes (λ id. is_open id (e ∷ es) && q id) f k es
  ended_held schema base e es lawful was same q k =
      held_same q k held_is ∙ held_without t q k kept.held.items
      ∙ was.held (λ id. not (same_txn id t) && q id) k
      ∙ granted-same schema base (λ id. is_open id es && (not (same_txn id t) && q id)) (λ id. is_open id (e ∷ es) && q id) f k es lawful
      (λ id there. both (is_open id es) (not (same_txn id t)) (q id) ∙ ap (λ (b : Bool). b && q id) (same id))
    where
      both : (a b c : Bool) → (a && (b && c)) ≡ ((a && b) && c)
      both true b c = refl
      both false b c = refl

  left : (k : Kind)
      → held_sizes (λ _. true) k more.held.items + held_sizes (is_of (Some t)) k kept.held.items ≡ held_sizes (λ _. true) k kept.held.items
  left k = ap (λ (n : ℕ). n + held_sizes (is_of (Some t)) k kept.held.items) (held_same (λ _. true) k held_is) ∙ held_left t k kept.held.items

  commits_same : (es : List Effect) (id : TxnId) → (is_open id es && not (same_txn id t)) ≡ is_open id (Commits t ∷ es)
  commits_same es id =
      ap (λ (b : Bool). is_open id es && not b) (same_txn-sym id t) ∙ by (same_txn t id) (is_committed id es) (is_dropped id es)
    where
      by : (s c d : Bool) → ((not c && not d) && not s) ≡ (not (s || c) && not d)
      by true true d = refl
      by true false true = refl
      by true false false = refl
      by false true d = refl
      by false false true = refl
      by false false false = refl

  aborts_same : (es : List Effect) (id : TxnId) → (is_open id es && not (same_txn id t)) ≡ is_open id (Aborts t ∷ es)
  aborts_same es id =
      ap (λ (b : Bool). is_open id es && not b) (same_txn-sym id t) ∙ by (same_txn t id) (is_committed id es) (is_dropped id es)
    where
      by : (s c d : Bool) → ((not c && not d) && not s) ≡ (not c && not (s || d))
      by true true d = refl
      by true false true = refl
      by true false false = refl
      by false true d = refl
      by false false true = refl
      by false false false = refl

  pub notes_abort : more.raised ≡ kept.raised → more.lowered ≡ kept.lowered → Notes f kept (Aborts t) more
  unfolding Notes Stands
  notes_abort raised_is lowered_is = λ schema base es lawful before few.
      let was = before (omega (arith, few)) in
      record {
        ids = ended_ids (Aborts t) es was refl (aborts_same es);
        held = ended_held schema base (Aborts t) es lawful.0 was (aborts_same es);
        raised = raised_is ∙ was.raised;
        lowered = lowered_is ∙ was.lowered;
        given = λ p k. ap (λ v. gifts p f k v.items) gifts_is ∙ was.given p k;
        accepted = λ x s from k. ap (λ v. total_accepted (fresh x s) from f k v.items) gifts_is ∙ was.accepted x s from k;
        short = few;
        few = omega (arith, was.few, raised_is, lowered_is, left Raise, left Lower);
      }

  settled : (schema : SchemaValue) (base : Base) (es : List Effect) → IsLawful schema base (Commits t ∷ es) → Tells f kept es
      → (k : Kind) (before after : ℕ) → before ≡ granted_sizes (λ id. is_committed id es) f k es
      → after ≡ before + held_sizes (is_of (Some t)) k kept.held.items
      → after ≡ granted_sizes (λ id. is_committed id (Commits t ∷ es)) f k es
  settled schema base es lawful was k before after before_is after_is =
      omega (
        arith,
        before_is,
        after_is,
        was.held (is_of (Some t)) k,
        granted-same schema base (λ id. is_open id es && same_txn id t) (λ id. same_txn t id) f k es lawful.0
            (λ id there. by (is_open id es) (same_txn id t) (same_txn t id) (same_txn-sym id t)
            (λ same. subst (λ (x : TxnId). is_open x es ≡ true) (same_txn-true t id same) lawful.1.1)),
        granted-or (λ id. same_txn t id) (λ id. is_committed id es)
            (λ id same. (fate_here schema base es lawful.0 f k t id lawful.1.1 same).0) f k es,
      )
    where
      by : (o s x : Bool) → s ≡ x → (x ≡ true → o ≡ true) → (o && s) ≡ x
      by true s x is h = is
      by false s false is h = refl
      by false s true is h = h refl

  -- the sums fit
  fit : (es : List Effect) → length es ≤ 18446744073709551615 → Tells f kept es
      → (kept.raised + held_sizes (is_of (Some t)) Raise kept.held.items ≤ 340282366920938463463374607431768211455)
      × (kept.lowered + held_sizes (is_of (Some t)) Lower kept.held.items ≤ 340282366920938463463374607431768211455)
  fit es short was =
      let up = held_split t Raise kept.held.items in
      let down = held_split t Lower kept.held.items in (omega (arith, short, was.few, up, down), omega (arith, short, was.few, up, down))

  pub notes_commit : (kept.raised + held_sizes (is_of (Some t)) Raise kept.held.items ≤ 340282366920938463463374607431768211455
      → more.raised ≡ kept.raised + held_sizes (is_of (Some t)) Raise kept.held.items)
      → (kept.lowered + held_sizes (is_of (Some t)) Lower kept.held.items ≤ 340282366920938463463374607431768211455
      → more.lowered ≡ kept.lowered + held_sizes (is_of (Some t)) Lower kept.held.items) → Notes f kept (Commits t) more
  unfolding Notes Stands
  notes_commit raised_so lowered_so = λ schema base es lawful before few.
      let was = before (omega (arith, few)) in
      let fits = fit es (omega (arith, few)) was in
      let raised_is = raised_so fits.0 in
      let lowered_is = lowered_so fits.1 in
      record {
        ids = ended_ids (Commits t) es was refl (commits_same es);
        held = ended_held schema base (Commits t) es lawful.0 was (commits_same es);
        raised = settled schema base es lawful was Raise kept.raised more.raised was.raised raised_is;
        lowered = settled schema base es lawful was Lower kept.lowered more.lowered was.lowered lowered_is;
        given = λ p k. ap (λ v. gifts p f k v.items) gifts_is ∙ was.given p k;
        accepted = λ x s from k. ap (λ v. total_accepted (fresh x s) from f k v.items) gifts_is ∙ was.accepted x s from k;
        short = few;
        few = omega (arith, was.few, raised_is, lowered_is, left Raise, left Lower);
      }

pub notes_give : (f : ℕ) (kept : FieldHoldings) (list : Vec Effect) (to : Option SiteNo) (field : FieldNo) (kind : Kind) (n : ℕ)
    → list.items ≡ pushed (eqb field.0 f) kept.gifts.items (Gives to field kind n)
    → Notes f kept (Gives to field kind n) (record kept { gifts = list })
unfolding Notes Stands
notes_give f kept list to field kind n is = λ schema base es lawful before few.
    let was = before (omega (arith, few)) in
    record {
      ids = was.ids;
      held = was.held;
      raised = was.raised;
      lowered = was.lowered;
      given = λ p k. rw is (by p k (eqb field.0 f) refl (gifts p f k es) (was.given p k));
      accepted = λ x s from k. rw is (taken x s from k (eqb field.0 f) ∙ was.accepted x s from k);
      short = few;
      few = omega (arith, was.few);
    }
  where
    by : (p : Option SiteNo → Bool) (k : Kind) (b : Bool) → eqb field.0 f ≡ b → (all : ℕ) → gifts p f k kept.gifts.items ≡ all
        → gifts p f k (pushed b kept.gifts.items (Gives to field kind n)) ≡ cond (eqb field.0 f && same_kind kind k && p to) n 0 + all
    by p k true on all was = omega (arith, given_push p f k (Gives to field kind n) kept.gifts.items, was)
    by p k false off all was = omega (arith, was, weigh_off (eqb field.0 f) (same_kind kind k) (p to) n off)

    taken : (x : SchemaValue) (s from : ℕ) (k : Kind) (b : Bool)
        → total_accepted (fresh x s) from f k (pushed b kept.gifts.items (Gives to field kind n))
        ≡ total_accepted (fresh x s) from f k kept.gifts.items
    taken x s from k true = accepted_push (fresh x s) from f k (Gives to field kind n) kept.gifts.items
    taken x s from k false = refl

pub notes_accept : (f : ℕ) (kept : FieldHoldings) (list : Vec Effect) (site : SiteNo) (field : FieldNo) (kind : Kind) (n : ℕ)
    → list.items ≡ pushed (eqb field.0 f) kept.gifts.items (Accepts site field kind n)
    → Notes f kept (Accepts site field kind n) (record kept { gifts = list })
unfolding Notes Stands
notes_accept f kept list site field kind n is = λ schema base es lawful before few.
    let was = before (omega (arith, few)) in
    record {
      ids = was.ids;
      held = was.held;
      raised = was.raised;
      lowered = was.lowered;
      given = λ p k. rw is (by p k (eqb field.0 f) ∙ was.given p k);
      accepted = λ x s from k. rw is (taken x s from k (eqb field.0 f) refl (total_accepted (fresh x s) from f k es) (was.accepted x s from k));
      short = few;
      few = omega (arith, was.few);
    }
  where
    by : (p : Option SiteNo → Bool) (k : Kind) (b : Bool)
        → gifts p f k (pushed b kept.gifts.items (Accepts site field kind n)) ≡ gifts p f k kept.gifts.items
    by p k true = given_push p f k (Accepts site field kind n) kept.gifts.items
    by p k false = refl

    off_is : (a b c : Bool) (m x : ℕ) → a ≡ false → x ≡ cond (a && b && c) m x
    off_is true b c m x h = cc
    off_is false b c m x h = refl

    taken : (x : SchemaValue) (s from : ℕ) (k : Kind) (b : Bool) → eqb field.0 f ≡ b → (all : ℕ)
        → total_accepted (fresh x s) from f k kept.gifts.items ≡ all
        → total_accepted (fresh x s) from f k (pushed b kept.gifts.items (Accepts site field kind n))
        ≡ cond (eqb field.0 f && same_kind kind k && eqb site.0 from) (max n all) all
    taken x s from k true on all was =
        accepted_push (fresh x s) from f k (Accepts site field kind n) kept.gifts.items
        ∙ ap (λ (m : ℕ). cond (eqb field.0 f && same_kind kind k && eqb site.0 from) (max n m) m) was
    taken x s from k false off all was = was ∙ off_is (eqb field.0 f) (same_kind kind k) (eqb site.0 from) (max n all) all off

pub notes_stop : (f : ℕ) (kept : FieldHoldings) (txns : Vec TxnId) (held : Vec Held) → txns.items ≡ [] → held.items ≡ []
    → Notes f kept Stops (record kept { txns = txns; held = held })
unfolding Notes Stands
notes_stop f kept txns held open_is held_is = λ schema base es lawful before few.
    let was = before (omega (arith, few)) in
    record {
      ids = rw open_is (sym (stop_closes_all es));
      held = λ q k. rw held_is (sym (granted-same schema base (λ id. is_open id (Stops ∷ es) && q id) (λ _. false) f k es lawful.0
          (λ id there. ap (λ (b : Bool). b && q id) (closed_by_stop id es there))
          ∙ granted_none f k es));
      raised = was.raised;
      lowered = was.lowered;
      given = was.given;
      accepted = was.accepted;
      short = few;
      few = omega (arith, was.few, held_same (λ _. true) Raise held_is, held_same (λ _. true) Lower held_is);
    }

-- ---- the start, and a walk over what is held

pub stands_first : (kept : FieldHoldings) → kept.txns.items ≡ [] → kept.held.items ≡ [] → kept.raised ≡ 0 → kept.lowered ≡ 0
    → kept.gifts.items ≡ [] → (f : ℕ) → Stands f kept []
unfolding Stands
stands_first kept open_is held_is raised_is lowered_is gifts_is f = λ few.
    record {
      ids = ap (λ (l : List TxnId). reverse l) open_is;
      held = λ q k. held_same q k held_is;
      raised = raised_is;
      lowered = lowered_is;
      given = λ p k. ap (λ (l : List Effect). gifts p f k l) gifts_is;
      accepted = λ x s from k. ap (λ (l : List Effect). total_accepted (fresh x s) from f k l) gifts_is;
      short = few;
      few = omega (arith, raised_is, lowered_is, held_same (λ _. true) Raise held_is, held_same (λ _. true) Lower held_is);
    }

-- a row more is added, where all fit
pub held_step : (q : TxnId → Bool) (k : Kind) (held : List Held) (i : ℕ) (d : Held) (x y a : ℕ) → i < length held
    → (x + a ≤ 340282366920938463463374607431768211455 → y ≡ x + a) → a ≡ counted_of q k (get_or held i d)
    → (held_sizes q k held ≤ 340282366920938463463374607431768211455 → x + held_sizes q k (drop i held) ≡ held_sizes q k held)
    → held_sizes q k held ≤ 340282366920938463463374607431768211455 → y + held_sizes q k (drop (i + 1) held) ≡ held_sizes q k held
held_step q k held i d x y a below adds same was fits =
    let is = held_same q k (drop_more held i d below) in
    let whole = was fits in
    omega (arith, is, adds (omega (arith, is, whole, same, fits)), whole, same)

-- of as many effects as a list can have
pub told_so : (f : ℕ) (kept : FieldHoldings) (es : List Effect) → Stands f kept es → length es ≤ 18446744073709551615 → Tells f kept es
unfolding Stands
told_so f kept es was few = was few
