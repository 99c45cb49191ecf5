-- What one more answered command of reach leaves at its site.
use Rattle.std.proofs.Common.{◌≡◌, ℕ, ◌≤◌, max, Bool, true, false, not, ◌&&◌, ◌||◌, cond, List, [], ◌∷◌, filter, refl, ap, arith, eqb, inl, inr, subst}
use Rattle.std.proofs.lemmas.Bool.{cases_Bool, eq-eqb, or_right}
use Rattle.field_bounds.specs.declared.kind.Kind.{Kind}
use Rattle.field_bounds.specs.declared.kind.Kind.TheVariants.{Lower, Raise}
use Rattle.field_bounds.specs.declared.id.TxnId.{TxnId}
use Rattle.field_bounds.specs.declared.id.SiteNo.{SiteNo}
use Rattle.field_bounds.specs.declared.id.FieldNo.{FieldNo}
use Rattle.field_bounds.specs.declared.entry.Statement.{Statement}
use Rattle.field_bounds.specs.declared.entry.Command.TheVariants.{Abort, Restate, Accept}
use Rattle.field_bounds.specs.declared.entry.Reply.TheVariants.{Aborted, Stated, Accepted}
use Rattle.field_bounds.specs.declared.entry.Entry.{Entry}
use Rattle.field_bounds.specs.Kind.{same_kind}
use Rattle.field_bounds.specs.declared.effect.Effect.{Effect}
use Rattle.field_bounds.specs.declared.effect.Effect.TheVariants.{Begins, Aborts, Accepts}
use Rattle.field_bounds.specs.Effects.{Base, same_txn, is_begun, is_committed, is_dropped, is_open, begun_txns, open_txns, effects, total_given, cut, total_accepted}
use Rattle.field_bounds.specs.Owed.{is_up, count_since, is_begun_reply}

-- nothing is lost of what the other sites need: it stays up, begins nothing, opens nothing, gives nothing and accepts no less
pub record Keeps (base : Base) (f : ℕ) (o p : List Entry) : Type 0 where
  pub up : is_up base o ≡ true → is_up base p ≡ true
  pub numbers : count_since is_begun_reply p ≡ count_since is_begun_reply o
  pub opens : (id : TxnId) → is_begun id (effects base false p) ≡ true → is_open id (effects base false p) ≡ true
      → (is_begun id (effects base false o) ≡ true) × (is_open id (effects base false o) ≡ true)
  pub given : (to : ℕ) (k : Kind) → total_given base to f k (effects base false p) ≡ total_given base to f k (effects base false o)
  pub cuts : (k : Kind) → cut base f k (effects base false p) ≡ cut base f k (effects base false o)
  pub accepted : (from : ℕ) (k : Kind) → total_accepted base from f k (effects base false o)
      ≤ total_accepted base from f k (effects base false p)

pub keeps_refl : (base : Base) (f : ℕ) (o : List Entry) → Keeps base f o o
keeps_refl base f o =
    record { up = λ h. h; numbers = refl; opens = λ id b h. (b, h); given = λ to k. refl; cuts = λ k. refl; accepted = λ from k. omega arith }

pub keeps_trans : (base : Base) (f : ℕ) (o p q : List Entry) → Keeps base f o p → Keeps base f p q → Keeps base f o q
keeps_trans base f o p q a b =
    record {
      up = λ h. b.up (a.up h);
      numbers = omega (arith, a.numbers, b.numbers);
      opens = λ id begun_txns opened. let mid = b.opens id begun_txns opened in a.opens id mid.0 mid.1;
      given = λ to k. omega (arith, a.given to k, b.given to k);
      cuts = λ k. omega (arith, a.cuts k, b.cuts k);
      accepted = λ from k. omega (arith, a.accepted from k, b.accepted from k);
    }

-- ---- an abort

was_open : (x c d : Bool) → (not c && not (x || d)) ≡ true → (not c && not d) ≡ true
was_open x true d h = h
was_open true false d h = cc
was_open false false d h = h

pub keeps_abort : (base : Base) (f : ℕ) (s : SiteNo) (id : TxnId) (o : List Entry)
    → Keeps base f o (record { site = s; command = Abort id; reply = Aborted } ∷ o)
keeps_abort base f s id o =
    let es = effects base false o in
    record {
      up = λ h. h;
      numbers = omega arith;
      opens = λ j begun_txns opened. (begun_txns, was_open (same_txn id j) (is_committed j es) (is_dropped j es) opened);
      given = λ to k. refl;
      cuts = λ k. refl;
      accepted = λ from k. omega arith;
    }

closed : (c d : Bool) → (not c && not (true || d)) ≡ true → ⊥
closed true d h = cc
closed false d h = cc

-- the transaction isn't open after it
pub abort_closes : (id j : TxnId) (es : List Effect) → same_txn id j ≡ true → is_open j (Aborts id ∷ es) ≡ true → ⊥
abort_closes id j es same h =
    closed (is_committed j es) (is_dropped j es) (subst
    (λ (b : Bool). (not (is_committed j es) && not (b || is_dropped j es)) ≡ true) same h)

-- and any other is as it was
pub abort_spares : (id j : TxnId) (es : List Effect) → same_txn id j ≡ false → is_open j (Aborts id ∷ es) ≡ is_open j es
abort_spares id j es apart = ap (λ (b : Bool). not (is_committed j es) && not (b || is_dropped j es)) apart

-- ---- a statement told again

pub keeps_restate : (base : Base) (f : ℕ) (s to : SiteNo) (field : FieldNo) (kind : Kind) (total : ℕ) (o : List Entry)
    → Keeps base f o (record { site = s; command = Restate to field kind; reply = Stated total } ∷ o)
keeps_restate base f s to field kind total o =
    record {
      up = λ h. h;
      numbers = omega arith;
      opens = λ j b h. (b, h);
      given = λ to' k. refl;
      cuts = λ k. refl;
      accepted = λ from k. omega arith;
    }

-- ---- a statement taken in

merged : (b : Bool) (total before : ℕ) → before ≤ cond b (max total before) before
merged true total before = omega arith
merged false total before = omega arith

pub keeps_accept : (base : Base) (f : ℕ) (s : SiteNo) (told : Statement) (gain : ℕ) (o : List Entry)
    → Keeps base f o (record { site = s; command = Accept told; reply = Accepted gain } ∷ o)
keeps_accept base f s told gain o =
    record {
      up = λ h. h;
      numbers = omega arith;
      opens = λ j begun_txns opened. (begun_txns, opened);
      given = λ to k. refl;
      cuts = λ k. refl;
      accepted = λ from k. merged (eqb told.field.0 f && same_kind told.kind k && eqb told.from.0 from) told.total
          (total_accepted base from f k (effects base false o));
    }

pub same_kind-refl : (k : Kind) → same_kind k k ≡ true
same_kind-refl Lower = refl
same_kind-refl Raise = refl

same_here : (f : ℕ) (k : Kind) (from : ℕ) → (eqb f f && same_kind k k && eqb from from) ≡ true
same_here f k from = rw (eq-eqb f f refl, same_kind-refl k, eq-eqb from from refl) refl

-- after it all that the statement tells was accepted
pub accepted_all : (base : Base) (told : Statement) (es : List Effect)
    → told.total ≤ total_accepted base told.from.0 told.field.0 told.kind (Accepts told.from told.field told.kind told.total ∷ es)
accepted_all base told es = rw (same_here told.field.0 told.kind told.from.0) (omega arith)

-- ---- where nothing is open

abbrev pub NoneOpen : List Effect → Type 0
NoneOpen es = (id : TxnId) → is_begun id es ≡ true → is_open id es ≡ true → ⊥

pub same_txn-refl : (id : TxnId) → same_txn id id ≡ true
same_txn-refl id = rw (eq-eqb id.epoch id.epoch refl, eq-eqb id.number id.number refl) refl

pub none_passes : (p : TxnId → Bool) (es : List Effect) → ((id : TxnId) → is_begun id es ≡ true → p id ≡ false)
    → filter p (begun_txns es) ≡ []
none_passes p [] h = refl
none_passes p (Begins txn ∷ es) h =
    let here : is_begun txn (Begins txn ∷ es) ≡ true = rw (same_txn-refl txn) refl in
    rw (h txn here) (none_passes p es (λ id begun_txns. h id (or_right (same_txn txn id) (is_begun id es) begun_txns)))
none_passes p (e ∷ es) h = none_passes p es h

pub open_shut : (es : List Effect) → NoneOpen es → (id : TxnId) → is_begun id es ≡ true → is_open id es ≡ false
open_shut es none id begun_txns = elim (cases_Bool (is_open id es)) as (λ _. is_open id es ≡ false)
    [ inl opened ↦ absurd (none id begun_txns opened) | inr shut ↦ shut ]

pub nothing_open : (es : List Effect) → NoneOpen es → open_txns es ≡ []
nothing_open es none = none_passes (λ id. is_open id es) es (open_shut es none)
