-- What a change of the rights does to the free and held ones of each field and kind.
use Rattle.std.proofs.Common.{◌≡◌, ◌≢◌, ℕ, ◌+◌, ◌-◌, ◌==◌, ◌&&◌, ◌<◌, ◌≤◌, Bool, true, false, cond, List, [], ◌∷◌, length, refl, ap, sym, ◌∙◌, subst, arith, set, get_or, pos, negsuc, ℤ, inl, inr, get_or-set_other, get_or-set_same, take, ◌⊎◌}
use Rattle.std.specs.Prelude.{slice_set, unsigned_abs, sum_by}
use Rattle.std.proofs.Math.ListN.{length-set}
use Rattle.std.proofs.lemmas.List.Sums.{sum_by-cons, sum_by-take-le, sum_by_more}
use Rattle.std.proofs.lemmas.List.Elements.{All-head, All-tail, All-weaker, All-take, All-get_or}
use Rattle.std.proofs.lemmas.Bool.{cases_Bool, eqb-true, eqb-false, eq-eqb}
use Rattle.field_bounds.specs.declared.kind.Kind.{Kind}
use Rattle.field_bounds.specs.declared.kind.Kind.TheVariants.{Lower, Raise}
use Rattle.field_bounds.specs.declared.entry.Escrow.{Escrow}
use Rattle.field_bounds.specs.Kind.{other, kind_of, same_kind}
use Rattle.field_bounds.specs.Effects.{takes}
use Rattle.site_rights.specs.declared.field_rights.Amounts.{Amounts}
use Rattle.site_rights.specs.declared.field_rights.FieldRights.{FieldRights}
use Rattle.site_rights.specs.declared.field_rights.Outcome.{Outcome}
use Rattle.site_rights.specs.declared.field_rights.Outcome.TheVariants.{Committed, Aborted}
use Rattle.site_rights.specs.Rights.{amounts_of, with_amounts, no_rights, row_at, free_at, held_at, cut_at, width_at, at_field, after_take, after_drop, after_tighten, after_add, ending, by_escrow, by_escrows, AreInRange, AreHeld, CanEnd}

-- by how much a change lowers, or raises
abbrev pub size : Kind → ℤ → ℕ
size k c = cond (same_kind (kind_of c) k) (unsigned_abs c) 0

-- what holds of both kinds holds of each
pub by_kind : (P : Kind → Type 0) → P Lower → P Raise → (k : Kind) → P k
by_kind P lower raise Lower = lower
by_kind P lower raise Raise = raise

-- a row after a write at a field
pub row_at-set : (rows : List FieldRights) (f g : ℕ) (r : FieldRights) → f < length rows
    → row_at (slice_set rows f r) g ≡ cond (f == g) r (row_at rows g)
row_at-set rows f g r h =
    elim (cases_Bool (f == g)) [
      | inl same ↦
          let e : f ≡ g = eqb-true f g same in
          rw same (subst (λ x. get_or (set rows f r) x no_rights ≡ r) e (get_or-set_same rows f r no_rights h))
      | inr differs ↦
          let ne : g ≢ f = λ e. eqb-false f g differs (sym e) in
          rw differs (get_or-set_other rows f g r no_rights ne)
    ]

-- the end of an escrow takes its size out of the held rights
pub ending_held : (o : Outcome) (r : FieldRights) (c : ℤ) (k : Kind) → unsigned_abs c ≤ (amounts_of r (kind_of c)).held
    → (amounts_of (ending o r (kind_of c) (unsigned_abs c)) k).held + size k c ≡ (amounts_of r k).held
ending_held Committed r (pos n) Lower h = omega arith
ending_held Committed r (pos n) Raise h = omega arith
ending_held Committed r (negsuc n) Lower h = omega arith
ending_held Committed r (negsuc n) Raise h = omega arith
ending_held Aborted r (pos n) Lower h = omega arith
ending_held Aborted r (pos n) Raise h = omega arith
ending_held Aborted r (negsuc n) Lower h = omega arith
ending_held Aborted r (negsuc n) Raise h = omega arith

-- an escrow adds its size to the held rights
pub taken_held : (r : FieldRights) (c : ℤ) (k : Kind)
    → (amounts_of (after_take r (kind_of c) (unsigned_abs c)) k).held ≡ (amounts_of r k).held + size k c
taken_held r (pos n) Lower = omega arith
taken_held r (pos n) Raise = omega arith
taken_held r (negsuc n) Lower = omega arith
taken_held r (negsuc n) Raise = omega arith

size_kind_of : (c : ℤ) → size (kind_of c) c ≡ unsigned_abs c
size_kind_of (pos n) = refl
size_kind_of (negsuc n) = refl

pub length-by_escrow : (change : FieldRights → Kind → ℕ → FieldRights) (rows : List FieldRights) (e : Escrow)
    → length (by_escrow change rows e) ≡ length rows
length-by_escrow change rows e = length-set rows e.field.0 _

pub length-by_escrows : (change : FieldRights → Kind → ℕ → FieldRights) (rows : List FieldRights) (es : List Escrow)
    → length (by_escrows change rows es) ≡ length rows
length-by_escrows change rows [] = refl
length-by_escrows change rows (e ∷ es) = length-by_escrows change (by_escrow change rows e) es ∙ length-by_escrow change rows e

-- a row after a change of the rights on a field
row_at-field : (change : FieldRights → Kind → ℕ → FieldRights) (rows : List FieldRights) (f g : ℕ) (kind : Kind) (q : ℕ) → f < length rows
    → row_at (at_field change rows f kind q) g ≡ cond (f == g) (change (row_at rows g) kind q) (row_at rows g)
row_at-field change rows f g kind q h = row_at-set rows f g (change (row_at rows f) kind q) h ∙ moved (cases_Bool (f == g))
  where
    moved : ((f == g) ≡ true) ⊎ ((f == g) ≡ false)
        → cond (f == g) (change (row_at rows f) kind q) (row_at rows g) ≡ cond (f == g) (change (row_at rows g) kind q) (row_at rows g)
    moved (inl same) = ap (λ (x : ℕ). cond (f == g) (change (get_or rows x no_rights) kind q) (row_at rows g)) (eqb-true f g same)
    moved (inr differs) = rw differs refl

-- what is read of a row after a change of the rights on a field, where the change does `step true` to it, and `step false` leaves it
read-at_field : (read : FieldRights → ℕ) (change : FieldRights → Kind → ℕ → FieldRights) (step : Bool → ℕ
    → ℕ) (rows : List FieldRights) (f g : ℕ) (kind : Kind) (q : ℕ) → f < length rows
    → ((r : FieldRights) → read (change r kind q) ≡ step true (read r)) → ((n : ℕ) → n ≡ step false n)
    → read (row_at (at_field change rows f kind q) g) ≡ step (f == g) (read (row_at rows g))
read-at_field read change step rows f g kind q h changes stays = ap read (row_at-field change rows f g kind q h) ∙ one (f == g)
  where
    one : (b : Bool) → read (cond b (change (row_at rows g) kind q) (row_at rows g)) ≡ step b (read (row_at rows g))
    one true = changes (row_at rows g)
    one false = stays (read (row_at rows g))

-- taking by an escrow
pub held_at-taken : (rows : List FieldRights) (e : Escrow) (g : ℕ) (k : Kind) → e.field.0 < length rows
    → held_at (by_escrow after_take rows e) g k ≡ held_at rows g k + takes g k e
held_at-taken rows e g k h =
    read-at_field (λ r. (amounts_of r k).held) after_take
    (λ b n. n + cond (b && same_kind (kind_of e.change) k) (unsigned_abs e.change) 0) rows e.field.0 g (kind_of e.change)
    (unsigned_abs e.change) h
    (λ r. taken_held r e.change k) (λ n. omega arith)

-- taking by an escrow that is within the free rights
taken_free : (r : FieldRights) (c : ℤ) (k : Kind) → (amounts_of (after_take r (kind_of c) (unsigned_abs c)) k).free
    ≡ (amounts_of r k).free - size k c
taken_free r (pos n) Lower = omega arith
taken_free r (pos n) Raise = omega arith
taken_free r (negsuc n) Lower = omega arith
taken_free r (negsuc n) Raise = omega arith

pub free_at-taken : (rows : List FieldRights) (e : Escrow) (g : ℕ) (k : Kind) → e.field.0 < length rows
    → free_at (by_escrow after_take rows e) g k ≡ free_at rows g k - takes g k e
free_at-taken rows e g k h =
    read-at_field (λ r. (amounts_of r k).free) after_take
    (λ b n. n - cond (b && same_kind (kind_of e.change) k) (unsigned_abs e.change) 0) rows e.field.0 g (kind_of e.change)
    (unsigned_abs e.change) h
    (λ r. taken_free r e.change k) (λ n. omega arith)

-- ---- escrows that end one after another

-- the kind of the rights that an end makes free
abbrev pub frees : Outcome → Kind → Kind
frees Committed k = other k
frees Aborted k = k

-- the end of an escrow makes its size free
ending_free : (o : Outcome) (r : FieldRights) (c : ℤ) (k : Kind)
    → (amounts_of (ending o r (kind_of c) (unsigned_abs c)) k).free ≡ (amounts_of r k).free + size (frees o k) c
ending_free Committed r (pos n) Lower = omega arith
ending_free Committed r (pos n) Raise = omega arith
ending_free Committed r (negsuc n) Lower = omega arith
ending_free Committed r (negsuc n) Raise = omega arith
ending_free Aborted r (pos n) Lower = omega arith
ending_free Aborted r (pos n) Raise = omega arith
ending_free Aborted r (negsuc n) Lower = omega arith
ending_free Aborted r (negsuc n) Raise = omega arith

free_at-by_escrow : (o : Outcome) (rows : List FieldRights) (e : Escrow) (g : ℕ) (k : Kind) → e.field.0 < length rows
    → free_at (by_escrow (ending o) rows e) g k ≡ free_at rows g k + takes g (frees o k) e
free_at-by_escrow o rows e g k h =
    read-at_field (λ r. (amounts_of r k).free) (ending o)
    (λ b n. n + cond (b && same_kind (kind_of e.change) (frees o k)) (unsigned_abs e.change) 0) rows e.field.0 g (kind_of e.change)
    (unsigned_abs e.change) h
    (λ r. ending_free o r e.change k) (λ n. omega arith)

one_held : (o : Outcome) (b : Bool) (r : FieldRights) (c : ℤ) (k : Kind)
    → cond (b && same_kind (kind_of c) (kind_of c)) (unsigned_abs c) 0 ≤ (amounts_of r (kind_of c)).held
    → (amounts_of (cond b (ending o r (kind_of c) (unsigned_abs c)) r) k).held + cond (b && same_kind (kind_of c) k) (unsigned_abs c) 0
    ≡ (amounts_of r k).held
one_held o true r c k h = ending_held o r c k (omega (arith, h, size_kind_of c))
one_held o false r c k h = omega arith

held_at-by_escrow : (o : Outcome) (rows : List FieldRights) (e : Escrow) (g : ℕ) (k : Kind) → e.field.0 < length rows
    → takes g (kind_of e.change) e ≤ held_at rows g (kind_of e.change)
    → held_at (by_escrow (ending o) rows e) g k + takes g k e ≡ held_at rows g k
held_at-by_escrow o rows e g k h enough =
    ap (λ r. (amounts_of r k).held + takes g k e) (row_at-field (ending o) rows e.field.0 g (kind_of e.change) (unsigned_abs e.change) h)
    ∙ one_held o (e.field.0 == g) (row_at rows g) e.change k enough

AreInRange-same : (rows rows' : List FieldRights) (es : List Escrow) → length rows' ≡ length rows → AreInRange rows es → AreInRange rows' es
AreInRange-same rows rows' es same h = All-weaker (λ (e : Escrow). e.field.0 < length rows) (λ (e : Escrow). e.field.0 < length rows')
    (λ e lt. omega arith) es h

AreHeld-step : (o : Outcome) (rows : List FieldRights) (e : Escrow) (es : List Escrow) → e.field.0 < length rows → AreHeld rows (e ∷ es)
    → AreHeld (by_escrow (ending o) rows e) es
AreHeld-step o rows e es lt h g k within =
    let gl : g < length rows = omega (arith, length-by_escrow (ending o) rows e) in
    omega (
      arith,
      held_at-by_escrow o rows e g k lt
          (omega (arith, h g (kind_of e.change) gl, sum_by-cons (takes g (kind_of e.change)) e es)),
      h g k gl,
      sum_by-cons (takes g k) e es,
    )

-- what escrows held together is free when all of them ended, of the kind that their end frees
pub free_at-by_escrows : (o : Outcome) (rows : List FieldRights) (es : List Escrow) → AreInRange rows es → (g : ℕ) (k : Kind)
    → free_at (by_escrows (ending o) rows es) g k ≡ free_at rows g k + sum_by (takes g (frees o k)) es
free_at-by_escrows o rows [] range g k = omega arith
free_at-by_escrows o rows (e ∷ es) range g k =
    let lt : e.field.0 < length rows = All-head (λ (e : Escrow). e.field.0 < length rows) e es range in
    let same = length-by_escrow (ending o) rows e in
    let rest = AreInRange-same rows (by_escrow (ending o) rows e) es same (All-tail (λ (e : Escrow). e.field.0 < length rows) e es range) in
    omega (
      arith,
      free_at-by_escrows o (by_escrow (ending o) rows e) es rest g k,
      free_at-by_escrow o rows e g k lt,
      sum_by-cons (takes g (frees o k)) e es,
    )

-- what escrows held together is no longer held when all of them ended
pub held_at-by_escrows : (o : Outcome) (rows : List FieldRights) (es : List Escrow) → AreInRange rows es → AreHeld rows es
    → (g : ℕ) (k : Kind) → g < length rows
    → held_at (by_escrows (ending o) rows es) g k + sum_by (takes g k) es ≡ held_at rows g k
held_at-by_escrows o rows [] range h g k gl = omega arith
held_at-by_escrows o rows (e ∷ es) range h g k gl =
    let lt : e.field.0 < length rows = All-head (λ (e : Escrow). e.field.0 < length rows) e es range in
    let same = length-by_escrow (ending o) rows e in
    let rest = AreInRange-same rows (by_escrow (ending o) rows e) es same (All-tail (λ (e : Escrow). e.field.0 < length rows) e es range) in
    let next = held_at-by_escrows o (by_escrow (ending o) rows e) es rest (AreHeld-step o rows e es lt h) g k (omega (arith, same)) in
    omega (
      arith,
      next,
      held_at-by_escrow o rows e g k lt
          (omega (arith, h g (kind_of e.change) gl, sum_by-cons (takes g (kind_of e.change)) e es)),
      sum_by-cons (takes g k) e es,
    )

-- the escrow at i can end after those before it
pub can_end : (o : Outcome) (rows : List FieldRights) (es : List Escrow) (i : ℕ) (e d : Escrow) → AreInRange rows es → AreHeld rows es
    → i < length es → e ≡ get_or es i d → CanEnd (by_escrows (ending o) rows (take i es)) e
can_end o rows es i e d range h lt at =
    let in_range : e.field.0 < length rows = subst (λ (x : Escrow). x.field.0 < length rows) (sym at)
    (All-get_or (λ (e : Escrow). e.field.0 < length rows) es i d lt range) in
    let k = kind_of e.change in
    let few : AreHeld rows (take i es) = λ g k gl. omega (arith, h g k gl, sum_by-take-le (takes g k) es i) in
    let held = held_at-by_escrows o rows (take i es)
    (All-take (λ (e : Escrow). e.field.0 < length rows) i es range) few e.field.0 k in_range in
    let more : sum_by (takes e.field.0 k) (take (i + 1) es) ≡ sum_by (takes e.field.0 k) (take i es) + takes e.field.0 k e =
    sum_by_more (takes e.field.0 k) es i d lt ∙ ap (λ x. sum_by (takes e.field.0 k) (take i es) + takes e.field.0 k x) (sym at) in
    let own : takes e.field.0 k e ≡ unsigned_abs e.change = rw (eq-eqb e.field.0 e.field.0 refl) (size_kind_of e.change) in
    record {
      in_range = omega (arith, length-by_escrows (ending o) rows (take i es));
      held = omega (arith, held, more, own, h e.field.0 k in_range, sum_by-take-le (takes e.field.0 k) es (i + 1));
    }

-- ---- rights that leave and come

dropped_free : (r : FieldRights) (kind k : Kind) (q : ℕ)
    → (amounts_of (after_drop r kind q) k).free ≡ (amounts_of r k).free - cond (same_kind kind k) q 0
dropped_free r Lower Lower q = refl
dropped_free r Lower Raise q = omega arith
dropped_free r Raise Lower q = omega arith
dropped_free r Raise Raise q = refl

dropped_held : (r : FieldRights) (kind k : Kind) (q : ℕ) → (amounts_of (after_drop r kind q) k).held ≡ (amounts_of r k).held
dropped_held r Lower Lower q = refl
dropped_held r Lower Raise q = refl
dropped_held r Raise Lower q = refl
dropped_held r Raise Raise q = refl

added_free : (r : FieldRights) (kind k : Kind) (q : ℕ)
    → (amounts_of (after_add r kind q) k).free ≡ (amounts_of r k).free + cond (same_kind kind k) q 0
added_free r Lower Lower q = refl
added_free r Lower Raise q = omega arith
added_free r Raise Lower q = omega arith
added_free r Raise Raise q = refl

added_held : (r : FieldRights) (kind k : Kind) (q : ℕ) → (amounts_of (after_add r kind q) k).held ≡ (amounts_of r k).held
added_held r Lower Lower q = refl
added_held r Lower Raise q = refl
added_held r Raise Lower q = refl
added_held r Raise Raise q = refl

-- rights that leave a field leave the free ones of their kind
pub free_at-dropped : (rows : List FieldRights) (f g : ℕ) (kind k : Kind) (q : ℕ) → f < length rows
    → free_at (at_field after_drop rows f kind q) g k ≡ free_at rows g k - cond ((f == g) && same_kind kind k) q 0
free_at-dropped rows f g kind k q h = read-at_field (λ r. (amounts_of r k).free) after_drop
    (λ b n. n - cond (b && same_kind kind k) q 0) rows f g kind q h (λ r. dropped_free r kind k q) (λ n. omega arith)

pub held_at-dropped : (rows : List FieldRights) (f g : ℕ) (kind k : Kind) (q : ℕ) → f < length rows
    → held_at (at_field after_drop rows f kind q) g k ≡ held_at rows g k
held_at-dropped rows f g kind k q h = read-at_field (λ r. (amounts_of r k).held) after_drop (λ b n. n) rows f g kind q h
    (λ r. dropped_held r kind k q) (λ n. refl)

-- rights that come to a field come to the free ones of their kind
pub free_at-added : (rows : List FieldRights) (f g : ℕ) (kind k : Kind) (q : ℕ) → f < length rows
    → free_at (at_field after_add rows f kind q) g k ≡ free_at rows g k + cond ((f == g) && same_kind kind k) q 0
free_at-added rows f g kind k q h = read-at_field (λ r. (amounts_of r k).free) after_add
    (λ b n. n + cond (b && same_kind kind k) q 0) rows f g kind q h (λ r. added_free r kind k q) (λ n. omega arith)

pub held_at-added : (rows : List FieldRights) (f g : ℕ) (kind k : Kind) (q : ℕ) → f < length rows
    → held_at (at_field after_add rows f kind q) g k ≡ held_at rows g k
held_at-added rows f g kind k q h = read-at_field (λ r. (amounts_of r k).held) after_add (λ b n. n) rows f g kind q h
    (λ r. added_held r kind k q) (λ n. refl)

-- ---- rights that are given up

tightened_free : (r : FieldRights) (kind k : Kind) (q : ℕ)
    → (amounts_of (after_tighten r kind q) k).free ≡ (amounts_of r k).free - cond (same_kind kind k) q 0
tightened_free r Lower Lower q = refl
tightened_free r Lower Raise q = omega arith
tightened_free r Raise Lower q = omega arith
tightened_free r Raise Raise q = refl

tightened_held : (r : FieldRights) (kind k : Kind) (q : ℕ) → (amounts_of (after_tighten r kind q) k).held ≡ (amounts_of r k).held
tightened_held r Lower Lower q = refl
tightened_held r Lower Raise q = refl
tightened_held r Raise Lower q = refl
tightened_held r Raise Raise q = refl

tightened_cut : (r : FieldRights) (kind k : Kind) (q : ℕ)
    → (amounts_of (after_tighten r kind q) k).cut ≡ (amounts_of r k).cut + cond (same_kind kind k) q 0
tightened_cut r Lower Lower q = refl
tightened_cut r Lower Raise q = omega arith
tightened_cut r Raise Lower q = omega arith
tightened_cut r Raise Raise q = refl

-- rights that are given up leave the free ones of their kind
pub free_at-tightened : (rows : List FieldRights) (f g : ℕ) (kind k : Kind) (q : ℕ) → f < length rows
    → free_at (at_field after_tighten rows f kind q) g k ≡ free_at rows g k - cond ((f == g) && same_kind kind k) q 0
free_at-tightened rows f g kind k q h = read-at_field (λ r. (amounts_of r k).free) after_tighten
    (λ b n. n - cond (b && same_kind kind k) q 0) rows f g kind q h (λ r. tightened_free r kind k q) (λ n. omega arith)

pub held_at-tightened : (rows : List FieldRights) (f g : ℕ) (kind k : Kind) (q : ℕ) → f < length rows
    → held_at (at_field after_tighten rows f kind q) g k ≡ held_at rows g k
held_at-tightened rows f g kind k q h = read-at_field (λ r. (amounts_of r k).held) after_tighten (λ b n. n) rows f g kind q h
    (λ r. tightened_held r kind k q) (λ n. refl)

-- and come to what was given up of it
pub cut_at-tightened : (rows : List FieldRights) (f g : ℕ) (kind k : Kind) (q : ℕ) → f < length rows
    → cut_at (at_field after_tighten rows f kind q) g k ≡ cut_at rows g k + cond ((f == g) && same_kind kind k) q 0
cut_at-tightened rows f g kind k q h = read-at_field (λ r. (amounts_of r k).cut) after_tighten
    (λ b n. n + cond (b && same_kind kind k) q 0) rows f g kind q h (λ r. tightened_cut r kind k q) (λ n. omega arith)

-- ---- no other change gives rights up

abbrev pub KeepsCut : (FieldRights → Kind → ℕ → FieldRights) → Type 0
KeepsCut change = (r : FieldRights) (kind k : Kind) (q : ℕ) → (amounts_of (change r kind q) k).cut ≡ (amounts_of r k).cut

pub taken_keeps_cut : KeepsCut after_take
taken_keeps_cut r Lower Lower q = refl
taken_keeps_cut r Lower Raise q = refl
taken_keeps_cut r Raise Lower q = refl
taken_keeps_cut r Raise Raise q = refl

pub dropped_keeps_cut : KeepsCut after_drop
dropped_keeps_cut r Lower Lower q = refl
dropped_keeps_cut r Lower Raise q = refl
dropped_keeps_cut r Raise Lower q = refl
dropped_keeps_cut r Raise Raise q = refl

pub added_keeps_cut : KeepsCut after_add
added_keeps_cut r Lower Lower q = refl
added_keeps_cut r Lower Raise q = refl
added_keeps_cut r Raise Lower q = refl
added_keeps_cut r Raise Raise q = refl

pub ending_keeps_cut : (o : Outcome) → KeepsCut (ending o)
ending_keeps_cut Committed r Lower Lower q = refl
ending_keeps_cut Committed r Lower Raise q = refl
ending_keeps_cut Committed r Raise Lower q = refl
ending_keeps_cut Committed r Raise Raise q = refl
ending_keeps_cut Aborted r Lower Lower q = refl
ending_keeps_cut Aborted r Lower Raise q = refl
ending_keeps_cut Aborted r Raise Lower q = refl
ending_keeps_cut Aborted r Raise Raise q = refl

pub cut_at-field : (change : FieldRights → Kind → ℕ → FieldRights) → KeepsCut change
    → (rows : List FieldRights) (f g : ℕ) (kind k : Kind) (q : ℕ) → f < length rows
    → cut_at (at_field change rows f kind q) g k ≡ cut_at rows g k
cut_at-field change keeps rows f g kind k q h = read-at_field (λ r. (amounts_of r k).cut) change (λ b n. n) rows f g kind q h
    (λ r. keeps r kind k q) (λ n. refl)

pub cut_at-by_escrows : (change : FieldRights → Kind → ℕ → FieldRights) → KeepsCut change → (rows : List FieldRights) (es : List Escrow)
    → AreInRange rows es → (g : ℕ) (k : Kind)
    → cut_at (by_escrows change rows es) g k ≡ cut_at rows g k
cut_at-by_escrows change keeps rows [] range g k = refl
cut_at-by_escrows change keeps rows (e ∷ es) range g k =
    let lt : e.field.0 < length rows = All-head (λ (e : Escrow). e.field.0 < length rows) e es range in
    let rest = AreInRange-same rows (by_escrow change rows e) es (length-by_escrow change rows e)
    (All-tail (λ (e : Escrow). e.field.0 < length rows) e es range) in
    cut_at-by_escrows change keeps (by_escrow change rows e) es rest g k
    ∙ cut_at-field change keeps rows e.field.0 g (kind_of e.change) k (unsigned_abs e.change) lt

-- ---- no change of rights changes a width

abbrev pub KeepsWidth : (FieldRights → Kind → ℕ → FieldRights) → Type 0
KeepsWidth change = (r : FieldRights) (k : Kind) (q : ℕ) → (change r k q).width ≡ r.width

with_amounts_keeps : (r : FieldRights) (k : Kind) (a : Amounts) → (with_amounts r k a).width ≡ r.width
with_amounts_keeps r Lower a = refl
with_amounts_keeps r Raise a = refl

pub taken_keeps : KeepsWidth after_take
taken_keeps r k q = with_amounts_keeps r k _

pub ending_keeps : (o : Outcome) → KeepsWidth (ending o)
ending_keeps Committed r k q = with_amounts_keeps (with_amounts r k _) (other k) _ ∙ with_amounts_keeps r k _
ending_keeps Aborted r k q = with_amounts_keeps r k _

pub dropped_keeps : KeepsWidth after_drop
dropped_keeps r k q = with_amounts_keeps r k _

pub tightened_keeps : KeepsWidth after_tighten
tightened_keeps r k q = with_amounts_keeps r k _

pub added_keeps : KeepsWidth after_add
added_keeps r k q = with_amounts_keeps r k _

pub width_at-field : (change : FieldRights → Kind → ℕ → FieldRights) → KeepsWidth change
    → (rows : List FieldRights) (f g : ℕ) (kind : Kind) (q : ℕ) → f < length rows
    → width_at (at_field change rows f kind q) g ≡ width_at rows g
width_at-field change keeps rows f g kind q h = read-at_field (λ r. r.width) change (λ b n. n) rows f g kind q h (λ r. keeps r kind q)
    (λ n. refl)

pub width_at-by_escrows : (change : FieldRights → Kind → ℕ → FieldRights) → KeepsWidth change → (rows : List FieldRights) (es : List Escrow)
    → AreInRange rows es → (g : ℕ)
    → width_at (by_escrows change rows es) g ≡ width_at rows g
width_at-by_escrows change keeps rows [] range g = refl
width_at-by_escrows change keeps rows (e ∷ es) range g =
    let lt : e.field.0 < length rows = All-head (λ (e : Escrow). e.field.0 < length rows) e es range in
    let rest = AreInRange-same rows (by_escrow change rows e) es (length-by_escrow change rows e)
    (All-tail (λ (e : Escrow). e.field.0 < length rows) e es range) in
    width_at-by_escrows change keeps (by_escrow change rows e) es rest g
    ∙ width_at-field change keeps rows e.field.0 g (kind_of e.change) (unsigned_abs e.change) lt
