-- A transaction of one escrow that is begun, granted and committed.
use Rattle.std.proofs.Common.{◌≡◌, ℕ, ◌+◌, ◌<◌, ◌≤◌, ◌≢◌, Bool, true, false, not, ◌&&◌, ◌||◌, cond, List, ◌∷◌, length, refl, ap, subst, arith, eqb, None}
use Rattle.std.proofs.lemmas.Bool.{eq-eqb, or_left}
use Rattle.std.proofs.lemmas.Int.{ints}
use Rattle.std.specs.Prelude.{ℤ, pos, negsuc, ◌+ℤ◌, ◌-ℤ◌, unsigned_abs, sum_by}
use Rattle.field_bounds.specs.declared.kind.Kind.{Kind}
use Rattle.field_bounds.specs.declared.kind.Kind.TheVariants.{Lower, Raise}
use Rattle.field_bounds.specs.declared.id.TxnId.{TxnId}
use Rattle.field_bounds.specs.declared.id.SiteNo.{SiteNo}
use Rattle.field_bounds.specs.declared.id.FieldNo.{FieldNo}
use Rattle.field_bounds.specs.declared.entry.Escrow.{Escrow as EscrowOf}
use Rattle.field_bounds.specs.declared.entry.Command.TheVariants.{Begin, Escrow, Commit}
use Rattle.field_bounds.specs.declared.entry.Reply.TheVariants.{Begun, Granted, Committed}
use Rattle.field_bounds.specs.declared.entry.Entry.{Entry}
use Rattle.field_bounds.specs.Kind.{kind_of, same_kind}
use Rattle.field_bounds.specs.Schema.{SchemaValue}
use Rattle.field_bounds.specs.Limits.{IsSchema}
use Rattle.field_bounds.specs.Parts.{field_at, sum_below}
use Rattle.field_bounds.specs.declared.effect.Effect.{Effect}
use Rattle.field_bounds.specs.declared.effect.Effect.TheVariants.{Begins}
use Rattle.field_bounds.specs.Effects.{Base, same_txn, is_begun, is_committed, is_dropped, open_txns, takes, granted_sizes, share, effects, fresh}
use Rattle.field_bounds.specs.Owed.{place, first, refusals, is_up, epoch_of, count_since, count_escrows, is_begun_reply, max_number, max_change, IsRun}
use Rattle.field_bounds.specs.Central.{own, at_site, committed_value, is_committed_in, IsSound}
use Rattle.field_bounds.proofs.Lawful.{IsLawful, same_txn-true}
use Rattle.field_bounds.proofs.Runs.{run_is_lawful, begun_is_new, next_id}
use Rattle.field_bounds.proofs.Steps.{granted-or, of_txn_is, IsUnused, new_is_unused}
use Rattle.field_bounds.proofs.Sums.{sum_below_bump}
use Rattle.field_bounds.proofs.Traces.{changes_split}
use Rattle.field_bounds.proofs.Conserved.{traced}
use Rattle.reaching_steps.proofs.Sites.{NoneOpen, nothing_open, same_txn-refl}
use Rattle.reaching_steps.proofs.Refusals.{begin_goes, escrow_goes, commit_goes}

unused_open : (c d : Bool) → c ≡ false → d ≡ false → (not c && not d) ≡ true
unused_open c d h g = rw (h, g) refl

-- ---- one site

module _ (schema : SchemaValue) (s : ℕ) (base : Base) (o : List Entry) (run : IsRun schema s base o) (field : ℕ) (change : ℤ) where
  abbrev es : List Effect
  es = effects base false o

  abbrev id : TxnId
  id = next_id (epoch_of base o) (count_since is_begun_reply o)

  abbrev site : SiteNo
  site = record { 0 = s }

  abbrev no : FieldNo
  no = record { 0 = field }

  abbrev pub with_begin : List Entry
  with_begin = record { site = site; command = Begin; reply = Begun id } ∷ o

  abbrev pub with_escrow : List Entry
  with_escrow = record { site = site; command = Escrow id no change; reply = Granted } ∷ with_begin

  abbrev pub with_commit : List Entry
  with_commit = record { site = site; command = Commit id; reply = Committed } ∷ with_escrow

  lawful : IsLawful schema base es
  lawful = run_is_lawful schema s base o run false

  unused : IsUnused id es
  unused = new_is_unused schema base id es lawful (begun_is_new schema s base o run false)

  is_here : is_begun id (Begins id ∷ es) ≡ true
  is_here = or_left (same_txn id id) (is_begun id es) (same_txn-refl id)

  pub may_begin : is_up base o ≡ true → count_since is_begun_reply o < max_number → NoneOpen es
      → first (refusals (place schema s base o) Begin) ≡ None
  may_begin up left none =
      let empty : length (open_txns es) ≡ 0 = ap (λ (l : List TxnId). length l) (nothing_open es none) in
      begin_goes (place schema s base o) up (omega (arith, empty)) left

  pub may_escrow : is_up base o ≡ true → field < length schema.fields → unsigned_abs change ≢ 0 → unsigned_abs change ≤ max_change
      → unsigned_abs change ≤ share base field (kind_of change) es
      → first (refusals (place schema s base with_begin) (Escrow id no change)) ≡ None
  may_escrow up known some most enough =
      let empty : count_escrows id (Begins id ∷ es) ≡ 0 = ap (λ (l : List EscrowOf). length l) unused.no_escrow in
      escrow_goes (place schema s base with_begin) up id no change known is_here
      (unused_open (is_committed id es) (is_dropped id es) unused.uncommitted unused.undropped) some most enough
      (omega (arith, empty))

  pub may_commit : is_up base o ≡ true → first (refusals (place schema s base with_escrow) (Commit id)) ≡ None
  may_commit up = commit_goes (place schema s base with_escrow) up id is_here
      (unused_open (is_committed id es) (is_dropped id es) unused.uncommitted unused.undropped)

  -- what is settled at the site grows by the escrow
  abbrev pub settled : Kind → List Effect → ℕ
  settled k l = granted_sizes (λ j. is_committed j l) field k l

  abbrev pub asked : EscrowOf
  asked = record { field = no; change = change }

  weigh_one : (on p : Bool) (n : ℕ) → p ≡ true → cond (on && p) n 0 ≡ cond on n 0
  weigh_one true p n h = rw h refl
  weigh_one false p n h = refl

  pub settles : (k : Kind) → settled k (effects base false with_commit) ≡ settled k es + takes field k asked
  settles k =
      let on = eqb field field && same_kind (kind_of change) k in
      omega (
        arith,
        weigh_one on (same_txn id id || is_committed id es) (unsigned_abs change)
            (or_left (same_txn id id) (is_committed id es) (same_txn-refl id)),
        granted-or (λ j. same_txn id j) (λ j. is_committed j es)
            (λ j same. subst (λ (x : TxnId). is_committed x es ≡ false) (same_txn-true id j same) unused.uncommitted) field k es,
        of_txn_is id field k es,
        ap (λ (l : List EscrowOf). sum_by (takes field k) l) unused.no_escrow,
      )

-- ---- the committed value, site by site

takes_split : (field : ℕ) (no : FieldNo) (change : ℤ) → no.0 ≡ field
    → change ≡ (pos (takes field Raise (record { field = no; change = change })) -ℤ pos
    (takes field Lower (record { field = no; change = change })))
takes_split field no (pos n) same = rw (eq-eqb no.0 field same) (omega (arith, ints))
takes_split field no (negsuc n) same = rw (eq-eqb no.0 field same) (omega (arith, ints))

module _ (schema : SchemaValue) (good : IsSchema schema) (f : ℕ) where
  abbrev pub settled_at : Kind → List Entry → ℕ → ℕ
  settled_at k t s = granted_sizes (λ j. is_committed j (at_site schema t s)) f k (at_site schema t s)

  pub committed_is : (t : List Entry) → IsSound schema t
      → committed_value schema t f ≡ ((field_at schema f).value +ℤ
      (pos (sum_below schema.sites (settled_at Raise t)) -ℤ pos (sum_below schema.sites (settled_at Lower t))))
  committed_is t sound =
      let each = traced schema good t sound (is_committed_in schema t) f in
      omega (arith, ints, changes_split (is_committed_in schema t) f t, each Raise, each Lower)

  -- where one site has settled one escrow more, the committed value has moved by its change
  pub moved : (t u : List Entry) → IsSound schema t → IsSound schema u → (s : ℕ) → s < schema.sites → (change : ℤ)
      → ((k : Kind) → settled_at k u s ≡ settled_at k t s + takes f k (record { field = record { 0 = f }; change = change }))
      → ((j : ℕ) → j ≢ s → own j u ≡ own j t)
      → committed_value schema u f ≡ (committed_value schema t f +ℤ change)
  moved t u sound_t sound_u s below change here there =
      let bump : (k : Kind) → sum_below schema.sites (settled_at k u) ≡ sum_below schema.sites (settled_at k t)
      + takes f k (record { field = record { 0 = f }; change = change }) =
      λ k. sum_below_bump schema.sites (settled_at k t) (settled_at k u) s
      (takes f k (record { field = record { 0 = f }; change = change })) below (here k)
      (λ j apart. ap (λ (o : List Entry). (let es = effects (fresh schema j) false o in granted_sizes (λ x. is_committed x es) f k es))
      (there j apart)) in
      let split = takes_split f (record { 0 = f }) change refl in
      omega (arith, ints, committed_is t sound_t, committed_is u sound_u, bump Raise, bump Lower, split)
