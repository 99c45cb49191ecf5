-- The record of a command that isn't refused may stand behind those before it.
use Rattle.std.proofs.Common.{◌≡◌, ◌≢◌, ℕ, ◌+◌, ◌-◌, ◌≤◌, ◌<◌, Bool, true, false, cond, List, [], ◌∷◌, reverse, length, refl, ◌∙◌, ap, subst, inl, inr, arith, None}
use Rattle.std.proofs.lemmas.Bool.{and_parts, cases_Bool, eq-eqb, ne_eqb, ltb-true, lt-ltb, le-leb}
use Rattle.std.proofs.lemmas.Grind.{reverse_onto}
use Rattle.std.proofs.lemmas.List.Folds.{list_all-append}
use Rattle.std.specs.Prelude.{sum_by}
use Rattle.std.specs.List.{list_all, AllByRecursion}
use Rattle.field_bounds.specs.declared.kind.Kind.{Kind}
use Rattle.field_bounds.specs.declared.kind.Kind.TheVariants.{Lower, Raise}
use Rattle.field_bounds.specs.declared.id.TxnId.{TxnId}
use Rattle.field_bounds.specs.declared.id.SiteNo.{SiteNo}
use Rattle.field_bounds.specs.declared.id.FieldNo.{FieldNo}
use Rattle.field_bounds.specs.declared.entry.Command.{Command}
use Rattle.field_bounds.specs.declared.entry.Command.TheVariants.{Commit, Give, Spare, Tighten, Accept, Restart}
use Rattle.field_bounds.specs.declared.entry.Escrow.{Escrow as EscrowOf}
use Rattle.field_bounds.specs.declared.entry.Entry.{Entry}
use Rattle.kept_records.specs.declared.record.Record.{Record}
use Rattle.kept_records.specs.declared.record.Record.TheVariants as records
use Rattle.field_bounds.specs.Schema.{SchemaValue}
use Rattle.field_bounds.specs.declared.effect.Effect.{Effect}
use Rattle.field_bounds.specs.declared.effect.Effect.TheVariants.{Begins, Grants, Commits, Aborts, Gives, Accepts, Stops}
use Rattle.field_bounds.specs.Effects.{Base, same_txn, is_begun, is_open, escrows_of, takes, share, own_rights, total_given, cut, total_accepted}
use Rattle.field_bounds.specs.Owed.{Place, place, first, refusals, writes, epoch_of, free, spare_of, gain_of, told_so_far, cut_so_far, IsRun}
use Rattle.kept_records.specs.Stands.{greatest, given_in, accepted_in, cut_in, own_in, is_other_site, may_commit, room_in, may_follow}
use Rattle.kept_state.specs.Keeps.{IsBase, record_left, Keeps}
use Rattle.field_bounds.proofs.Lawful.{IsLawful, granted-mono, same_txn-true}
use Rattle.field_bounds.proofs.Sparing.{spared_is_there, spared_is_some}
use Rattle.field_bounds.proofs.Refused.{none_holds, up_there, commit_is_opened, give_is_to_a_site, give_is_in_schema, give_is_some, give_is_enough, give_is_to_another, spare_is_to_a_site, spare_is_in_schema, spare_is_some, spare_has_a_share, spare_is_to_another, tighten_is_in_schema, tighten_is_some, tighten_is_enough, accept_is_from_a_site, accept_is_in_schema, accept_is_from_another, accept_has_room}
use Rattle.field_bounds.proofs.Doubt.{nothing_in_doubt}
use Rattle.field_bounds.proofs.Runs.{run_is_lawful, open_is_current}
use Rattle.kept_state.proofs.Adding.{each_if}
use Rattle.kept_state.proofs.Agreeing.{of_txn_kept}
use Rattle.kept_state.proofs.Keeping.{run_owns, run_gives, run_cuts, run_accepts}
use Rattle.kept_state.proofs.Epochs.{up_epoch}

-- ---- the escrows of a transaction

all_reversed : (p : EscrowOf → Bool) (xs : List EscrowOf) → list_all p xs ≡ true → list_all p (reverse xs) ≡ true
all_reversed p [] h = refl
all_reversed p (x ∷ xs) h =
    let parts = and_parts (p x) (list_all p xs) h in
    ap (list_all p) (reverse_onto xs x []) ∙ list_all-append p (reverse xs) (x ∷ []) ∙ rw (all_reversed p xs parts.1, parts.0) refl

-- what holds of each escrow on a field of the schema holds of all that a transaction was granted
all_granted : (schema : SchemaValue) (base : Base) (p : EscrowOf → Bool) (id : TxnId)
    → ((e : EscrowOf) → e.field.0 < length schema.fields → p e ≡ true) → (es : List Effect)
    → IsLawful schema base es → list_all p (escrows_of id es) ≡ true
all_granted schema base p id h [] lawful = refl
all_granted schema base p id h (Grants txn field change ∷ es) lawful =
    let e : EscrowOf = record { field = field; change = change } in
    let rest = all_granted schema base p id h es lawful.0 in
    elim (cases_Bool (same_txn id txn)) as (λ _. list_all p (cond (same_txn id txn) (e ∷ escrows_of id es) (escrows_of id es)) ≡ true) [
      | inl is ↦ rw (is, h e lawful.1.in_schema) rest
      | inr isnt ↦ rw isnt rest
    ]
all_granted schema base p id h (Begins txn ∷ es) lawful = all_granted schema base p id h es lawful.0
all_granted schema base p id h (Commits txn ∷ es) lawful = all_granted schema base p id h es lawful.0
all_granted schema base p id h (Aborts txn ∷ es) lawful = all_granted schema base p id h es lawful.0
all_granted schema base p id h (Gives to field kind amount ∷ es) lawful = all_granted schema base p id h es lawful.0
all_granted schema base p id h (Accepts from field kind total ∷ es) lawful = all_granted schema base p id h es lawful.0
all_granted schema base p id h (Stops ∷ es) lawful = all_granted schema base p id h es lawful.0

-- ---- each record may stand

module _ (at : Place) (rs : List Record)
    (greatest_is : epoch_of at.base at.entries ≡ greatest rs)
    (own_is : (f : ℕ) (k : Kind) → own_rights at.base f k at.effects ≡ own_in at.schema at.site rs f k)
    (given_is : (to f : ℕ) (k : Kind) → total_given at.base to f k at.effects ≡ given_in rs to f k)
    (cut_is : (f : ℕ) (k : Kind) → cut at.base f k at.effects ≡ cut_in rs f k)
    (accepted_is : (from f : ℕ) (k : Kind) → total_accepted at.base from f k at.effects ≡ accepted_in rs from f k)
    (lawful : IsLawful at.schema at.base at.effects)
    (current : (id : TxnId) → is_begun id at.effects ≡ true → is_open id at.effects ≡ true → id.epoch ≡ epoch_of at.base at.entries)
  where
    -- what an open transaction holds is within the own rights
    escrows_within : (txn : TxnId) → is_open txn at.effects ≡ true → (f : ℕ) (k : Kind)
        → sum_by (takes f k) (reverse (escrows_of txn at.effects)) ≤ own_in at.schema at.site rs f k
    escrows_within txn opened f k =
        omega (
          arith,
          of_txn_kept txn f k at.effects,
          own_is f k,
          granted-mono (λ id. same_txn txn id) (λ id. is_open id at.effects)
              (λ id same. subst (λ (x : TxnId). is_open x at.effects ≡ true) (same_txn-true txn id same) opened) f k at.effects,
        )

    other_site : (site : SiteNo) → site.0 < at.schema.sites → site.0 ≢ at.site → is_other_site at.schema at.site site.0 ≡ true
    other_site site known apart = rw (lt-ltb site.0 at.schema.sites known, ne_eqb site.0 at.site apart) refl

    abbrev Follows : Record → Type 0
    Follows r = may_follow at.schema at.site rs r ≡ true

    gift_stands : (to : SiteNo) (field : FieldNo) (kind : Kind) (amount : ℕ) → to.0 < at.schema.sites → field.0 < length at.schema.fields
        → to.0 ≢ at.site
        → 0 < amount → amount ≤ share at.base field.0 kind at.effects
        → AllByRecursion Follows (records.Gift to field kind (told_so_far at to field kind + amount) ∷ [])
    gift_stands to field kind amount site known apart some enough =
        let total = told_so_far at to field kind + amount in
        each_if Follows true (records.Gift to field kind total) (λ w. rw (
          other_site to site apart,
          lt-ltb field.0 (length at.schema.fields) known,
          lt-ltb (given_in rs to.0 field.0 kind) total (omega (arith, given_is to.0 field.0 kind, some)),
          le-leb (total - given_in rs to.0 field.0 kind) (own_in at.schema at.site rs field.0 kind)
              (omega (arith, given_is to.0 field.0 kind, own_is field.0 kind, enough)),
        ) refl)

    pub stands_there : (c : Command) → first (refusals at c) ≡ None → AllByRecursion Follows (record_left at c)
    stands_there (Commit txn) h =
        let none = none_holds (refusals at (Commit txn)) h in
        let both = commit_is_opened at txn none in
        let escrows = reverse (escrows_of txn at.effects) in
        each_if Follows (writes at (Commit txn)) (records.Commit txn escrows) (λ w. rw (
          eq-eqb txn.epoch (greatest rs) (current txn both.0 both.1 ∙ greatest_is),
          all_reversed (may_commit at.schema at.site rs escrows) (escrows_of txn at.effects)
              (all_granted at.schema at.base (may_commit at.schema at.site rs escrows) txn
              (λ e below. rw (
                lt-ltb e.field.0 (length at.schema.fields) below,
                le-leb (sum_by (takes e.field.0 Lower) escrows) (own_in at.schema at.site rs e.field.0 Lower)
                    (escrows_within txn both.1 e.field.0 Lower),
                le-leb (sum_by (takes e.field.0 Raise) escrows) (own_in at.schema at.site rs e.field.0 Raise)
                    (escrows_within txn both.1 e.field.0 Raise),
              ) refl)
              at.effects lawful),
        ) refl)
    stands_there (Give to field kind amount) h =
        let none = none_holds (refusals at (Give to field kind amount)) h in
        gift_stands to field kind amount
        (give_is_to_a_site at to field kind amount none)
        (give_is_in_schema at to field kind amount none)
        (give_is_to_another at to field kind amount none)
        (omega (arith, give_is_some at to field kind amount none))
        (give_is_enough at to field kind amount none)
    stands_there (Spare to field kind want) h =
        let none = none_holds (refusals at (Spare to field kind want)) h in
        gift_stands to field kind (spare_of at field kind want)
        (spare_is_to_a_site at to field kind want none)
        (spare_is_in_schema at to field kind want none)
        (spare_is_to_another at to field kind want none)
        (spared_is_some (free at field kind) want (spare_has_a_share at to field kind want none) (spare_is_some at to field kind want none))
        (spared_is_there (free at field kind) want)
    stands_there (Tighten field kind amount) h =
        let none = none_holds (refusals at (Tighten field kind amount)) h in
        let total = cut_so_far at field kind + amount in
        each_if Follows true (records.Tighten field kind total) (λ w. rw (
          lt-ltb field.0 (length at.schema.fields) (tighten_is_in_schema at field kind amount none),
          lt-ltb (cut_in rs field.0 kind) total (omega (arith, cut_is field.0 kind, tighten_is_some at field kind amount none)),
          le-leb (total - cut_in rs field.0 kind) (own_in at.schema at.site rs field.0 kind)
              (omega (arith, cut_is field.0 kind, own_is field.0 kind, tighten_is_enough at field kind amount none)),
        ) refl)
    stands_there (Accept told) h =
        let none = none_holds (refusals at (Accept told)) h in
        let f = told.field.0 in
        let old = accepted_is told.from.0 f told.kind in
        each_if Follows (writes at (Accept told)) (records.Accept told.from told.field told.kind told.total) (λ w. rw (
          other_site told.from (accept_is_from_a_site at told none) (accept_is_from_another at told none),
          lt-ltb f (length at.schema.fields) (accept_is_in_schema at told none),
          lt-ltb (accepted_in rs told.from.0 f told.kind) told.total
              (omega (arith, old, ltb-true 0 (gain_of at told.from told.field told.kind told.total) w)),
          le-leb (told.total - accepted_in rs told.from.0 f told.kind) (room_in at.schema at.site rs f)
              (omega (arith, old, own_is f Lower, own_is f Raise, cut_is f Lower, cut_is f Raise, accept_has_room at told none)),
        ) refl)
    stands_there c h = tt

-- ---- over a run

-- the record that a command leaves may stand behind those that the run has left
pub run_lawful_more : (schema : SchemaValue) (s : ℕ) (base : Base) (bs : List Record) → IsBase schema s base bs
    → (kept : Bool) (o : List Entry) (rs : List Record)
    → IsRun schema s base o → Keeps schema s base bs kept o rs → (c : Command) → first (refusals (place schema s base o) c) ≡ None
    → AllByRecursion (λ r. may_follow schema s rs r ≡ true) (record_left (place schema s base o) c)
run_lawful_more schema s base bs is kept o rs run keeps Restart h = tt
run_lawful_more schema s base bs is kept o rs run keeps c h =
    let up = up_there (place schema s base o) c refl h in
    let same = nothing_in_doubt base kept o up in
    stands_there (place schema s base o) rs
    (up_epoch schema s base bs is kept o rs keeps up)
    (λ f k. subst (λ (es : List Effect). own_rights base f k es ≡ own_in schema s rs f k) same
    (run_owns schema s base bs kept o rs is run keeps f k))
    (λ to f k. subst (λ (es : List Effect). total_given base to f k es ≡ given_in rs to f k) same
    (run_gives schema s base bs kept o rs is run keeps to f k))
    (λ f k. subst (λ (es : List Effect). cut base f k es ≡ cut_in rs f k) same (run_cuts schema s base bs kept o rs is run keeps f k))
    (λ from f k. subst (λ (es : List Effect). total_accepted base from f k es ≡ accepted_in rs from f k) same
    (run_accepts schema s base bs kept o rs is run keeps from f k))
    (run_is_lawful schema s base o run false)
    (λ id. open_is_current schema s base o run false id)
    c h
