-- The numbers of a record that a command writes lie in the ranges of its text.
use Rattle.std.proofs.Common.{◌≡◌, ℕ, ◌+◌, ◌<◌, ◌≤◌, Bool, true, false, cond, List, [], ◌∷◌, ◌++◌, reverse, length, refl, sym, subst, inl, inr, arith, Some, None}
use Rattle.std.proofs.lemmas.Bool.{or_cases, ltb-true}
use Rattle.std.proofs.lemmas.Grind.{reverse_onto}
use Rattle.std.proofs.lemmas.List.{length-reverse}
use Rattle.std.specs.Prelude.{ℤ, fold}
use Rattle.std.specs.List.{AllByRecursion}
use Rattle.field_bounds.specs.declared.id.FieldNo.{FieldNo}
use Rattle.field_bounds.specs.declared.id.TxnId.{TxnId}
use Rattle.field_bounds.specs.declared.entry.Command.{Command}
use Rattle.field_bounds.specs.declared.entry.Command.TheVariants.{Begin, Escrow, Commit, Abort, Give, Restate, Spare, Tighten, Accept, Read, Share, Restart}
use Rattle.field_bounds.specs.declared.entry.Reply.{Reply}
use Rattle.field_bounds.specs.declared.entry.Reply.TheVariants.{Restarted, Unsure, StillDown, Refused}
use Rattle.field_bounds.specs.declared.entry.Escrow.{Escrow as EscrowOf}
use Rattle.field_bounds.specs.declared.entry.Entry.{Entry}
use Rattle.field_bounds.specs.Schema.{SchemaValue}
use Rattle.field_bounds.specs.Limits.{IsSchema}
use Rattle.field_bounds.specs.declared.effect.Effect.{Effect}
use Rattle.field_bounds.specs.declared.effect.Effect.TheVariants.{Begins, Grants, Commits, Gives, Accepts}
use Rattle.field_bounds.specs.Effects.{Base, after, effects, same_txn, is_begun, escrows_of}
use Rattle.field_bounds.specs.Owed.{Place, place, first, refusals, answer, writes, epoch_of, epoch_after, count_escrows, free, spare_of, told_so_far, cut_so_far, max_number, max_epoch, max_escrows, Fits, IsRun}
use Rattle.kept_records.specs.Text.{IsChange, IsEscrow, IsRecord}
use Rattle.kept_records.specs.declared.record.Record.{Record}
use Rattle.kept_records.specs.declared.record.Record.TheVariants as records
use Rattle.kept_records.specs.Stands.{later, greatest}
use Rattle.kept_state.specs.Keeps.{record_left, base_of_records, IsCutWithin}
use Rattle.kept_state.proofs.Adding.{each_if}
use Rattle.field_bounds.proofs.Lawful.{same_txn-true}
use Rattle.field_bounds.proofs.Sparing.{spared_is_some}
use Rattle.field_bounds.proofs.Refused.{none_holds, match_cases, begin_has_a_number, escrow_is_in_schema, escrow_is_some, escrow_is_small, escrow_is_one_of_few, commit_is_opened, give_is_to_a_site, give_is_in_schema, give_is_some, give_has_room, spare_is_to_a_site, spare_is_in_schema, spare_is_some, spare_has_a_share, spare_has_room, tighten_is_in_schema, tighten_is_some, accept_is_from_a_site, accept_is_in_schema, accept_is_some, accept_is_small}
use Rattle.field_bounds.proofs.Doubt.{run_holds, epoch_answer}
use Rattle.field_bounds.proofs.Runs.{open_is_current}

-- ---- what holds of each, in either order

each_pushed : (P : EscrowOf → Type 0) (xs : List EscrowOf) (x : EscrowOf) → AllByRecursion P xs → P x → AllByRecursion P (xs ++ x ∷ [])
each_pushed P [] x h p = (p, tt)
each_pushed P (y ∷ ys) x h p = (h.0, each_pushed P ys x h.1 p)

each_reversed : (P : EscrowOf → Type 0) (xs : List EscrowOf) → AllByRecursion P xs → AllByRecursion P (reverse xs)
each_reversed P [] h = tt
each_reversed P (x ∷ xs) h = subst (λ (ys : List EscrowOf). AllByRecursion P ys) (sym (reverse_onto xs x []))
    (each_pushed P (reverse xs) x (each_reversed P xs h.1) h.0)

each_weaker : (P Q : EscrowOf → Type 0) → ((x : EscrowOf) → P x → Q x) → (xs : List EscrowOf) → AllByRecursion P xs → AllByRecursion Q xs
each_weaker P Q weaker [] h = tt
each_weaker P Q weaker (x ∷ xs) h = (weaker x h.0, each_weaker P Q weaker xs h.1)

-- ---- what a run was granted

-- an escrow on one of so many fields, with a change within the limits
abbrev IsGrantable : ℕ → EscrowOf → Type 0
IsGrantable n e = (e.field.0 < n) × IsChange e.change

-- every transaction begun has a number in the range, and no more escrows than it may, each within the limits
pub record IsRanged (n : ℕ) (es : List Effect) : Type 0 where
  pub numbers : (id : TxnId) → is_begun id es ≡ true → (0 < id.number) × (id.number ≤ max_number)
  pub few : (id : TxnId) → count_escrows id es ≤ max_escrows
  pub each : (id : TxnId) → AllByRecursion (IsGrantable n) (escrows_of id es)

one_more : (b : Bool) (e : EscrowOf) (xs : List EscrowOf) → (b ≡ true → length xs < max_escrows) → length xs ≤ max_escrows
    → length (cond b (e ∷ xs) xs) ≤ max_escrows
one_more true e xs room few = omega (arith, room refl)
one_more false e xs room few = few

each_more : (n : ℕ) (b : Bool) (e : EscrowOf) (xs : List EscrowOf) → IsGrantable n e → AllByRecursion (IsGrantable n) xs
    → AllByRecursion (IsGrantable n) (cond b (e ∷ xs) xs)
each_more n true e xs p h = (p, h)
each_more n false e xs p h = h

ranged_grant : (n : ℕ) (es : List Effect) (txn : TxnId) (field : FieldNo) (change : ℤ) → field.0 < n → IsChange change
    → count_escrows txn es < max_escrows → IsRanged n es
    → IsRanged n (Grants txn field change ∷ es)
ranged_grant n es txn field change below within room l =
    let e : EscrowOf = record { field = field; change = change } in
    record {
      numbers = l.numbers;
      few = λ id. one_more (same_txn id txn) e (escrows_of id es)
          (λ same. subst (λ (x : TxnId). count_escrows x es < max_escrows) (sym (same_txn-true id txn same)) room) (l.few id);
      each = λ id. each_more n (same_txn id txn) e (escrows_of id es) (below, within) (l.each id);
    }

ranged_begin : (n : ℕ) (es : List Effect) (txn : TxnId) → 0 < txn.number → txn.number ≤ max_number → IsRanged n es
    → IsRanged n (Begins txn ∷ es)
ranged_begin n es txn some most l =
    record {
      numbers = λ id begun.
          elim (or_cases (same_txn txn id) (is_begun id es) begun) [
            | inl same ↦ subst (λ (x : TxnId). (0 < x.number) × (x.number ≤ max_number)) (same_txn-true txn id same) (some, most)
            | inr before ↦ l.numbers id before
          ];
      few = l.few;
      each = l.each;
    }

either : (n : ℕ) (kept : Bool) (more es : List Effect) → IsRanged n more → IsRanged n es → IsRanged n (cond kept more es)
either n true more es m l = m
either n false more es m l = l

carried : (at : Place) (n : ℕ) → n ≡ length at.schema.fields → (c : Command) → first (refusals at c) ≡ None → (kept : Bool)
    → IsRanged n at.effects
    → IsRanged n (after at.base kept c (answer at c) at.effects) × IsRanged n (after at.base kept c Unsure at.effects)
carried at n is Begin h kept l =
    let none = none_holds (refusals at Begin) h in
    let room = begin_has_a_number at none in
    (ranged_begin n at.effects _ (omega arith) (omega (arith, room)) l, l)
carried at n is (Escrow txn field change) h kept l =
    let none = none_holds (refusals at (Escrow txn field change)) h in
    let known = escrow_is_in_schema at txn field change none in
    let some = escrow_is_some at txn field change none in
    let most = escrow_is_small at txn field change none in
    let room = escrow_is_one_of_few at txn field change none in
    (ranged_grant n at.effects txn field change (omega (arith, is, known)) (omega (arith, some), most) room l, l)
carried at n is (Commit txn) h kept l =
    let made : IsRanged n (Commits txn ∷ at.effects) = record { numbers = l.numbers; few = l.few; each = l.each } in
    (made, either n kept _ _ made l)
carried at n is (Abort txn) h kept l = (record { numbers = l.numbers; few = l.few; each = l.each }, l)
carried at n is (Give to field kind amount) h kept l =
    let made : IsRanged n (Gives (Some to) field kind amount ∷ at.effects) = record { numbers = l.numbers; few = l.few; each = l.each } in
    (made, either n kept _ _ made l)
carried at n is (Restate to field kind) h kept l = (l, l)
carried at n is (Spare to field kind want) h kept l =
    let made : IsRanged n (Gives (Some to) field kind (spare_of at field kind want) ∷ at.effects) =
    record { numbers = l.numbers; few = l.few; each = l.each } in
    (made, either n kept _ _ made l)
carried at n is (Tighten field kind amount) h kept l =
    let made : IsRanged n (Gives None field kind amount ∷ at.effects) = record { numbers = l.numbers; few = l.few; each = l.each } in
    (made, either n kept _ _ made l)
carried at n is (Accept told) h kept l =
    let made : IsRanged n (Accepts told.from told.field told.kind told.total ∷ at.effects) =
    record { numbers = l.numbers; few = l.few; each = l.each } in
    (made, either n kept _ _ made l)
carried at n is (Read field) h kept l = (l, l)
carried at n is (Share field) h kept l = (l, l)
carried at n is Restart h kept l = (l, l)

pub run_is_ranged : (schema : SchemaValue) (s : ℕ) (base : Base) (o : List Entry) → IsRun schema s base o → (kept : Bool)
    → IsRanged (length schema.fields) (effects base kept o)
run_is_ranged schema s base o run kept =
    run_holds schema s base (λ epoch count es. IsRanged (length schema.fields) es)
    (record {
      start = record { numbers = λ id h. cc; few = λ id. omega arith; each = λ id. tt };
      stop = λ n count m es later l. record { numbers = l.numbers; few = l.few; each = l.each };
      carried = λ o c h kept l. carried (place schema s base o) (length schema.fields) refl c h kept l;
    }) o run kept

-- ---- epochs

epoch_step : (at : Place) (n : ℕ) (c : Command) (r : Reply) → Fits at c r → n ≤ max_epoch → epoch_after n r ≤ max_epoch
epoch_step at n Restart (Restarted epoch found) fits h = fits.2
epoch_step at n Restart StillDown fits h = h
epoch_step at n Restart (Refused x) fits h = h
epoch_step at n Restart r fits h = absurd fits
epoch_step at n c r fits h =
    elim (match_cases (first (refusals at c)) _ _ fits) [
      | inl refused ↦ subst (λ (x : Reply). epoch_after n x ≤ max_epoch) (sym refused.2) h
      | inr met ↦ elim met.1 [
        | inl answered ↦ subst (λ (x : Reply). epoch_after n x ≤ max_epoch) (sym answered) (omega (arith, epoch_answer at c n, h))
        | inr unsure ↦ subst (λ (x : Reply). epoch_after n x ≤ max_epoch) (sym unsure.0) h
      ]
    ]

-- a run's epoch is in the range, if its base's is
pub epoch_in_range : (schema : SchemaValue) (s : ℕ) (base : Base) (o : List Entry) → IsRun schema s base o → base.epoch ≤ max_epoch
    → epoch_of base o ≤ max_epoch
epoch_in_range schema s base [] run h = h
epoch_in_range schema s base (e ∷ o) run h = epoch_step (place schema s base o) (epoch_of base o) e.command e.reply run.1
    (epoch_in_range schema s base o run.0 h)

-- ---- epochs of records

later_in_range : (n : ℕ) (r : Record) → IsRecord r → n ≤ max_epoch → later n r ≤ max_epoch
later_in_range n (records.Restart epoch) is h = omega (arith, is, h)
later_in_range n r is h = h

fold_in_range : (n : ℕ) (rs : List Record) → AllByRecursion IsRecord rs → n ≤ max_epoch → fold later n rs ≤ max_epoch
fold_in_range n [] is h = h
fold_in_range n (r ∷ rs) is h = fold_in_range (later n r) rs is.1 (later_in_range n r is.0 h)

-- the greatest epoch of records in the ranges of their texts
pub greatest_in_range : (rs : List Record) → AllByRecursion IsRecord rs → greatest rs ≤ max_epoch
unfolding greatest
greatest_in_range rs is = fold_in_range 0 rs is (omega arith)

-- so a site's base is in the range
pub opened_in_range : (schema : SchemaValue) (s : ℕ) (empty : Bool) (bs : List Record) → AllByRecursion IsRecord bs
    → (base_of_records schema s empty bs).epoch ≤ max_epoch
opened_in_range schema s true bs is = omega arith
opened_in_range schema s false bs is = greatest_in_range bs is

-- ---- records

-- the record that a command leaves is in the ranges of its text
pub record_in_range : (schema : SchemaValue) (s : ℕ) (base : Base) (o : List Entry) → IsSchema schema → IsRun schema s base o
    → base.epoch ≤ max_epoch → (c : Command)
    → IsCutWithin (place schema s base o) c → first (refusals (place schema s base o) c) ≡ None
    → AllByRecursion IsRecord (record_left (place schema s base o) c)
record_in_range schema s base o limits run small (Commit txn) few h =
    let at = place schema s base o in
    let none = none_holds (refusals at (Commit txn)) h in
    let both = commit_is_opened at txn none in
    let ranged = run_is_ranged schema s base o run false in
    let number = ranged.numbers txn both.0 in
    let same = length-reverse (escrows_of txn at.effects) in
    each_if IsRecord (writes at (Commit txn)) (records.Commit txn (reverse (escrows_of txn at.effects))) (λ w. (
      omega (arith, open_is_current schema s base o run false txn both.0 both.1, epoch_in_range schema s base o run small),
      number.0,
      number.1,
      omega (arith, same, ltb-true 0 (count_escrows txn at.effects) w),
      omega (arith, same, ranged.few txn),
      each_reversed IsEscrow (escrows_of txn at.effects)
          (each_weaker (IsGrantable (length schema.fields)) IsEscrow (λ e p. (omega (arith, p.0, limits.few_fields), p.1))
          (escrows_of txn at.effects) (ranged.each txn)),
    ))
record_in_range schema s base o limits run small (Give to field kind amount) few h =
    let at = place schema s base o in
    let none = none_holds (refusals at (Give to field kind amount)) h in
    each_if IsRecord true (records.Gift to field kind (told_so_far at to field kind + amount)) (λ w. (
      omega (arith, limits.few_sites, give_is_to_a_site at to field kind amount none),
      omega (arith, limits.few_fields, give_is_in_schema at to field kind amount none),
      (omega (arith, give_is_some at to field kind amount none), give_has_room at to field kind amount none),
    ))
record_in_range schema s base o limits run small (Spare to field kind want) few h =
    let at = place schema s base o in
    let none = none_holds (refusals at (Spare to field kind want)) h in
    let some = spared_is_some (free at field kind) want (spare_has_a_share at to field kind want none)
    (spare_is_some at to field kind want none) in
    each_if IsRecord true (records.Gift to field kind (told_so_far at to field kind + spare_of at field kind want)) (λ w. (
      omega (arith, limits.few_sites, spare_is_to_a_site at to field kind want none),
      omega (arith, limits.few_fields, spare_is_in_schema at to field kind want none),
      (omega (arith, some), spare_has_room at to field kind want none),
    ))
record_in_range schema s base o limits run small (Tighten field kind amount) few h =
    let at = place schema s base o in
    let none = none_holds (refusals at (Tighten field kind amount)) h in
    each_if IsRecord true (records.Tighten field kind (cut_so_far at field kind + amount)) (λ w. (
      omega (arith, limits.few_fields, tighten_is_in_schema at field kind amount none),
      (omega (arith, tighten_is_some at field kind amount none), few field kind amount refl),
    ))
record_in_range schema s base o limits run small (Accept told) few h =
    let at = place schema s base o in
    let none = none_holds (refusals at (Accept told)) h in
    each_if IsRecord (writes at (Accept told)) (records.Accept told.from told.field told.kind told.total) (λ w. (
      omega (arith, limits.few_sites, accept_is_from_a_site at told none),
      omega (arith, limits.few_fields, accept_is_in_schema at told none),
      (omega (arith, accept_is_some at told none), accept_is_small at told none),
    ))
record_in_range schema s base o limits run small c few h = tt
