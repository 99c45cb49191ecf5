-- What took effect in a run was allowed, whatever is said of what is in doubt.
use Rattle.std.proofs.Common.{◌≡◌, ℕ, ◌+◌, ◌<◌, ◌≤◌, Bool, true, false, cond, Some, None, List, ◌∷◌, refl, sym, ap, inl, inr, arith}
use Rattle.std.proofs.lemmas.Bool.{cases_Bool, or_cases, or_parts}
use Rattle.field_bounds.specs.declared.id.TxnId.{TxnId}
use Rattle.field_bounds.specs.declared.entry.Command.{Command}
use Rattle.field_bounds.specs.declared.entry.Command.TheVariants.{Begin, Escrow, Commit, Abort, Give, Restate, Spare, Tighten, Accept, Read, Share, Restart}
use Rattle.field_bounds.specs.declared.entry.Reply.TheVariants.{Unsure}
use Rattle.field_bounds.specs.declared.entry.Entry.{Entry}
use Rattle.field_bounds.specs.declared.effect.Effect.{Effect}
use Rattle.field_bounds.specs.declared.effect.Effect.TheVariants.{Begins, Grants, Commits, Aborts, Gives, Accepts, Stops}
use Rattle.field_bounds.specs.Schema.{SchemaValue}
use Rattle.field_bounds.specs.Effects.{Base, same_txn, is_begun, is_committed, is_dropped, is_open, after, effects}
use Rattle.field_bounds.specs.Owed.{Place, place, refusals, first, answer, free, spare_of, epoch_of, count_since, count_after, is_begun_reply, IsRun}
use Rattle.field_bounds.proofs.Lawful.{IsLawful, same_txn-true, open_parts}
use Rattle.field_bounds.proofs.Refused.{none_holds, escrow_is_in_schema, escrow_is_opened, escrow_is_enough, commit_is_opened, abort_is_opened, give_is_to_a_site, give_is_in_schema, give_is_enough, spare_is_to_a_site, spare_is_in_schema, tighten_is_in_schema, tighten_is_enough, accept_is_from_a_site, accept_is_in_schema}
use Rattle.field_bounds.proofs.Sparing.{spared_is_there}
use Rattle.field_bounds.proofs.Doubt.{run_holds}

-- every transaction begun so far stands in this epoch or an earlier one; in this one it has a number given out, and in an
-- earlier one it was dropped
pub record IsNumbered (epoch count : ℕ) (es : List Effect) : Type 0 where
  pub epochs : (id : TxnId) → is_begun id es ≡ true → id.epoch ≤ epoch
  pub numbers : (id : TxnId) → is_begun id es ≡ true → id.epoch ≡ epoch → id.number ≤ count
  pub current : (id : TxnId) → is_begun id es ≡ true → is_dropped id es ≡ false → id.epoch ≡ epoch

numbered_more : (epoch few many : ℕ) (es : List Effect) → few ≤ many → IsNumbered epoch few es → IsNumbered epoch many es
numbered_more epoch few many es le numbered =
    record {
      epochs = numbered.epochs;
      numbers = λ id begun same. omega (arith, numbered.numbers id begun same);
      current =
          numbered.current;
    }

abbrev pub next_id : ℕ → ℕ → TxnId
next_id epoch count = record { epoch = epoch; number = count + 1 }

-- the id that is given out next was never begun
pub next_is_new : (epoch count : ℕ) (es : List Effect) → IsNumbered epoch count es → is_begun (next_id epoch count) es ≡ false
next_is_new epoch count es numbered =
    elim (cases_Bool (is_begun (next_id epoch count) es)) [
      | inl begun ↦ absurd (let le = numbered.numbers (next_id epoch count) begun refl in omega (arith, le))
      | inr new ↦ new
    ]

numbered_begin : (epoch count : ℕ) (es : List Effect) → IsNumbered epoch count es
    → IsNumbered epoch (count + 1) (Begins (next_id epoch count) ∷ es)
numbered_begin epoch count es numbered =
    record {
      epochs = λ id begun.
          elim (or_cases (same_txn (next_id epoch count) id) (is_begun id es) begun) [
            | inl same ↦ let e : epoch ≡ id.epoch = ap (λ (t : TxnId). t.epoch) (same_txn-true (next_id epoch count) id same) in
                omega (arith, e)
            | inr before ↦ numbered.epochs id before
          ];
      numbers = λ id begun here.
          elim (or_cases (same_txn (next_id epoch count) id) (is_begun id es) begun) [
            | inl same ↦ let n : count + 1 ≡ id.number = ap (λ (t : TxnId). t.number) (same_txn-true (next_id epoch count) id same) in
                omega (arith, n)
            | inr before ↦ omega (arith, numbered.numbers id before here)
          ];
      current = λ id begun undropped.
          elim (or_cases (same_txn (next_id epoch count) id) (is_begun id es) begun) [
            | inl same ↦ ap (λ (t : TxnId). t.epoch) (sym (same_txn-true (next_id epoch count) id same))
            | inr before ↦ numbered.current id before undropped
          ];
    }

numbered_abort : (epoch count : ℕ) (txn : TxnId) (es : List Effect) → IsNumbered epoch count es → IsNumbered epoch count (Aborts txn ∷ es)
numbered_abort epoch count txn es numbered =
    record {
      epochs = numbered.epochs;
      numbers = numbered.numbers;
      current = λ id begun undropped. numbered.current id begun (or_parts (same_txn txn id) (is_dropped id es) undropped).1;
    }

numbered_stop : (n count m : ℕ) (es : List Effect) → n < m → IsNumbered n count es → IsNumbered m 0 (Stops ∷ es)
numbered_stop n count m es later numbered =
    record {
      epochs = λ id begun. omega (arith, later, numbered.epochs id begun);
      numbers = λ id begun same. absurd (omega (arith, later, same, numbered.epochs id begun));
      current = λ id begun undropped. let not_begun : is_begun id es ≡ false = (or_parts (is_begun id es) (is_dropped id es) undropped).0 in
          cc;
    }

-- what holds of the effects of a run
pub record Stands (schema : SchemaValue) (base : Base) (epoch count : ℕ) (es : List Effect) : Type 0 where
  pub numbered : IsNumbered epoch count es
  pub lawful : IsLawful schema base es

module _ (schema : SchemaValue) (s : ℕ) (base : Base) (o : List Entry) where
  abbrev es : List Effect
  es = effects base false o

  abbrev at : Place
  at = place schema s base o

  abbrev epoch : ℕ
  epoch = epoch_of base o

  abbrev count : ℕ
  count = count_since is_begun_reply o

  abbrev Now : ℕ → List Effect → Type 0
  Now n now = Stands schema base epoch n now

  abbrev Carries : Bool → Command → Type 0
  Carries kept c = Now (count_after is_begun_reply count (answer at c)) (after base kept c (answer at c) es)
      × Now count (after base kept c Unsure es)

  -- no transaction was begun
  still : (now : List Effect) → Now count now → Now (0 + count) now
  still now l = record { numbered = numbered_more epoch count (0 + count) now (omega arith) l.numbered; lawful = l.lawful }

  either : (kept : Bool) (more : List Effect) → Now count more → Now count es → Now count (cond kept more es)
  either true more m l = m
  either false more m l = l

  -- what is answered may take effect, and so may what is in doubt
  carries : (c : Command) → first (refusals at c) ≡ None → (kept : Bool) → Now count es → Carries kept c
  carries Begin h kept l =
      let begun = numbered_more epoch (count + 1) (1 + count) (Begins (next_id epoch count) ∷ es) (omega arith)
      (numbered_begin epoch count es l.numbered) in
      (record { numbered = begun; lawful = (l.lawful, next_is_new epoch count es l.numbered) }, l)
  carries (Escrow txn field change) h kept l =
      let none = none_holds (refusals at (Escrow txn field change)) h in
      let both = escrow_is_opened at txn field change none in
      let may : Now count (Grants txn field change ∷ es) =
      record {
        numbered = record { epochs = l.numbered.epochs; numbers = l.numbered.numbers; current = l.numbered.current };
        lawful = (
          l.lawful,
          record {
            in_schema = escrow_is_in_schema at txn field change none;
            enough =
                escrow_is_enough at txn field change none;
            begun = both.0;
            opened = both.1;
          },
        );
      } in
      (still (Grants txn field change ∷ es) may, l)
  carries (Commit txn) h kept l =
      let both = commit_is_opened at txn (none_holds (refusals at (Commit txn)) h) in
      let may : Now count (Commits txn ∷ es) =
      record {
        numbered = record { epochs = l.numbered.epochs; numbers = l.numbered.numbers; current = l.numbered.current };
        lawful =
            (l.lawful, both);
      } in
      (still (Commits txn ∷ es) may, either kept (Commits txn ∷ es) may l)
  carries (Abort txn) h kept l =
      let both = abort_is_opened at txn (none_holds (refusals at (Abort txn)) h) in
      (still (Aborts txn ∷ es) (record { numbered = numbered_abort epoch count txn es l.numbered; lawful = (l.lawful, both) }), l)
  carries (Give to field kind amount) h kept l =
      let none = none_holds (refusals at (Give to field kind amount)) h in
      let more : List Effect = Gives (Some to) field kind amount ∷ es in
      let may : Now count more =
      record {
        numbered = record { epochs = l.numbered.epochs; numbers = l.numbered.numbers; current = l.numbered.current };
        lawful = (
          l.lawful,
          record {
            to_site = give_is_to_a_site at to field kind amount none;
            in_schema =
                give_is_in_schema at to field kind amount none;
            enough = give_is_enough at to field kind amount none;
          },
        );
      } in
      (still more may, either kept more may l)
  carries (Restate to field kind) h kept l = (still es l, l)
  carries (Spare to field kind want) h kept l =
      let none = none_holds (refusals at (Spare to field kind want)) h in
      let more : List Effect = Gives (Some to) field kind (spare_of at field kind want) ∷ es in
      let may : Now count more =
      record {
        numbered = record { epochs = l.numbered.epochs; numbers = l.numbered.numbers; current = l.numbered.current };
        lawful = (
          l.lawful,
          record {
            to_site = spare_is_to_a_site at to field kind want none;
            in_schema =
                spare_is_in_schema at to field kind want none;
            enough = spared_is_there (free at field kind) want;
          },
        );
      } in
      (still more may, either kept more may l)
  carries (Tighten field kind amount) h kept l =
      let none = none_holds (refusals at (Tighten field kind amount)) h in
      let more : List Effect = Gives None field kind amount ∷ es in
      let may : Now count more =
      record {
        numbered = record { epochs = l.numbered.epochs; numbers = l.numbered.numbers; current = l.numbered.current };
        lawful = (
          l.lawful,
          record {
            to_site = tt;
            in_schema = tighten_is_in_schema at field kind amount none;
            enough =
                tighten_is_enough at field kind amount none;
          },
        );
      } in
      (still more may, either kept more may l)
  carries (Accept told) h kept l =
      let none = none_holds (refusals at (Accept told)) h in
      let more : List Effect = Accepts told.from told.field told.kind told.total ∷ es in
      let may : Now count more =
      record {
        numbered = record { epochs = l.numbered.epochs; numbers = l.numbered.numbers; current = l.numbered.current };
        lawful = (l.lawful, record { from_site = accept_is_from_a_site at told none; in_schema = accept_is_in_schema at told none });
      } in
      (still more may, either kept more may l)
  carries (Read field) h kept l = (still es l, l)
  carries (Share field) h kept l = (still es l, l)
  carries Restart h kept l = (still es l, l)

-- what a run leaves, whatever is kept
pub run_stands : (schema : SchemaValue) (s : ℕ) (base : Base) (o : List Entry) → IsRun schema s base o → (kept : Bool)
    → Stands schema base (epoch_of base o) (count_since is_begun_reply o) (effects base kept o)
run_stands schema s base o run kept =
    run_holds schema s base (Stands schema base)
    (record {
      start = record { numbered = record { epochs = λ id h. cc; numbers = λ id h. cc; current = λ id h. cc }; lawful = tt };
      stop = λ n count m es later l. record { numbered = numbered_stop n count m es later l.numbered; lawful = (l.lawful, tt) };
      carried = λ o c h kept l. carries schema s base o c h kept l;
    }) o run kept

-- the same, where what is in doubt is lost
pub record Ran (schema : SchemaValue) (base : Base) (o : List Entry) : Type 0 where
  pub numbered : IsNumbered (epoch_of base o) (count_since is_begun_reply o) (effects base false o)
  pub lawful : IsLawful schema base (effects base false o)

pub run_leaves : (schema : SchemaValue) (s : ℕ) (base : Base) (o : List Entry) → IsRun schema s base o → Ran schema base o
run_leaves schema s base o run =
    let l = run_stands schema s base o run false in
    record { numbered = l.numbered; lawful = l.lawful }

pub run_is_lawful : (schema : SchemaValue) (s : ℕ) (base : Base) (o : List Entry) → IsRun schema s base o → (kept : Bool)
    → IsLawful schema base (effects base kept o)
run_is_lawful schema s base o run kept = (run_stands schema s base o run kept).lawful

-- an open transaction is of the site's epoch
pub open_is_current : (schema : SchemaValue) (s : ℕ) (base : Base) (o : List Entry) → IsRun schema s base o → (kept : Bool) (id : TxnId)
    → is_begun id (effects base kept o) ≡ true → is_open id (effects base kept o) ≡ true → id.epoch ≡ epoch_of base o
open_is_current schema s base o run kept id begun opened =
    let all = effects base kept o in
    (run_stands schema s base o run kept).numbered.current id begun (open_parts (is_committed id all) (is_dropped id all) opened).1

-- the id that the next begin is answered was never begun
pub begun_is_new : (schema : SchemaValue) (s : ℕ) (base : Base) (o : List Entry) → IsRun schema s base o → (kept : Bool)
    → is_begun (next_id (epoch_of base o) (count_since is_begun_reply o)) (effects base kept o) ≡ false
begun_is_new schema s base o run kept =
    next_is_new (epoch_of base o) (count_since is_begun_reply o) (effects base kept o) (run_stands schema s base o run kept).numbered
