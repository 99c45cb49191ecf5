-- What one more entry does to what a site that is up stands on in memory.
use Rattle.std.proofs.Common.{◌≡◌, ℕ, ◌+◌, ◌<◌, ◌≤◌, Bool, true, false, ◌&&◌, List, [], ◌∷◌, ◌++◌, length, reverse, refl, sym, ap, subst, ◌∙◌, arith, None}
use Rattle.std.specs.Prelude.{◌==◌, unsigned_abs, sum_by}
use Rattle.std.specs.List.{list_all, AllByRecursion}
use Rattle.std.proofs.lemmas.Bool.{eqb-true, and_parts, lt-ltb}
use Rattle.std.proofs.lemmas.List.{length-reverse}
use Rattle.field_bounds.specs.declared.id.SiteNo.{SiteNo}
use Rattle.field_bounds.specs.declared.id.FieldNo.{FieldNo}
use Rattle.field_bounds.specs.declared.id.TxnId.{TxnId}
use Rattle.field_bounds.specs.declared.kind.Kind.{Kind}
use Rattle.field_bounds.specs.declared.entry.Escrow.{Escrow}
use Rattle.field_bounds.specs.declared.entry.Entry.{Entry}
use Rattle.field_bounds.specs.declared.entry.Command.{Command}
use Rattle.field_bounds.specs.declared.entry.Command.TheVariants.{Begin, Escrow as Ask, Commit, Abort, Give, Restate, Spare, Tighten, Accept, Read, Share, Restart}
use Rattle.field_bounds.specs.declared.entry.Reply.TheVariants.{Begun, Granted, Refused}
use Rattle.field_bounds.specs.declared.entry.Refusal.{Refusal}
use Rattle.field_bounds.specs.Kind.{kind_of}
use Rattle.field_bounds.specs.Schema.{SchemaValue}
use Rattle.field_bounds.specs.declared.effect.Effect.{Effect}
use Rattle.field_bounds.specs.Effects.{Base, effects, is_begun, is_open, escrows_of, takes}
use Rattle.field_bounds.specs.Owed.{Place, place, refusals, first, answer, epoch_of, count_since, is_begun_reply, max_open, max_escrows, writes, free, told_so_far, spare_of, cut_so_far, IsRun}
use Rattle.field_bounds.proofs.Refused.{none_holds, begin_is_one_of_few, escrow_is_in_schema, escrow_is_opened, escrow_is_enough, escrow_is_one_of_few, commit_is_opened, abort_is_opened, give_is_in_schema, give_is_enough, spare_is_in_schema, tighten_is_in_schema, tighten_is_enough}
use Rattle.field_bounds.proofs.Sparing.{spared_is_there}
use Rattle.field_bounds.proofs.Doubt.{after_refused}
use Rattle.field_bounds.proofs.Runs.{Ran, run_leaves, next_is_new}
use Rattle.site_rights.specs.declared.field_rights.FieldRights.{FieldRights}
use Rattle.site_rights.specs.declared.field_rights.Outcome.{Outcome}
use Rattle.site_rights.specs.declared.field_rights.Outcome.TheVariants.{Committed, Aborted}
use Rattle.site_rights.specs.Rights.{free_at, after_take, ending, by_escrow, by_escrows, AreInRange, AreHeld}
use Rattle.site_rights.proofs.RightsLaws.{length-by_escrow, length-by_escrows, free_at-taken, held_at-taken, free_at-by_escrows, held_at-by_escrows, taken_keeps_cut, ending_keeps_cut, cut_at-field, cut_at-by_escrows, taken_keeps, ending_keeps, width_at-field, width_at-by_escrows}
use Rattle.escrow_journal.specs.Journal.{Row, is_listed, escrows_at, rows_with as add_escrow, without}
use Rattle.gift_ledger.specs.Ledger.{LedgerValue}
use Rattle.kept_records.specs.declared.record.Record.{Record}
use Rattle.kept_records.specs.declared.record.Record.TheVariants as records
use Rattle.kept_records.specs.Stands.{greatest, is_field, is_other_site, may_commit, may_follow, Lawful}
use Rattle.kept_state.specs.Keeps.{record_left}
use Rattle.kept_state.proofs.Adding.{each_if}
use Rattle.log_replay.specs.Standing.{Stands, TakesIn}
use Rattle.kept_records.proofs.Covering.{gift_parts, accept_parts, tighten_parts}
use Rattle.log_replay.proofs.StandingLaws.{has_places, here_only, four_first, is_other, commit_on_fields, room_is}
use Rattle.site_step.specs.declared.accounts.SiteAccounts.{SiteAccounts}
use Rattle.site_step.specs.Site.{end_command}
use Rattle.site_step.specs.State.{SetsAside, StandsOn, with_rights, after_release, after_settling, before_taking_in, CanClose, CanSettle, CanCarry, is_carried}
use Rattle.site_step.proofs.Reading.{Reads}
use Rattle.site_step.proofs.Matching.{ended, aside_begin, aside_grant, aside_end, are_in_range, are_held, length-journal_of, stands-journal_of, escrows_at-journal_of}

pub both_true : (a b : Bool) → a ≡ true → b ≡ true → (a && b) ≡ true
both_true a b x y = rw (x, y) refl

module _ (schema : SchemaValue) (s : ℕ) (base : Base) (o : List Entry) (a : SiteAccounts) (run : IsRun schema s base o)
    (was : Reads schema s base o a) where
  abbrev es : List Effect
  es = effects base false o

  abbrev at : Place
  at = place schema s base o

  abbrev rows : List FieldRights
  rows = a.standing.rights

  abbrev journal : List Row
  journal = a.journal

  abbrev ledger : LedgerValue
  ledger = a.standing.ledger

  ran : Ran schema base o
  ran = run_leaves schema s base o run

  abbrev pub next : TxnId
  next = record { epoch = a.standing.epoch; number = a.last + 1 }

  pub next_is : ◌≡◌ {A = TxnId} next (record { epoch = epoch_of base o; number = count_since is_begun_reply o + 1 })
  next_is = rw (was.epoch, was.last) refl

  next_new : is_begun next es ≡ false
  next_new = subst (λ (t : TxnId). is_begun t es ≡ false) (sym next_is)
      (next_is_new (epoch_of base o) (count_since is_begun_reply o) es ran.numbered)

  pub next_is_closed : is_listed next journal ≡ false
  next_is_closed = ap (is_listed next) was.matches.journal ∙ stands-journal_of next es ∙ ap (λ b. b && is_open next es) next_new

  -- what the ladder tells of a begin that isn't refused
  pub room_by : first (refusals at Begin) ≡ None → length journal < max_open
  room_by none =
      omega (arith, ap length was.matches.journal, length-journal_of es, begin_is_one_of_few at (none_holds (refusals at Begin) none))

  -- what the ladder tells of an escrow that isn't refused
  pub opened_by : (txn : TxnId) (e : Escrow) → first (refusals at (Ask txn e.field e.change)) ≡ None → (is_begun txn es ≡ true)
      × (is_open txn es ≡ true)
  opened_by txn e none = escrow_is_opened at txn e.field e.change (none_holds (refusals at (Ask txn e.field e.change)) none)

  pub in_range_by : (txn : TxnId) (e : Escrow) → first (refusals at (Ask txn e.field e.change)) ≡ None → e.field.0 < length rows
  in_range_by txn e none = omega (
    arith,
    was.matches.count,
    escrow_is_in_schema at txn e.field e.change (none_holds (refusals at (Ask txn e.field e.change)) none),
  )

  pub enough_by : (txn : TxnId) (e : Escrow) → first (refusals at (Ask txn e.field e.change)) ≡ None
      → unsigned_abs e.change ≤ free_at rows e.field.0 (kind_of e.change)
  enough_by txn e none =
      omega (
        arith,
        was.matches.free e.field.0 (kind_of e.change) (in_range_by txn e none),
        escrow_is_enough at txn e.field e.change (none_holds (refusals at (Ask txn e.field e.change)) none),
      )

  pub stands_open : (txn : TxnId) → (is_begun txn es ≡ true) × (is_open txn es ≡ true) → is_listed txn journal ≡ true
  stands_open txn both = ap (is_listed txn) was.matches.journal ∙ stands-journal_of txn es
      ∙ both_true (is_begun txn es) (is_open txn es) both.0 both.1

  pub escrows_are : (txn : TxnId) → (is_begun txn es ≡ true) × (is_open txn es ≡ true)
      → escrows_at txn journal ≡ reverse (escrows_of txn es)
  escrows_are txn both = ap (escrows_at txn) was.matches.journal
      ∙ escrows_at-journal_of txn es (both_true (is_begun txn es) (is_open txn es) both.0 both.1)

  pub few_by : (txn : TxnId) (e : Escrow) → first (refusals at (Ask txn e.field e.change)) ≡ None
      → length (escrows_at txn journal) < max_escrows
  few_by txn e none =
      omega (
        arith,
        ap length (escrows_are txn (opened_by txn e none)),
        length-reverse (escrows_of txn es),
        escrow_is_one_of_few at txn e.field e.change (none_holds (refusals at (Ask txn e.field e.change)) none),
      )

  -- ---- ends

  pub can_close : (txn : TxnId) → (is_begun txn es ≡ true) × (is_open txn es ≡ true) → CanClose a txn
  can_close txn both =
      let gone = sym (escrows_are txn both) in
      record {
        opened = stands_open txn both;
        in_range = subst (λ (xs : List Escrow). AreInRange rows xs) gone
            (are_in_range schema base es ran.lawful rows journal was.matches txn);
        are_held = subst (λ (xs : List Escrow). AreHeld rows xs) gone
            (are_held schema base es ran.lawful rows journal was.matches txn both.1);
      }

  -- what the ladder tells of an end that isn't refused
  pub end_opened : (outcome : Outcome) (txn : TxnId) → first (refusals at (end_command outcome txn)) ≡ None → (is_begun txn es ≡ true)
      × (is_open txn es ≡ true)
  end_opened Committed txn none = commit_is_opened at txn (none_holds (refusals at (Commit txn)) none)
  end_opened Aborted txn none = abort_is_opened at txn (none_holds (refusals at (Abort txn)) none)

  pub can_settle : (c : Command) → first (refusals at c) ≡ None → CanSettle a c
  can_settle (Commit txn) none = can_close txn (end_opened Committed txn none)
  can_settle (Abort txn) none = can_close txn (end_opened Aborted txn none)
  can_settle c none = tt

  -- what the ladder tells of a gift that isn't refused
  give_enough : (to : SiteNo) (field : FieldNo) (kind : Kind) (amount : ℕ) → first (refusals at (Give to field kind amount)) ≡ None
      → amount ≤ free_at rows field.0 kind
  give_enough to field kind amount refused =
      let none = none_holds (refusals at (Give to field kind amount)) refused in
      omega (
        arith,
        was.matches.free field.0 kind (omega (arith, give_is_in_schema at to field kind amount none, was.matches.count)),
        give_is_enough at to field kind amount none,
      )

  -- and of a spare
  spare_enough : (to : SiteNo) (field : FieldNo) (kind : Kind) (want : ℕ) → first (refusals at (Spare to field kind want)) ≡ None
      → spare_of at field kind want ≤ free_at rows field.0 kind
  spare_enough to field kind want refused =
      let none = none_holds (refusals at (Spare to field kind want)) refused in
      omega (
        arith,
        was.matches.free field.0 kind (omega (arith, spare_is_in_schema at to field kind want none, was.matches.count)),
        spared_is_there (free at field kind) want,
      )

  -- and of a tightening
  tighten_enough : (field : FieldNo) (kind : Kind) (amount : ℕ) → first (refusals at (Tighten field kind amount)) ≡ None
      → amount ≤ free_at rows field.0 kind
  tighten_enough field kind amount refused =
      let none = none_holds (refusals at (Tighten field kind amount)) refused in
      omega (
        arith,
        was.matches.free field.0 kind (omega (arith, tighten_is_in_schema at field kind amount none, was.matches.count)),
        tighten_is_enough at field kind amount none,
      )

  -- ---- what is kept and what is set aside

  module _ (rs : List Record) (st : StandsOn schema s base o rs a) where
    abbrev last : ℕ
    last = a.last

    pub stands_begin : (n : SiteNo) → StandsOn schema s base (record { site = n; command = Begin; reply = Begun next } ∷ o) rs
        (record a { journal = journal ++ (next, []) ∷ []; last = a.last + 1 })
    stands_begin n =
        record {
          standing = st.standing;
          aside = aside_begin schema base es ran.lawful rows journal was.matches next next_new;
          last =
              omega (arith, st.last);
        }

    pub stands_grant : (n : SiteNo) (txn : TxnId) (e : Escrow) → first (refusals at (Ask txn e.field e.change)) ≡ None
        → StandsOn schema s base (record { site = n; command = Ask txn e.field e.change; reply = Granted } ∷ o) rs
        (record (with_rights (by_escrow after_take rows e) a) { journal = add_escrow txn e journal })
    stands_grant n txn e none =
        let range = in_range_by txn e none in
        let same = length-by_escrow after_take rows e in
        record {
          standing = record {
            count = same ∙ st.standing.count;
            width = λ f l. width_at-field after_take taken_keeps rows e.field.0 f (kind_of e.change) (unsigned_abs e.change) range
                ∙ st.standing.width f (omega (arith, l, same));
            own = λ f k l.
                omega (
                  arith,
                  free_at-taken rows e f k range,
                  held_at-taken rows e f k range,
                  here_only (λ x y. free_at rows x y) e.field.0 f (kind_of e.change) k (unsigned_abs e.change) (enough_by txn e none),
                  st.standing.own f k (omega (arith, l, same)),
                );
            cut = λ f k l. cut_at-field after_take taken_keeps_cut rows e.field.0 f (kind_of e.change) k (unsigned_abs e.change) range
                ∙ st.standing.cut f k (omega (arith, l, same));
            place = st.standing.place;
            given = st.standing.given;
            accepted = st.standing.accepted;
            site = st.standing.site;
            epoch = st.standing.epoch;
          };
          aside = aside_grant schema base es ran.lawful rows journal was.matches txn e range (opened_by txn e none).1;
          last = omega (arith, st.last);
        }

    -- a transaction released: what it held is free, so what is owned stays
    pub stands_released : (txn : TxnId) → (is_begun txn es ≡ true) × (is_open txn es ≡ true)
        → Stands schema s rs (after_release txn a).standing
    stands_released txn both =
        let can = can_close txn both in
        let gone = escrows_at txn journal in
        let same = length-by_escrows (ending Aborted) rows gone in
        record {
          count = same ∙ st.standing.count;
          width = λ f l. width_at-by_escrows (ending Aborted) (ending_keeps Aborted) rows gone can.in_range f
              ∙ st.standing.width f (omega (arith, l, same));
          own = λ f k l.
              let l' : f < length rows = omega (arith, l, same) in
              omega (
                arith,
                free_at-by_escrows Aborted rows gone can.in_range f k,
                held_at-by_escrows Aborted rows gone can.in_range can.are_held f k l',
                can.are_held f k l',
                st.standing.own f k l',
              );
          cut = λ f k l. cut_at-by_escrows (ending Aborted) (ending_keeps_cut Aborted) rows gone can.in_range f k
              ∙ st.standing.cut f k (omega (arith, l, same));
          place = st.standing.place;
          given = st.standing.given;
          accepted = st.standing.accepted;
          site = st.standing.site;
          epoch = st.standing.epoch;
        }

    aside_released : (outcome : Outcome) (txn : TxnId) → (is_begun txn es ≡ true) × (is_open txn es ≡ true)
        → SetsAside (ended outcome txn ∷ es) (after_release txn a).standing.rights (after_release txn a).journal
    aside_released outcome txn both =
        subst (λ (xs : List Escrow). SetsAside (ended outcome txn ∷ es) (by_escrows (ending Aborted) rows xs) (without txn journal))
        (sym (escrows_are txn both))
        (aside_end schema base es ran.lawful rows journal was.matches outcome txn both.1)

    abbrev Settled : SiteNo → Command → Type 0
    Settled n c = StandsOn schema s base (record { site = n; command = c; reply = answer at c } ∷ o) rs (after_settling a c)

    -- a command that writes no record
    pub stands_settled : (n : SiteNo) (c : Command) → is_carried c ≡ true → writes at c ≡ false → first (refusals at c) ≡ None → Settled n c
    stands_settled n (Commit txn) is w none =
        let both = end_opened Committed txn none in
        record { standing = stands_released txn both; aside = aside_released Committed txn both; last = omega (arith, st.last) }
    stands_settled n (Abort txn) is w none =
        let both = end_opened Aborted txn none in record {
          standing = stands_released txn both;
          aside = aside_released Aborted txn both;
          last = omega (arith, st.last);
        }
    stands_settled n (Give to field kind amount) is w none = cc
    stands_settled n (Spare to field kind want) is w none = cc
    stands_settled n (Tighten field kind amount) is w none = cc
    stands_settled n (Accept told) is w none = record {
      standing = st.standing;
      aside =
          record { held = st.aside.held; journal = st.aside.journal };
      last = omega (arith, st.last);
    }
    stands_settled n (Restate to field kind) is w none = record { standing = st.standing; aside = st.aside; last = omega (arith, st.last) }
    stands_settled n (Read field) is w none = record { standing = st.standing; aside = st.aside; last = omega (arith, st.last) }
    stands_settled n (Share field) is w none = record { standing = st.standing; aside = st.aside; last = omega (arith, st.last) }
    stands_settled n Begin is w none = cc
    stands_settled n (Ask txn field change) is w none = cc
    stands_settled n Restart is w none = cc

    -- ---- a command whose record is taken in

    module _ (lawful : Lawful schema s rs) where
      abbrev Carriable : Record → Type 0
      Carriable r = may_follow schema s rs r ≡ true → CanCarry schema a r

      pub can_carry : (c : Command) → first (refusals at c) ≡ None → AllByRecursion Carriable (record_left at c)
      can_carry (Commit txn) none =
          let both = end_opened Committed txn none in
          let can = can_close txn both in
          let is_listed = stands_released txn both in
          let gone = reverse (escrows_of txn es) in
          let ready = (after_release txn a).standing in
          each_if Carriable (writes at (Commit txn)) (records.Commit txn gone) (λ w may.
          let parts = and_parts (txn.epoch == greatest rs) (list_all (may_commit schema s rs gone) gone) may in
          record {
            ready = can;
            places = has_places schema s rs ready.rights ready.ledger ready.epoch is_listed;
            takes_ = (
              eqb-true txn.epoch (greatest rs) parts.0 ∙ sym st.standing.epoch,
              commit_on_fields schema s rs ready.rights ready.ledger ready.epoch lawful is_listed gone parts.1,
              λ f k l.
                  omega (
                    arith,
                    free_at-by_escrows Aborted rows (escrows_at txn journal) can.in_range f k,
                    ap (sum_by (takes f k)) (escrows_are txn both),
                  ),
            );
          })
      can_carry (Give to field kind amount) none =
          each_if Carriable true (records.Gift to field kind (told_so_far at to field kind + amount)) (λ w may.
          let parts = gift_parts schema s rs to field kind (told_so_far at to field kind + amount) may in
          let here = four_first (is_other_site schema s to.0) (is_field schema field.0) _ _ may in
          let other = is_other schema s to.0 field.0 here in
          record {
            ready = tt;
            places = has_places schema s rs rows ledger a.standing.epoch st.standing;
            takes_ = (
              subst (λ (x : ℕ). (is_other_site schema x to.0 && is_field schema field.0) ≡ true) (sym st.standing.site) here,
              omega (arith, st.standing.given to.0 field.0 kind other, parts.1),
              omega (arith, was.holds.given to.0 field.0 kind other, give_enough to field kind amount none),
            );
          })
      can_carry (Spare to field kind want) none =
          each_if Carriable true (records.Gift to field kind (told_so_far at to field kind + spare_of at field kind want)) (λ w may.
          let parts = gift_parts schema s rs to field kind (told_so_far at to field kind + spare_of at field kind want) may in
          let here = four_first (is_other_site schema s to.0) (is_field schema field.0) _ _ may in
          let other = is_other schema s to.0 field.0 here in
          record {
            ready = tt;
            places = has_places schema s rs rows ledger a.standing.epoch st.standing;
            takes_ = (
              subst (λ (x : ℕ). (is_other_site schema x to.0 && is_field schema field.0) ≡ true) (sym st.standing.site) here,
              omega (arith, st.standing.given to.0 field.0 kind other, parts.1),
              omega (arith, was.holds.given to.0 field.0 kind other, spare_enough to field kind want none),
            );
          })
      can_carry (Tighten field kind amount) none =
          each_if Carriable true (records.Tighten field kind (cut_so_far at field kind + amount)) (λ w may.
          let parts = tighten_parts schema s rs field kind (cut_so_far at field kind + amount) may in
          let known = tighten_is_in_schema at field kind amount (none_holds (refusals at (Tighten field kind amount)) none) in
          let l : field.0 < length rows = omega (arith, st.standing.count, known) in
          record {
            ready = tt;
            places = has_places schema s rs rows ledger a.standing.epoch st.standing;
            takes_ = (
              lt-ltb field.0 (length schema.fields) known,
              omega (arith, st.standing.cut field.0 kind l, parts.0),
              omega (arith, was.matches.cut field.0 kind l, tighten_enough field kind amount none),
            );
          })
      can_carry (Accept told) none =
          each_if Carriable (writes at (Accept told)) (records.Accept told.from told.field told.kind told.total) (λ w may.
          let parts = accept_parts schema s rs told.from told.field told.kind told.total may in
          let here = four_first (is_other_site schema s told.from.0) (is_field schema told.field.0) _ _ may in
          let other = is_other schema s told.from.0 told.field.0 here in
          let l : told.field.0 < length rows = omega (arith, st.standing.count, other.field_in) in
          record {
            ready = tt;
            places = has_places schema s rs rows ledger a.standing.epoch st.standing;
            takes_ = (
              subst (λ (x : ℕ). (is_other_site schema x told.from.0 && is_field schema told.field.0) ≡ true) (sym st.standing.site) here,
              omega (arith, st.standing.accepted told.from.0 told.field.0 told.kind other, parts.1),
              omega (
                arith,
                st.standing.accepted told.from.0 told.field.0 told.kind other,
                room_is schema s rs rows ledger a.standing.epoch lawful st.standing told.field.0 l,
                parts.2,
              ),
            );
          })
      can_carry c none = tt

      -- what took the record in stands on it
      taken_stands : (fs : List Effect) (ready b : SiteAccounts) (r : Record) → Stands schema s rs ready.standing
          → SetsAside fs ready.standing.rights ready.journal
          → TakesIn schema ready.standing r true b.standing → b.journal ≡ ready.journal → Stands schema s (rs ++ r ∷ []) b.standing
          × SetsAside fs b.standing.rights b.journal
      taken_stands fs ready b r is_listed aside took same =
          let more = took.stands refl s rs lawful is_listed in (
            more,
            record {
              held = λ f k l. let l' : f < length ready.standing.rights = omega (arith, l, more.count, is_listed.count) in
                  took.held refl f k l' ∙ aside.held f k l';
              journal = same ∙ aside.journal;
            },
          )

      -- a site that took the record in stands on it
      abbrev Carries : SiteNo → Command → SiteAccounts → Record → Type 0
      Carries n c b r =
          TakesIn schema (before_taking_in a r).standing r true b.standing → b.journal ≡ (before_taking_in a r).journal → b.last ≡ a.last
          → StandsOn schema s base (record { site = n; command = c; reply = answer at c } ∷ o) (rs ++ r ∷ []) b

      pub stands_carried : (n : SiteNo) (c : Command) → first (refusals at c) ≡ None → (b : SiteAccounts)
          → AllByRecursion (Carries n c b) (record_left at c)
      stands_carried n (Commit txn) none b =
          let both = end_opened Committed txn none in
          let note : Record = records.Commit txn (reverse (escrows_of txn es)) in
          each_if (Carries n (Commit txn) b) (writes at (Commit txn)) note (λ w took same last_is.
          let did = taken_stands (ended Committed txn ∷ es) (after_release txn a) b note (stands_released txn both)
          (aside_released Committed txn both) took same in
          record { standing = did.0; aside = did.1; last = omega (arith, st.last, last_is) })
      stands_carried n (Give to field kind amount) none b =
          let note : Record = records.Gift to field kind (told_so_far at to field kind + amount) in
          each_if (Carries n (Give to field kind amount) b) true note (λ w took same last_is.
          let did = taken_stands es a b note st.standing st.aside took same in
          record { standing = did.0; aside = record { held = did.1.held; journal = did.1.journal }; last = omega (arith, st.last, last_is) })
      stands_carried n (Spare to field kind want) none b =
          let note : Record = records.Gift to field kind (told_so_far at to field kind + spare_of at field kind want) in
          each_if (Carries n (Spare to field kind want) b) true note (λ w took same last_is.
          let did = taken_stands es a b note st.standing st.aside took same in
          record { standing = did.0; aside = record { held = did.1.held; journal = did.1.journal }; last = omega (arith, st.last, last_is) })
      stands_carried n (Tighten field kind amount) none b =
          let note : Record = records.Tighten field kind (cut_so_far at field kind + amount) in
          each_if (Carries n (Tighten field kind amount) b) true note (λ w took same last_is.
          let did = taken_stands es a b note st.standing st.aside took same in
          record { standing = did.0; aside = record { held = did.1.held; journal = did.1.journal }; last = omega (arith, st.last, last_is) })
      stands_carried n (Accept told) none b =
          let note : Record = records.Accept told.from told.field told.kind told.total in
          each_if (Carries n (Accept told) b) (writes at (Accept told)) note (λ w took same last_is.
          let did = taken_stands es a b note st.standing st.aside took same in
          record { standing = did.0; aside = record { held = did.1.held; journal = did.1.journal }; last = omega (arith, st.last, last_is) })
      stands_carried n c none b = tt

-- an entry that has no effect
pub stands_refused : (schema : SchemaValue) (s : ℕ) (base : Base) (o : List Entry) (rs : List Record) (a : SiteAccounts)
    → StandsOn schema s base o rs a → (n : SiteNo) (c : Command) (x : Refusal)
    → StandsOn schema s base (record { site = n; command = c; reply = Refused x } ∷ o) rs a
stands_refused schema s base o rs a st n c x =
    record {
      standing = st.standing;
      aside = subst (λ (fs : List Effect). SetsAside fs a.standing.rights a.journal)
          (sym (after_refused base false c x (effects base false o))) st.aside;
      last = omega (arith, st.last);
    }
