-- What one record more does to the rights, the ledger and the epoch that records stand for.
use Rattle.std.proofs.Common.{◌≡◌, ℕ, ◌+◌, ◌-◌, ◌≤◌, ◌<◌, ◌==◌, max, Bool, true, false, not, ◌&&◌, cond, List, [], ◌∷◌, ◌++◌, length, take, get_or, refl, sym, ◌∙◌, ap, subst, inl, inr, arith}
use Rattle.std.specs.Prelude.{nat_lt, sum_by, unsigned_abs, ℤ, pos, negsuc, Result, Ok, Err, is_ok, IsErr, OnOk}
use Rattle.std.specs.List.{list_all}
use Rattle.std.proofs.Math.ListN.{length-set}
use Rattle.std.proofs.lemmas.Bool.{cases_Bool, and_parts, eq-eqb, eqb-true, ltb-true, lt-ltb, le-leb}
use Rattle.std.proofs.lemmas.List.Sums.{sum_by-cons, sum_by_more, sum_by_more_le}
use Rattle.std.proofs.lemmas.List.Elements.{All-nil, All-cons, All-head, All-tail, All-weaker, All-take, All-get_or}
use Rattle.field_bounds.specs.declared.kind.Kind.{Kind}
use Rattle.field_bounds.specs.declared.kind.Kind.TheVariants.{Lower, Raise}
use Rattle.field_bounds.specs.declared.id.TxnId.{TxnId}
use Rattle.field_bounds.specs.declared.id.SiteNo.{SiteNo}
use Rattle.field_bounds.specs.declared.id.FieldNo.{FieldNo}
use Rattle.field_bounds.specs.declared.entry.Escrow.{Escrow}
use Rattle.field_bounds.specs.Kind.{same_kind, kind_of}
use Rattle.field_bounds.specs.Schema.{SchemaValue}
use Rattle.field_bounds.specs.Effects.{takes}
use Rattle.kept_records.specs.declared.record.Record.{Record}
use Rattle.kept_records.specs.declared.record.Record.TheVariants.{Commit, Gift, Accept, Tighten, Restart, Summary}
use Rattle.kept_records.specs.Stands.{greatest, given_in, accepted_in, cut_in, own_in, room_in, is_field, is_other_site, is_summary, may_commit, may_follow, Lawful}
use Rattle.kept_records.proofs.Pushes.{greatest_none, given_none, accepted_none, cut_none, greatest_push, given_push, accepted_push, cut_push}
use Rattle.kept_records.proofs.Covering.{key, at_key, on_field, own_none, commit_within, own_commit, own_gift, own_accept, own_tighten, cut_tighten, own_restart, accept_parts, tighten_parts}
use Rattle.site_rights.specs.declared.field_rights.FieldRights.{FieldRights}
use Rattle.site_rights.specs.declared.field_rights.Outcome.TheVariants.{Committed}
use Rattle.site_rights.specs.Rights.{free_at, held_at, cut_at, room_at, at_field, after_take, after_drop, after_tighten, after_add, ending, by_escrow, by_escrows, AreInRange, AreHeld, AreFresh}
use Rattle.site_rights.proofs.RightsLaws.{length-by_escrow, length-by_escrows, free_at-taken, held_at-taken, free_at-by_escrows, held_at-by_escrows, free_at-dropped, held_at-dropped, free_at-tightened, held_at-tightened, cut_at-tightened, free_at-added, held_at-added, taken_keeps_cut, ending_keeps_cut, dropped_keeps_cut, added_keeps_cut, cut_at-field, cut_at-by_escrows, taken_keeps, ending_keeps, dropped_keeps, tightened_keeps, added_keeps, width_at-field, width_at-by_escrows}
use Rattle.gift_ledger.specs.declared.account.Account.{Account}
use Rattle.gift_ledger.specs.Ledger.{LedgerValue, total_at, accepted_at, with_total, with_accepted, fresh_ledger}
use Rattle.gift_ledger.proofs.LedgerLaws.{place_stays, fresh_place, fresh_account, total_at-with_total, accepted_at-with_total, total_at-with_accepted, accepted_at-with_accepted}
use Rattle.log_replay.specs.declared.standing.Standing.{Standing}
use Rattle.log_replay.specs.Standing.{IsOther, HasSlots, StandsFor, Stands, NoneHeld, IsStandingFor, CanTakeIn, TakesIn, is_on_field, AreFree}

-- ---- answers

-- what can be taken in is no summary
pub can_plain : (schema : SchemaValue) (old : Standing) (r : Record) → CanTakeIn schema old r → is_summary r ≡ false
can_plain schema old (Commit txn es) can = refl
can_plain schema old (Gift to field kind total) can = refl
can_plain schema old (Accept from field kind total) can = refl
can_plain schema old (Tighten field kind total) can = refl
can_plain schema old (Restart epoch) can = refl
can_plain schema old (Summary epoch rights gifts accepts tightenings) can = absurd can

-- a record that may not stand is refused
pub takes_none : (schema : SchemaValue) (old : Standing) (r : Record) (new : Standing)
    → ((s : ℕ) (rs : List Record) → Lawful schema s rs → IsStandingFor schema s rs old → may_follow schema s rs r ≡ false)
    → (CanTakeIn schema old r → ⊥) → TakesIn schema old r false new
takes_none schema old r new none cannot =
    record {
      answered = λ s rs lawful was. sym (none s rs lawful was);
      stands = λ answer. cc;
      held = λ answer. cc;
      takes_ = λ can. absurd (cannot can);
      only = λ plain answer. cc;
    }

-- a record that may stand is taken in
pub takes_one : (schema : SchemaValue) (old : Standing) (r : Record) (new : Standing)
    → ((s : ℕ) (rs : List Record) → Lawful schema s rs → Stands schema s rs old → may_follow schema s rs r ≡ true)
    → ((s : ℕ) (rs : List Record) → Lawful schema s rs → Stands schema s rs old → may_follow schema s rs r ≡ true
    → Stands schema s (rs ++ r ∷ []) new)
    → ((f : ℕ) (k : Kind) → f < length old.rights → held_at new.rights f k ≡ held_at old.rights f k) → CanTakeIn schema old r
    → TakesIn schema old r true new
takes_one schema old r new may stands held can =
    record {
      answered = λ s rs lawful was. sym (may s rs lawful was.for_);
      stands = λ answer s rs lawful was. stands s rs lawful was (may s rs lawful was);
      held = λ answer. held;
      takes_ = λ can. refl;
      only = λ plain answer. can;
    }

-- what a standing for some records has, it has for the site that its ledger names
pub has_places : (schema : SchemaValue) (s : ℕ) (rs : List Record) (rows : List FieldRights) (ledger : LedgerValue) (epoch : ℕ)
    → StandsFor schema s rs rows ledger epoch → HasSlots schema rows ledger
has_places schema s rs rows ledger epoch was =
    record {
      count = was.count;
      place = λ r f o. was.place r f (subst (λ (n : ℕ). IsOther schema n r f) was.site o);
    }

-- ---- no records

pub stands_none : (schema : SchemaValue) (s : ℕ) (rows : List FieldRights) → AreFresh schema s rows
    → StandsFor schema s [] rows (fresh_ledger schema s) 0
stands_none schema s rows fresh =
    record {
      count = fresh.count;
      width = λ f l. (fresh.each f l).width;
      own = λ f k l. omega (arith, (fresh.each f l).free k, (fresh.each f l).held k, own_none schema s f k);
      cut = λ f k l. (fresh.each f l).cut k ∙ sym (cut_none f k);
      place = λ r f o. fresh_place schema s r f o.other o.site_in o.field_in;
      given = λ r f k o. ap (λ (x : Account). x.given) (fresh_account schema s r f k) ∙ sym (given_none r f k);
      accepted = λ r f k o. ap (λ (x : Account). x.accepted) (fresh_account schema s r f k) ∙ sym (accepted_none r f k);
      site = refl;
      epoch = sym greatest_none;
    }

-- ---- escrows that are taken one after another

range_same : (rows rows' : List FieldRights) (es : List Escrow) → length rows' ≡ length rows → AreInRange rows es → AreInRange rows' es
range_same rows rows' es same h = All-weaker (λ (e : Escrow). e.field.0 < length rows) (λ (e : Escrow). e.field.0 < length rows')
    (λ e lt. omega arith) es h

pub free_taken : (rows : List FieldRights) (es : List Escrow) → AreInRange rows es → (g : ℕ) (k : Kind)
    → free_at (by_escrows after_take rows es) g k ≡ free_at rows g k - sum_by (takes g k) es
free_taken rows [] range g k = omega arith
free_taken rows (e ∷ es) range g k =
    let lt : e.field.0 < length rows = All-head (λ (e : Escrow). e.field.0 < length rows) e es range in
    let rest = range_same rows (by_escrow after_take rows e) es (length-by_escrow after_take rows e)
    (All-tail (λ (e : Escrow). e.field.0 < length rows) e es range) in
    omega (arith, free_taken (by_escrow after_take rows e) es rest g k, free_at-taken rows e g k lt, sum_by-cons (takes g k) e es)

pub held_taken : (rows : List FieldRights) (es : List Escrow) → AreInRange rows es → (g : ℕ) (k : Kind)
    → held_at (by_escrows after_take rows es) g k ≡ held_at rows g k + sum_by (takes g k) es
held_taken rows [] range g k = omega arith
held_taken rows (e ∷ es) range g k =
    let lt : e.field.0 < length rows = All-head (λ (e : Escrow). e.field.0 < length rows) e es range in
    let rest = range_same rows (by_escrow after_take rows e) es (length-by_escrow after_take rows e)
    (All-tail (λ (e : Escrow). e.field.0 < length rows) e es range) in
    omega (arith, held_taken (by_escrow after_take rows e) es rest g k, held_at-taken rows e g k lt, sum_by-cons (takes g k) e es)

pub taken_range : (rows : List FieldRights) (es : List Escrow) → AreInRange rows es → AreInRange (by_escrows after_take rows es) es
taken_range rows es range = range_same rows (by_escrows after_take rows es) es (length-by_escrows after_take rows es) range

pub taken_held : (rows : List FieldRights) (es : List Escrow) → AreInRange rows es → AreHeld (by_escrows after_take rows es) es
taken_held rows es range f k l = omega (arith, held_taken rows es range f k)

-- what a commit takes is held for a moment only
pub held_committed : (rows : List FieldRights) (es : List Escrow) → AreInRange rows es → (f : ℕ) (k : Kind) → f < length rows
    → held_at (by_escrows (ending Committed) (by_escrows after_take rows es) es) f k ≡ held_at rows f k
held_committed rows es range f k l =
    let mid = by_escrows after_take rows es in
    omega (
      arith,
      held_at-by_escrows Committed mid es (taken_range rows es range) (taken_held rows es range) f k
          (omega (arith, l, length-by_escrows after_take rows es)),
      held_taken rows es range f k,
    )

-- what holds of an amount on its own field holds where it counts
pub here_only : (of : ℕ → Kind → ℕ) (field f : ℕ) (kind k : Kind) (amount : ℕ) → amount ≤ of field kind
    → cond ((field == f) && same_kind kind k) amount 0 ≤ of f k
here_only of field f kind k amount enough =
    elim (cases_Bool ((field == f) && same_kind kind k)) [
      | inl on ↦ rw on (omega (arith, enough, on_field of field f kind k on))
      | inr off ↦ rw off (omega arith)
    ]

-- what an escrow takes of its own field and kind is its size
takes_own : (e : Escrow) → takes e.field.0 (kind_of e.change) e ≡ unsigned_abs e.change
takes_own e = rw (eq-eqb e.field.0 e.field.0 refl) (of e.change)
  where
    of : (c : ℤ) → cond (same_kind (kind_of c) (kind_of c)) (unsigned_abs c) 0 ≡ unsigned_abs c
    of (pos n) = refl
    of (negsuc n) = refl

module _ (rows : List FieldRights) (es : List Escrow) (i : ℕ) (d : Escrow) (range : AreInRange rows es) (l : i < length es) where
  few : AreInRange rows (take i es)
  few = All-take (λ (e : Escrow). e.field.0 < length rows) i es range

  pub next_in_range : (get_or es i d).field.0 < length (by_escrows after_take rows (take i es))
  next_in_range = omega (
    arith,
    All-get_or (λ (e : Escrow). e.field.0 < length rows) es i d l range,
    length-by_escrows after_take rows (take i es),
  )

  -- where all escrows are within the free rights, so is the next, after those before it
  pub next_is_free : AreFree rows es → unsigned_abs (get_or es i d).change
      ≤ free_at (by_escrows after_take rows (take i es)) (get_or es i d).field.0 (kind_of (get_or es i d).change)
  next_is_free free =
      let e = get_or es i d in
      let k = kind_of e.change in
      omega (
        arith,
        free e.field.0 k (All-get_or (λ (e : Escrow). e.field.0 < length rows) es i d l range),
        free_taken rows (take i es) few e.field.0 k,
        sum_by_more_le (takes e.field.0 k) es i d l,
        takes_own e,
      )

  -- and where the next is, those up to it are
  pub next_free : ((f : ℕ) (k : Kind) → sum_by (takes f k) (take i es) ≤ free_at rows f k)
      → unsigned_abs (get_or es i d).change ≤ free_at (by_escrows after_take rows (take i es)) (get_or es i d).field.0
      (kind_of (get_or es i d).change)
      → (f : ℕ) (k : Kind) → sum_by (takes f k) (take (i + 1) es) ≤ free_at rows f k
  next_free so_far next f k =
      let e = get_or es i d in
      omega (
        arith,
        sum_by_more (takes f k) es i d l,
        within ((e.field.0 == f) && same_kind (kind_of e.change) k) (sum_by (takes f k) (take i es)) (unsigned_abs e.change)
            (free_at rows f k)
            (λ on. omega (
              arith,
              next,
              free_taken rows (take i es) few f k,
              on_field (λ x y. free_at (by_escrows after_take rows (take i es)) x y) e.field.0 f (kind_of e.change) k on,
            )) (so_far f k),
      )
    where
      within : (on : Bool) (sum size free : ℕ) → (on ≡ true → size ≤ free - sum) → sum ≤ free → sum + cond on size 0 ≤ free
      within true sum size free h so = omega (arith, h refl, so)
      within false sum size free h so = omega (arith, so)

-- escrows on fields of the schema are in range
pub fields_in_range : (schema : SchemaValue) (rows : List FieldRights) (es : List Escrow) → length rows ≡ length schema.fields
    → list_all (is_on_field schema) es ≡ true → AreInRange rows es
fields_in_range schema rows [] count all = All-nil (λ (e : Escrow). e.field.0 < length rows)
fields_in_range schema rows (e ∷ es) count all =
    let parts = and_parts (is_on_field schema e) (list_all (is_on_field schema) es) all in
    All-cons (λ (e : Escrow). e.field.0 < length rows) e es (omega (arith, count, ltb-true e.field.0 (length schema.fields) parts.0))
    (fields_in_range schema rows es count parts.1)

-- what holds of each element that passes one test holds of each that passes another, weaker one
all_weaker : (p q : Escrow → Bool) → ((e : Escrow) → p e ≡ true → q e ≡ true) → (es : List Escrow) → list_all p es ≡ true
    → list_all q es ≡ true
all_weaker p q weaker [] all = refl
all_weaker p q weaker (e ∷ es) all =
    let parts = and_parts (p e) (list_all p es) all in
    rw (weaker e parts.0, all_weaker p q weaker es parts.1) refl

module _ (schema : SchemaValue) (s : ℕ) (rs : List Record) (rows : List FieldRights) (ledger : LedgerValue) (epoch : ℕ)
    (lawful : Lawful schema s rs) (was : StandsFor schema s rs rows ledger epoch) where
  -- ---- a commit

  pub commit_on_fields : (es : List Escrow) → list_all (may_commit schema s rs es) es ≡ true → list_all (is_on_field schema) es ≡ true
  commit_on_fields es all =
      all_weaker (may_commit schema s rs es) (is_on_field schema) (λ e may. first_part (is_on_field schema e) _ _ may) es all
    where
      first_part : (a b c : Bool) → (a && b && c) ≡ true → a ≡ true
      first_part true b c h = refl
      first_part false b c h = cc

  pub commit_is_free : NoneHeld rows → (es : List Escrow) → list_all (may_commit schema s rs es) es ≡ true → AreFree rows es
  commit_is_free none es all f k l = omega (arith, commit_within schema s rs es all f k, was.own f k l, none f k l)

  pub may_commit_all : (es : List Escrow) → list_all (is_on_field schema) es ≡ true → AreFree rows es
      → list_all (may_commit schema s rs es) es ≡ true
  may_commit_all es fields free =
      all_weaker (is_on_field schema) (may_commit schema s rs es)
      (λ e on.
      let l : e.field.0 < length rows = omega (arith, was.count, ltb-true e.field.0 (length schema.fields) on) in
      let lower : sum_by (takes e.field.0 Lower) es ≤ own_in schema s rs e.field.0 Lower =
      omega (arith, free e.field.0 Lower l, was.own e.field.0 Lower l) in
      let raise : sum_by (takes e.field.0 Raise) es ≤ own_in schema s rs e.field.0 Raise =
      omega (arith, free e.field.0 Raise l, was.own e.field.0 Raise l) in
      rw (on, le-leb _ _ lower, le-leb _ _ raise) refl)
      es fields

  pub stands_commit : (txn : TxnId) (es : List Escrow) → AreInRange rows es → AreFree rows es
      → may_follow schema s rs (Commit txn es) ≡ true
      → StandsFor schema s (rs ++ Commit txn es ∷ []) (by_escrows (ending Committed) (by_escrows after_take rows es) es) ledger epoch
  stands_commit txn es range free may =
      let r : Record = Commit txn es in
      let mid = by_escrows after_take rows es in
      let within = taken_range rows es range in
      let same : length (by_escrows (ending Committed) mid es) ≡ length rows =
      omega (arith, length-by_escrows (ending Committed) mid es, length-by_escrows after_take rows es) in
      record {
        count = same ∙ was.count;
        width = λ f l. width_at-by_escrows (ending Committed) (ending_keeps Committed) mid es within f
            ∙ width_at-by_escrows after_take taken_keeps rows es range f ∙ was.width f (omega (arith, l, same));
        own = λ f k l.
            omega (
              arith,
              free_at-by_escrows Committed mid es within f k,
              free_taken rows es range f k,
              was.own f k (omega (arith, l, same)),
              free f k (omega (arith, l, same)),
              held_committed rows es range f k (omega (arith, l, same)),
              own_commit schema s rs lawful txn es may f k,
            );
        cut = λ f k l.
            cut_at-by_escrows (ending Committed) (ending_keeps_cut Committed) mid es within f k
            ∙ cut_at-by_escrows after_take taken_keeps_cut rows es range f k
            ∙ was.cut f k (omega (arith, l, same)) ∙ sym (cut_push f k rs r);
        place = was.place;
        given = λ r' f k o. was.given r' f k o ∙ sym (given_push r' f k rs r);
        accepted = λ r' f k o. was.accepted r' f k o ∙ sym (accepted_push r' f k rs r);
        site = was.site;
        epoch = was.epoch ∙ sym (greatest_push rs r);
      }

  -- ---- a gift and an acceptance

  turned : (a b c : Bool) → (b && c && a) ≡ (a && b && c)
  turned true true true = refl
  turned true true false = refl
  turned true false c = refl
  turned false true true = refl
  turned false true false = refl
  turned false false c = refl

  module _ (at : SiteNo) (field : FieldNo) (kind : Kind) (other_site : IsOther schema s at.0 field.0) where
    in_rows : field.0 < length rows
    in_rows = omega (arith, was.count, other_site.field_in)

    -- a total written at one place is the greater one there, and no other changes
    total_then : (total new r f : ℕ) (k : Kind) (at_of in_of : ℕ → ℕ → Kind → ℕ) → at_of r f k ≡ in_of r f k
        → new ≡ max total (in_of at.0 field.0 kind)
        → cond ((at.0 == r) && (field.0 == f) && same_kind kind k) new (at_of r f k)
        ≡ cond (key field.0 kind at.0 f k r) (max total (in_of r f k)) (in_of r f k)
    total_then total new r f k at_of in_of same is =
        let moved = turned (at.0 == r) (field.0 == f) (same_kind kind k) in
        elim (cases_Bool (key field.0 kind at.0 f k r)) [
          | inl on ↦ let here = sym moved ∙ on in rw (here, on) (is ∙ ap (max total) (at_key in_of field.0 kind at.0 f k r on))
          | inr off ↦ let apart = sym moved ∙ off in rw (apart, off) same
        ]

    pub stands_gift : (total : ℕ) → may_follow schema s rs (Gift at field kind total) ≡ true → total_at ledger at.0 field.0 kind < total
        → (amount : ℕ) → amount ≡ total - total_at ledger at.0 field.0 kind → amount ≤ free_at rows field.0 kind
        → StandsFor schema s (rs ++ Gift at field kind total ∷ []) (at_field after_drop rows field.0 kind amount)
        (with_total ledger at.0 field.0 kind (total_at ledger at.0 field.0 kind + amount)) epoch
    stands_gift total may more amount is enough =
        let r : Record = Gift at field kind total in
        let here = was.place at.0 field.0 other_site in
        let before = was.given at.0 field.0 kind other_site in
        let new = total_at ledger at.0 field.0 kind + amount in
        let same : length (at_field after_drop rows field.0 kind amount) ≡ length rows = length-set rows field.0 _ in
        let amount_is : amount ≡ total - given_in rs at.0 field.0 kind = is ∙ ap (λ n. total - n) before in
        record {
          count = same ∙ was.count;
          width = λ f l. width_at-field after_drop dropped_keeps rows field.0 f kind amount in_rows ∙ was.width f (omega (arith, l, same));
          own = λ f k l.
              omega (
                arith,
                free_at-dropped rows field.0 f kind k amount in_rows,
                held_at-dropped rows field.0 f kind k amount in_rows,
                here_only (λ x y. free_at rows x y) field.0 f kind k amount enough,
                ap (λ (n : ℕ). cond ((field.0 == f) && same_kind kind k) n 0) amount_is,
                was.own f k (omega (arith, l, same)),
                own_gift schema s rs lawful at field kind total may f k,
              );
          cut = λ f k l. cut_at-field after_drop dropped_keeps_cut rows field.0 f kind k amount in_rows
              ∙ was.cut f k (omega (arith, l, same)) ∙ sym (cut_push f k rs r);
          place = λ r' f o. place_stays ledger at.0 field.0 r' f kind
              (record { given = new; accepted = accepted_at ledger at.0 field.0 kind }) here (was.place r' f o);
          given = λ r' f k o.
              total_at-with_total ledger at.0 field.0 r' f kind k new here
              ∙ total_then total new r' f k (total_at ledger) (given_in rs) (was.given r' f k o) (omega (arith, is, more, before))
              ∙ sym (given_push r' f k rs r);
          accepted = λ r' f k o. accepted_at-with_total ledger at.0 field.0 r' f kind k new here ∙ was.accepted r' f k o
              ∙ sym (accepted_push r' f k rs r);
          site = was.site;
          epoch = was.epoch ∙ sym (greatest_push rs r);
        }

    pub stands_accept : (total : ℕ) → may_follow schema s rs (Accept at field kind total) ≡ true → (gain : ℕ)
        → gain ≡ total - accepted_at ledger at.0 field.0 kind
        → StandsFor schema s (rs ++ Accept at field kind total ∷ []) (at_field after_add rows field.0 kind gain)
        (with_accepted ledger at.0 field.0 kind (max total (accepted_at ledger at.0 field.0 kind))) epoch
    stands_accept total may gain is =
        let r : Record = Accept at field kind total in
        let here = was.place at.0 field.0 other_site in
        let before = was.accepted at.0 field.0 kind other_site in
        let new = max total (accepted_at ledger at.0 field.0 kind) in
        let same : length (at_field after_add rows field.0 kind gain) ≡ length rows = length-set rows field.0 _ in
        let gain_is : gain ≡ total - accepted_in rs at.0 field.0 kind = is ∙ ap (λ n. total - n) before in
        record {
          count = same ∙ was.count;
          width = λ f l. width_at-field after_add added_keeps rows field.0 f kind gain in_rows ∙ was.width f (omega (arith, l, same));
          own = λ f k l.
              omega (
                arith,
                free_at-added rows field.0 f kind k gain in_rows,
                held_at-added rows field.0 f kind k gain in_rows,
                ap (λ (n : ℕ). cond ((field.0 == f) && same_kind kind k) n 0) gain_is,
                was.own f k (omega (arith, l, same)),
                own_accept schema s rs lawful at field kind total may f k,
              );
          cut = λ f k l. cut_at-field after_add added_keeps_cut rows field.0 f kind k gain in_rows ∙ was.cut f k (omega (arith, l, same))
              ∙ sym (cut_push f k rs r);
          place = λ r' f o. place_stays ledger at.0 field.0 r' f kind
              (record { given = total_at ledger at.0 field.0 kind; accepted = new }) here (was.place r' f o);
          given = λ r' f k o. total_at-with_accepted ledger at.0 field.0 r' f kind k new here ∙ was.given r' f k o
              ∙ sym (given_push r' f k rs r);
          accepted = λ r' f k o.
              accepted_at-with_accepted ledger at.0 field.0 r' f kind k new here
              ∙ total_then total new r' f k (accepted_at ledger) (accepted_in rs) (was.accepted r' f k o) (ap (max total) before)
              ∙ sym (accepted_push r' f k rs r);
          site = was.site;
          epoch = was.epoch ∙ sym (greatest_push rs r);
        }

  -- what the rights leave of the width is the room that the records leave
  pub room_is : (f : ℕ) → f < length rows → room_at rows f ≡ room_in schema s rs f
  room_is f l = omega (arith, was.width f l, was.own f Lower l, was.own f Raise l, was.cut f Lower l, was.cut f Raise l)

  -- ---- a tightening

  pub stands_tighten : (field : FieldNo) (kind : Kind) (total : ℕ) → field.0 < length rows
      → may_follow schema s rs (Tighten field kind total) ≡ true
      → (amount : ℕ) → amount ≡ total - cut_at rows field.0 kind → amount ≤ free_at rows field.0 kind
      → StandsFor schema s (rs ++ Tighten field kind total ∷ []) (at_field after_tighten rows field.0 kind amount) ledger epoch
  stands_tighten field kind total in_rows may amount is enough =
      let r : Record = Tighten field kind total in
      let same : length (at_field after_tighten rows field.0 kind amount) ≡ length rows = length-set rows field.0 _ in
      let amount_is : amount ≡ total - cut_in rs field.0 kind = is ∙ ap (λ n. total - n) (was.cut field.0 kind in_rows) in
      record {
        count = same ∙ was.count;
        width = λ f l. width_at-field after_tighten tightened_keeps rows field.0 f kind amount in_rows
            ∙ was.width f (omega (arith, l, same));
        own = λ f k l.
            omega (
              arith,
              free_at-tightened rows field.0 f kind k amount in_rows,
              held_at-tightened rows field.0 f kind k amount in_rows,
              here_only (λ x y. free_at rows x y) field.0 f kind k amount enough,
              ap (λ (n : ℕ). cond ((field.0 == f) && same_kind kind k) n 0) amount_is,
              was.own f k (omega (arith, l, same)),
              own_tighten schema s rs lawful field kind total may f k,
            );
        cut = λ f k l.
            omega (
              arith,
              cut_at-tightened rows field.0 f kind k amount in_rows,
              ap (λ (n : ℕ). cond ((field.0 == f) && same_kind kind k) n 0) amount_is,
              was.cut f k (omega (arith, l, same)),
              cut_tighten schema s rs lawful field kind total may f k,
            );
        place = was.place;
        given = λ r' f k o. was.given r' f k o ∙ sym (given_push r' f k rs r);
        accepted = λ r' f k o. was.accepted r' f k o ∙ sym (accepted_push r' f k rs r);
        site = was.site;
        epoch = was.epoch ∙ sym (greatest_push rs r);
      }

  -- ---- a restart

  pub stands_restart : (new : ℕ) → may_follow schema s rs (Restart new) ≡ true → StandsFor schema s (rs ++ Restart new ∷ []) rows ledger new
  stands_restart new may =
      let r : Record = Restart new in
      record {
        count = was.count;
        width = was.width;
        own = λ f k l. was.own f k l ∙ sym (own_restart schema s rs lawful new may f k);
        cut = λ f k l. was.cut f k l ∙ sym (cut_push f k rs r);
        place = was.place;
        given = λ r' f k o. was.given r' f k o ∙ sym (given_push r' f k rs r);
        accepted = λ r' f k o. was.accepted r' f k o ∙ sym (accepted_push r' f k rs r);
        site = was.site;
        epoch = omega (arith, greatest_push rs r, ltb-true (greatest rs) new may);
      }

-- ---- one record taken in, as the code tests it

is_false : (b : Bool) → (b ≡ true → ⊥) → b ≡ false
is_false true h = absurd (h refl)
is_false false h = refl

four_true : (a b c d : Bool) → (a && b) ≡ true → c ≡ true → d ≡ true → (a && b && c && d) ≡ true
four_true true true true true first third fourth = refl
four_true false b c d first third fourth = cc
four_true true false c d first third fourth = cc
four_true true true false d first third fourth = cc
four_true true true true false first third fourth = cc

pub four_first : (a b c d : Bool) → (a && b && c && d) ≡ true → (a && b) ≡ true
four_first true true c d all = refl
four_first false b c d all = cc
four_first true false c d all = cc

-- a test for another site and a field of the schema that holds
pub is_other : (schema : SchemaValue) (s r f : ℕ) → (is_other_site schema s r && is_field schema f) ≡ true → IsOther schema s r f
is_other schema s r f h =
    let parts = and_parts (is_other_site schema s r) (is_field schema f) h in
    let site = and_parts (nat_lt r schema.sites) (not (r == s)) parts.0 in
    record {
      other = λ same. absurd (apart (r == s) site.1 (eq-eqb r s same));
      site_in = ltb-true r schema.sites site.0;
      field_in = ltb-true f (length schema.fields) parts.1;
    }
  where
    apart : (b : Bool) → not b ≡ true → b ≡ true → ⊥
    apart true h g = cc
    apart false h g = cc

-- a commit that may not stand
pub commit_none : (schema : SchemaValue) (old : Standing) (txn : TxnId) (es : List Escrow) (new : Standing)
    → (txn.epoch ≡ old.epoch → list_all (is_on_field schema) es ≡ true → AreFree old.rights es → ⊥)
    → TakesIn schema old (Commit txn es) false new
commit_none schema old txn es new cannot =
    takes_none schema old (Commit txn es) new
    (λ s rs lawful was.
    is_false (may_follow schema s rs (Commit txn es))
    (λ may.
    let parts = and_parts (txn.epoch == greatest rs) (list_all (may_commit schema s rs es) es) may in
    cannot (eqb-true txn.epoch (greatest rs) parts.0 ∙ sym was.for_.epoch)
    (commit_on_fields schema s rs old.rights old.ledger old.epoch lawful was.for_ es parts.1)
    (commit_is_free schema s rs old.rights old.ledger old.epoch lawful was.for_ was.none es parts.1)))
    (λ can. cannot can.0 can.1 can.2)

-- a commit that may stand
pub commit_taken : (schema : SchemaValue) (old : Standing) (txn : TxnId) (es : List Escrow) → HasSlots schema old.rights old.ledger
    → txn.epoch ≡ old.epoch → list_all (is_on_field schema) es ≡ true → AreFree old.rights es
    → TakesIn schema old (Commit txn es) true (record {
      rights = by_escrows (ending Committed) (by_escrows after_take old.rights es) es;
      ledger = old.ledger;
      epoch = old.epoch;
    })
commit_taken schema old txn es places same fields free =
    takes_one schema old (Commit txn es) _
    (λ s rs lawful was.
    rw (
      eq-eqb txn.epoch (greatest rs) (same ∙ was.epoch),
      may_commit_all schema s rs old.rights old.ledger old.epoch lawful was es fields free,
    ) refl)
    (λ s rs lawful was may. stands_commit schema s rs old.rights old.ledger old.epoch lawful was txn es
    (fields_in_range schema old.rights es places.count fields) free may)
    (held_committed old.rights es (fields_in_range schema old.rights es places.count fields))
    (same, fields, free)

-- a gift that may stand
pub gift_taken : (schema : SchemaValue) (old : Standing) (at : SiteNo) (field : FieldNo) (kind : Kind) (total amount : ℕ)
    → HasSlots schema old.rights old.ledger
    → (is_other_site schema old.ledger.site at.0 && is_field schema field.0) ≡ true → total_at old.ledger at.0 field.0 kind < total
    → amount ≡ total - total_at old.ledger at.0 field.0 kind → amount ≤ free_at old.rights field.0 kind
    → TakesIn schema old (Gift at field kind total) true
    (record {
      rights = at_field after_drop old.rights field.0 kind amount;
      ledger =
          with_total old.ledger at.0 field.0 kind (total_at old.ledger at.0 field.0 kind + amount);
      epoch = old.epoch;
    })
gift_taken schema old at field kind total amount places here more is enough =
    takes_one schema old (Gift at field kind total) _
    (λ s rs lawful was.
    let there : (is_other_site schema s at.0 && is_field schema field.0) ≡ true =
    subst (λ (n : ℕ). (is_other_site schema n at.0 && is_field schema field.0) ≡ true) was.site here in
    let other_site = is_other schema s at.0 field.0 there in
    let l : field.0 < length old.rights = omega (arith, places.count, other_site.field_in) in
    let before = was.given at.0 field.0 kind other_site in
    four_true (is_other_site schema s at.0) (is_field schema field.0) _ _ there
    (lt-ltb (given_in rs at.0 field.0 kind) total (omega (arith, before, more)))
    (le-leb (total - given_in rs at.0 field.0 kind) (own_in schema s rs field.0 kind)
    (omega (arith, before, is, enough, was.own field.0 kind l))))
    (λ s rs lawful was may.
    let there : (is_other_site schema s at.0 && is_field schema field.0) ≡ true =
    subst (λ (n : ℕ). (is_other_site schema n at.0 && is_field schema field.0) ≡ true) was.site here in
    stands_gift schema s rs old.rights old.ledger old.epoch lawful was at field kind
    (is_other schema s at.0 field.0 there) total may more amount is enough)
    (λ f k l. held_at-dropped old.rights field.0 f kind k amount
    (omega (arith, places.count, (is_other schema old.ledger.site at.0 field.0 here).field_in)))
    (here, more, omega (arith, is, enough))

-- an acceptance that may not stand
pub accept_none : (schema : SchemaValue) (old : Standing) (at : SiteNo) (field : FieldNo) (kind : Kind) (total : ℕ) (new : Standing)
    → (accepted_at old.ledger at.0 field.0 kind < total → total - accepted_at old.ledger at.0 field.0 kind ≤ room_at old.rights field.0 → ⊥)
    → TakesIn schema old (Accept at field kind total) false new
accept_none schema old at field kind total new cannot =
    takes_none schema old (Accept at field kind total) new
    (λ s rs lawful was.
    is_false (may_follow schema s rs (Accept at field kind total))
    (λ may.
    let there = four_first (is_other_site schema s at.0) (is_field schema field.0) _ _ may in
    let other_site = is_other schema s at.0 field.0 there in
    let l : field.0 < length old.rights = omega (arith, was.for_.count, other_site.field_in) in
    let parts = accept_parts schema s rs at field kind total may in
    let before = was.for_.accepted at.0 field.0 kind other_site in
    let room = room_is schema s rs old.rights old.ledger old.epoch lawful was.for_ field.0 l in
    cannot (omega (arith, before, parts.1)) (omega (arith, before, room, parts.2))))
    (λ can. cannot can.1 can.2)

-- an acceptance that may stand
pub accept_taken : (schema : SchemaValue) (old : Standing) (at : SiteNo) (field : FieldNo) (kind : Kind) (total gain : ℕ)
    → HasSlots schema old.rights old.ledger
    → (is_other_site schema old.ledger.site at.0 && is_field schema field.0) ≡ true → accepted_at old.ledger at.0 field.0 kind < total
    → gain ≡ total - accepted_at old.ledger at.0 field.0 kind → gain ≤ room_at old.rights field.0
    → TakesIn schema old (Accept at field kind total) true
    (record {
      rights = at_field after_add old.rights field.0 kind gain;
      ledger =
          with_accepted old.ledger at.0 field.0 kind (max total (accepted_at old.ledger at.0 field.0 kind));
      epoch = old.epoch;
    })
accept_taken schema old at field kind total gain places here more is enough =
    takes_one schema old (Accept at field kind total) _
    (λ s rs lawful was.
    let there : (is_other_site schema s at.0 && is_field schema field.0) ≡ true =
    subst (λ (n : ℕ). (is_other_site schema n at.0 && is_field schema field.0) ≡ true) was.site here in
    let other_site = is_other schema s at.0 field.0 there in
    let l : field.0 < length old.rights = omega (arith, places.count, other_site.field_in) in
    let before = was.accepted at.0 field.0 kind other_site in
    let room = room_is schema s rs old.rights old.ledger old.epoch lawful was field.0 l in
    four_true (is_other_site schema s at.0) (is_field schema field.0) _ _ there
    (lt-ltb (accepted_in rs at.0 field.0 kind) total (omega (arith, before, more)))
    (le-leb (total - accepted_in rs at.0 field.0 kind) (room_in schema s rs field.0) (omega (arith, before, is, enough, room))))
    (λ s rs lawful was may.
    let there : (is_other_site schema s at.0 && is_field schema field.0) ≡ true =
    subst (λ (n : ℕ). (is_other_site schema n at.0 && is_field schema field.0) ≡ true) was.site here in
    stands_accept schema s rs old.rights old.ledger old.epoch lawful was at field kind
    (is_other schema s at.0 field.0 there) total may gain is)
    (λ f k l. held_at-added old.rights field.0 f kind k gain
    (omega (arith, places.count, (is_other schema old.ledger.site at.0 field.0 here).field_in)))
    (here, more, omega (arith, is, enough))

-- a tightening that may not stand
tighten_none : (schema : SchemaValue) (old : Standing) (field : FieldNo) (kind : Kind) (total : ℕ) (new : Standing)
    → (cut_at old.rights field.0 kind < total → total - cut_at old.rights field.0 kind ≤ free_at old.rights field.0 kind → ⊥)
    → TakesIn schema old (Tighten field kind total) false new
tighten_none schema old field kind total new cannot =
    takes_none schema old (Tighten field kind total) new
    (λ s rs lawful was.
    is_false (may_follow schema s rs (Tighten field kind total))
    (λ may.
    let on = three_first (is_field schema field.0) _ _ may in
    let l : field.0 < length old.rights = omega (arith, was.for_.count, ltb-true field.0 (length schema.fields) on) in
    let parts = tighten_parts schema s rs field kind total may in
    let before = was.for_.cut field.0 kind l in
    cannot (omega (arith, before, parts.0)) (omega (arith, before, parts.1, was.for_.own field.0 kind l, was.none field.0 kind l))))
    (λ can. cannot can.1 can.2)
  where
    three_first : (a b c : Bool) → (a && b && c) ≡ true → a ≡ true
    three_first true b c h = refl
    three_first false b c h = cc

-- a tightening that may stand
tighten_taken : (schema : SchemaValue) (old : Standing) (field : FieldNo) (kind : Kind) (total amount : ℕ)
    → HasSlots schema old.rights old.ledger
    → field.0 < length schema.fields → cut_at old.rights field.0 kind < total → amount ≡ total - cut_at old.rights field.0 kind
    → amount ≤ free_at old.rights field.0 kind
    → TakesIn schema old (Tighten field kind total) true
    (record { rights = at_field after_tighten old.rights field.0 kind amount; ledger = old.ledger; epoch = old.epoch })
tighten_taken schema old field kind total amount places field_in more is enough =
    let l : field.0 < length old.rights = omega (arith, places.count, field_in) in
    takes_one schema old (Tighten field kind total) _
    (λ s rs lawful was.
    let before = was.cut field.0 kind l in
    rw (
      lt-ltb field.0 (length schema.fields) field_in,
      lt-ltb (cut_in rs field.0 kind) total (omega (arith, before, more)),
      le-leb (total - cut_in rs field.0 kind) (own_in schema s rs field.0 kind) (omega (arith, before, is, enough, was.own field.0 kind l)),
    ) refl)
    (λ s rs lawful was may. stands_tighten schema s rs old.rights old.ledger old.epoch lawful was field kind total l may amount is enough)
    (λ f k k_. held_at-tightened old.rights field.0 f kind k amount l)
    (lt-ltb field.0 (length schema.fields) field_in, more, omega (arith, is, enough))

-- a restart that may stand
pub restart_taken : (schema : SchemaValue) (old : Standing) (new : ℕ) → old.epoch < new
    → TakesIn schema old (Restart new) true (record { rights = old.rights; ledger = old.ledger; epoch = new })
restart_taken schema old new later =
    takes_one schema old (Restart new) _
    (λ s rs lawful was. lt-ltb (greatest rs) new (omega (arith, was.epoch, later)))
    (λ s rs lawful was may. stands_restart schema s rs old.rights old.ledger old.epoch lawful was new may)
    (λ f k l. refl)
    later

-- the same, where what was answered and what is left are told by equations
pub takes_as : (schema : SchemaValue) (old : Standing) (r : Record) (answer : Bool) (rows rows' : List FieldRights)
    (ledger ledger' : LedgerValue) (epoch : ℕ) → answer ≡ true → rows ≡ rows' → ledger ≡ ledger'
    → TakesIn schema old r true (record { rights = rows'; ledger = ledger'; epoch = epoch })
    → TakesIn schema old r answer (record { rights = rows; ledger = ledger; epoch = epoch })
takes_as schema old r answer rows rows' ledger ledger' epoch answered rights totals taken_in =
    subst (λ (b : Bool). TakesIn schema old r b (record { rights = rows; ledger = ledger; epoch = epoch })) (sym answered)
    (subst (λ (x : List FieldRights). TakesIn schema old r true (record { rights = x; ledger = ledger; epoch = epoch })) (sym rights)
    (subst (λ (x : LedgerValue). TakesIn schema old r true (record { rights = rows'; ledger = x; epoch = epoch })) (sym totals) taken_in))

-- a tightening, as the rights answer it
pub tighten_as : (schema : SchemaValue) (old : Standing) (field : FieldNo) (kind : Kind) (total amount : ℕ)
    → HasSlots schema old.rights old.ledger
    → field.0 < length schema.fields → cut_at old.rights field.0 kind < total → amount ≡ total - cut_at old.rights field.0 kind
    → (answer : Bool) (rows : List FieldRights) → (answer ≡ true → amount ≤ free_at old.rights field.0 kind)
    → (amount ≤ free_at old.rights field.0 kind → answer ≡ true)
    → (answer ≡ true → rows ≡ at_field after_tighten old.rights field.0 kind amount)
    → TakesIn schema old (Tighten field kind total) answer (record { rights = rows; ledger = old.ledger; epoch = old.epoch })
tighten_as schema old field kind total amount places field_in more is true rows enough can changed =
    takes_as schema old (Tighten field kind total) true rows
    (at_field after_tighten old.rights field.0 kind amount) old.ledger old.ledger old.epoch refl (changed refl) refl
    (tighten_taken schema old field kind total amount places field_in more is (enough refl))
tighten_as schema old field kind total amount places field_in more is false rows enough can changed =
    tighten_none schema old field kind total (record { rights = rows; ledger = old.ledger; epoch = old.epoch })
    (λ above within. let off : false ≡ true = can (omega (arith, is, within)) in absurd cc)

-- one record more of a log that is read
pub after_one : (schema : SchemaValue) (s : ℕ) (rs : List Record) (r : Record) (old new : Standing) → Lawful schema s rs
    → IsStandingFor schema s rs old → TakesIn schema old r true new → IsStandingFor schema s (rs ++ r ∷ []) new
after_one schema s rs r old new lawful was takes =
    let more = takes.stands refl s rs lawful was.for_ in
    record {
      for_ = more;
      none = λ f k l. let k_ : f < length old.rights = omega (arith, l, more.count, was.for_.count) in
          takes.held refl f k k_ ∙ was.none f k k_;
    }

-- ---- results

pub ok_gives : {A E : Type 0} {P : Type 0} (r : Result A E) → is_ok r ≡ true → OnOk r P → P
ok_gives (Ok a) is p = p
ok_gives (Err e) is p = cc

pub no_err : {A E : Type 0} (r : Result A E) → (IsErr r → ⊥) → is_ok r ≡ true
no_err (Ok a) none = refl
no_err (Err e) none = absurd (none refl)
