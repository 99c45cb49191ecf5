-- A standing that is begun at a summary is for all records up to it.
use Rattle.std.proofs.Common.{◌≡◌, ℕ, zero, suc, ◌+◌, ◌<◌, ◌≤◌, true, false, List, [], ◌∷◌, ◌++◌, length, take, get_or, refl, sym, ◌∙◌, ap, subst, arith, append_assoc}
use Rattle.std.specs.Prelude.{fold, slice_index_or, Option, Some, None}
use Rattle.std.specs.List.{AllByRecursion}
use Rattle.std.proofs.lemmas.List.{append-nil, length-append}
use Rattle.std.proofs.lemmas.List.Sums.{fold_more, fold-append}
use Rattle.field_bounds.specs.declared.kind.Kind.{Kind}
use Rattle.field_bounds.specs.declared.kind.Kind.TheVariants.{Lower, Raise}
use Rattle.field_bounds.specs.Schema.{SchemaValue}
use Rattle.field_bounds.specs.Limits.{IsSchema}
use Rattle.field_bounds.specs.Owed.{max_total}
use Rattle.kept_records.specs.declared.record.Record.{Record}
use Rattle.kept_records.specs.declared.record.Record.TheVariants.{Commit, Gift, Accept, Tighten, Restart, Summary}
use Rattle.kept_records.specs.declared.total.Total.{Total}
use Rattle.kept_records.specs.declared.total.Cut.{Cut}
use Rattle.kept_records.specs.Text.{text, IsRecord, IsListed, IsSummary}
use Rattle.kept_records.specs.Logs.{HasNoLf, IsLog}
use Rattle.kept_records.specs.ReadingBack.{with_summary}
use Rattle.kept_records.specs.declared.reading_back.ReadBack.{ReadBack}
use Rattle.kept_records.specs.Summary.{SummaryValue, summary_record, rights_told, told_more, total_told, cut_told, rights_of}
use Rattle.kept_records.specs.Stands.{is_summary, since_summary, count_behind, may_follow, Lawful}
use Rattle.kept_records.specs.Summaries.{TellsOf, IsWhereDue}
use Rattle.kept_records.proofs.Summaries.{since_push, same_sums, same_summary_push, own_same}
use Rattle.site_rights.specs.declared.field_rights.FieldRights.{FieldRights}
use Rattle.site_rights.specs.Rights.{AreTold, AreWithin, told_of}
use Rattle.gift_ledger.specs.declared.account.Account.{Account}
use Rattle.gift_ledger.specs.Ledger.{LedgerValue, IsSlot, total_at, accepted_at, with_total, with_accepted, fresh_ledger}
use Rattle.gift_ledger.proofs.LedgerLaws.{place_stays, fresh_place, fresh_account, total_at-with_total, accepted_at-with_total, total_at-with_accepted, accepted_at-with_accepted}
use Rattle.log_replay.specs.declared.standing.Standing.{Standing}
use Rattle.log_replay.specs.Standing.{StandsFor, NoneHeld, IsStandingFor}
use Rattle.log_replay.specs.Resuming.{NotesGifts, NotesAccepts, IsEnd, up_to, BeginsAt, Walks}
use Rattle.kept_records.proofs.Pushes.{lawful_push, lawful_at}
use Rattle.kept_records.proofs.Covering.{own_within}
use Rattle.kept_records.proofs.Told.{lawful_tells, summary_fits, rights_length, rights_told_at}
use Rattle.kept_records.proofs.Cursors.{next_in, none_in}

abbrev pub no_total : Total
no_total = record { site = record { 0 = 0 }; field = record { 0 = 0 }; kind = Lower; total = 0 }

-- what holds of each element holds of the one at a place
pub each_at : {A : Type 0} (P : A → Type 0) (xs : List A) (i : ℕ) (d : A) → i < length xs → AllByRecursion P xs → P (get_or xs i d)
each_at P [] i d below all = absurd (omega arith)
each_at P (x ∷ xs) zero d below all = all.0
each_at P (x ∷ xs) (suc i) d below all = each_at P xs i d (omega (arith, below)) all.1

-- ---- totals that are noted one after another

pub gifts_none : (ledger : LedgerValue) → NotesGifts ledger [] ledger
gifts_none ledger = record { site = refl; place = λ r f h. h; given = λ r f k. refl; accepted = λ r f k. refl }

pub gifts_more : (old now : LedgerValue) (ts : List Total) (i : ℕ) → i < length ts → NotesGifts old (take i ts) now → (t : Total)
    → t ≡ get_or ts i no_total → IsSlot now t.site.0 t.field.0
    → NotesGifts old (take (i + 1) ts) (with_total now t.site.0 t.field.0 t.kind t.total)
gifts_more old now ts i below was t is here =
    let new : Account = record { given = t.total; accepted = accepted_at now t.site.0 t.field.0 t.kind } in
    record {
      site = was.site;
      place = λ r f h. place_stays now t.site.0 t.field.0 r f t.kind new here (was.place r f h);
      given = λ r f k.
          total_at-with_total now t.site.0 t.field.0 r f t.kind k t.total here
          ∙ ap (λ (n : ℕ). told_more r f k n t) (was.given r f k)
          ∙ ap (λ (x : Total). told_more r f k (fold (told_more r f k) (total_at old r f k) (take i ts)) x) is
          ∙ sym (fold_more (told_more r f k) (total_at old r f k) ts i no_total below);
      accepted = λ r f k. accepted_at-with_total now t.site.0 t.field.0 r f t.kind k t.total here ∙ was.accepted r f k;
    }

pub accepts_none : (ledger : LedgerValue) → NotesAccepts ledger [] ledger
accepts_none ledger = record { site = refl; place = λ r f h. h; given = λ r f k. refl; accepted = λ r f k. refl }

pub accepts_more : (old now : LedgerValue) (ts : List Total) (i : ℕ) → i < length ts → NotesAccepts old (take i ts) now → (t : Total)
    → t ≡ get_or ts i no_total → IsSlot now t.site.0 t.field.0
    → NotesAccepts old (take (i + 1) ts) (with_accepted now t.site.0 t.field.0 t.kind t.total)
accepts_more old now ts i below was t is here =
    let new : Account = record { given = total_at now t.site.0 t.field.0 t.kind; accepted = t.total } in
    record {
      site = was.site;
      place = λ r f h. place_stays now t.site.0 t.field.0 r f t.kind new here (was.place r f h);
      given = λ r f k. total_at-with_accepted now t.site.0 t.field.0 r f t.kind k t.total here ∙ was.given r f k;
      accepted = λ r f k.
          accepted_at-with_accepted now t.site.0 t.field.0 r f t.kind k t.total here
          ∙ ap (λ (n : ℕ). told_more r f k n t) (was.accepted r f k)
          ∙ ap (λ (x : Total). told_more r f k (fold (told_more r f k) (accepted_at old r f k) (take i ts)) x) is
          ∙ sym (fold_more (told_more r f k) (accepted_at old r f k) ts i no_total below);
    }

-- totals of a summary have places in a fresh ledger
pub placed_fresh : (schema : SchemaValue) (s : ℕ) (ts : List Total) → AllByRecursion (λ t. IsWhereDue schema s t) ts
    → AllByRecursion (λ t. IsSlot (fresh_ledger schema s) t.site.0 t.field.0) ts
placed_fresh schema s [] all = tt
placed_fresh schema s (t ∷ ts) all = (
  fresh_place schema s t.site.0 t.field.0 all.0.other all.0.site_in all.0.field_in,
  placed_fresh schema s ts all.1,
)

pub placed_still : (old new : LedgerValue) → ((r f : ℕ) → IsSlot old r f → IsSlot new r f) → (ts : List Total)
    → AllByRecursion (λ t. IsSlot old t.site.0 t.field.0) ts → AllByRecursion (λ t. IsSlot new t.site.0 t.field.0) ts
placed_still old new stays [] all = tt
placed_still old new stays (t ∷ ts) all = (stays t.site.0 t.field.0 all.0, placed_still old new stays ts all.1)

pub listed_small : (ts : List Total) → AllByRecursion IsListed ts → AllByRecursion (λ t. t.total ≤ max_total) ts
listed_small [] all = tt
listed_small (t ∷ ts) all = (all.0.2.1, listed_small ts all.1)

-- ---- the standing of a summary

told_kind : (rights : List (ℕ × ℕ)) (f : ℕ) (k : Kind) → told_of (slice_index_or rights f (0, 0)) k ≡ rights_told rights f k
told_kind rights f Lower = refl
told_kind rights f Raise = refl

-- what was given up, as pairs
abbrev pub cuts_told : SchemaValue → SummaryValue → List (ℕ × ℕ)
cuts_told schema v = rights_of (cut_told v.tightenings) (length schema.fields)

pub cuts_read : (schema : SchemaValue) (v : SummaryValue) (ts : List Cut) (fields : ℕ) (pairs : List (ℕ × ℕ)) → ts ≡ v.tightenings
    → fields ≡ length schema.fields → pairs ≡ rights_of (cut_told ts) fields → pairs ≡ cuts_told schema v
cuts_read schema v ts fields pairs told-is fields-is is =
    is ∙ ap (λ (x : List Cut). rights_of (cut_told x) fields) told-is ∙ ap (λ (n : ℕ). rights_of (cut_told v.tightenings) n) fields-is

pub cuts_count : (schema : SchemaValue) (v : SummaryValue) → length (cuts_told schema v) ≡ length schema.fields
cuts_count schema v = rights_length (cut_told v.tightenings) (length schema.fields)

pub rights_within : (schema : SchemaValue) → IsSchema schema → (s : ℕ) → s < schema.sites → (v : SummaryValue) (rs : List Record)
    → Lawful schema s rs → TellsOf schema s v rs
    → AreWithin schema v.rights (cuts_told schema v)
rights_within schema good s below v rs lawful tells f few =
    let l : f < length schema.fields = omega (arith, few, tells.count) in
    let m = length schema.fields in
    omega (
      arith,
      own_within schema good s below rs lawful f,
      tells.rights f Lower l,
      tells.rights f Raise l,
      rights_told_at (cut_told v.tightenings) m f Lower l ∙ tells.cut f Lower l,
      rights_told_at (cut_told v.tightenings) m f Raise l ∙ tells.cut f Raise l,
    )

told_fold : (ts : List Total) (r f : ℕ) (k : Kind) → fold (told_more r f k) 0 ts ≡ total_told ts r f k
unfolding total_told
told_fold ts r f k = refl

pub stands_told : (schema : SchemaValue) (s : ℕ) (v : SummaryValue) (rs : List Record) (rows : List FieldRights) (mid ledger : LedgerValue)
    → TellsOf schema s v rs → AreTold schema v.rights (cuts_told schema v) rows
    → NotesGifts (fresh_ledger schema s) v.gifts mid → NotesAccepts mid v.accepts ledger → StandsFor schema s rs rows ledger v.epoch
stands_told schema s v rs rows mid ledger tells rights gifts accepts =
    record {
      count = rights.count;
      width = λ f l. (rights.each f l).width;
      own = λ f k l. omega (
        arith,
        (rights.each f l).free k,
        told_kind v.rights f k,
        tells.rights f k (omega (arith, l, rights.count)),
        (rights.each f l).held k,
      );
      cut = λ f k l.
          let below : f < length schema.fields = omega (arith, l, rights.count) in
          (rights.each f l).cut k ∙ told_kind (cuts_told schema v) f k
          ∙ rights_told_at (cut_told v.tightenings) (length schema.fields) f k below ∙ tells.cut f k below;
      place = λ r f o. accepts.place r f (gifts.place r f (fresh_place schema s r f o.other o.site_in o.field_in));
      given = λ r f k o.
          accepts.given r f k ∙ gifts.given r f k
          ∙ ap (λ (x : Account). fold (told_more r f k) x.given v.gifts) (fresh_account schema s r f k)
          ∙ told_fold v.gifts r f k ∙ tells.given r f k o.site_in o.other o.field_in;
      accepted = λ r f k o.
          accepts.accepted r f k
          ∙ ap (λ (n : ℕ). fold (told_more r f k) n v.accepts)
          (gifts.accepted r f k ∙ ap (λ (x : Account). x.accepted) (fresh_account schema s r f k))
          ∙ told_fold v.accepts r f k ∙ tells.accepted r f k o.site_in o.other o.field_in;
      site = accepts.site ∙ gifts.site;
      epoch = tells.epoch;
    }

pub none_held : (schema : SchemaValue) (free cuts : List (ℕ × ℕ)) (rows : List FieldRights) → AreTold schema free cuts rows → NoneHeld rows
none_held schema free cuts rows total_told f k l = (total_told.each f l).held k

-- ---- the last summary, and the records up to it

count_plain : (n : ℕ) (r : Record) → is_summary r ≡ false → count_behind n r ≡ n + 1
count_plain n (Summary epoch rights gifts accepts tightenings) h = cc
count_plain n (Commit txn es) h = refl
count_plain n (Gift to f k t) h = refl
count_plain n (Accept from f k t) h = refl
count_plain n (Tighten f k t) h = refl
count_plain n (Restart epoch) h = refl

in_front : (schema : SchemaValue) (s : ℕ) (before found : List Record) (v : SummaryValue) → Lawful schema s (before ++ summary_record v ∷ found)
    → Lawful schema s (before ++ summary_record v ∷ []) × TellsOf schema s v (before ++ summary_record v ∷ [])
in_front schema s before found v lawful =
    let parted = lawful_at schema s before (summary_record v) found lawful in
    (lawful_push schema s before (summary_record v) parted.0 parted.1, lawful_tells schema s before v parted.1)

one_of : (before found : List Record) (r : Record) → AllByRecursion IsRecord (before ++ r ∷ found) → IsRecord r
one_of [] found r all = all.0
one_of (b ∷ before) found r all = one_of before found r all.1

-- a summary tells what these lawful records stand for
pub record Begun (schema : SchemaValue) (s : ℕ) (rs : List Record) (v : SummaryValue) : Type 0 where
  pub lawful : Lawful schema s rs
  pub tells : TellsOf schema s v rs
  pub ranges : IsSummary v

pub begun_some : (schema : SchemaValue) (s : ℕ) (all : List Record) (read : ReadBack) (end_ : IsEnd schema s all read) (v : SummaryValue)
    → read.summary ≡ Some v
    → Begun schema s (up_to end_.holds.last.before read.summary) v
begun_some schema s all read end_ v is =
    let before = end_.holds.last.before in
    let found = end_.holds.found in
    let parts : all ≡ before ++ summary_record v ∷ found =
    end_.holds.last.parts ∙ ap (λ (o : Option SummaryValue). before ++ with_summary o found) is in
    let both = in_front schema s before found v (subst (λ (x : List Record). Lawful schema s x) parts end_.lawful) in
    let front : before ++ summary_record v ∷ [] ≡ up_to before read.summary =
    ap (λ (o : Option SummaryValue). before ++ with_summary o []) (sym is) in
    record {
      lawful = subst (λ (x : List Record). Lawful schema s x) front both.0;
      tells = subst (λ (x : List Record). TellsOf schema s v x) front both.1;
      ranges = summary_fits v (one_of before found (summary_record v) (subst (λ (x : List Record). AllByRecursion IsRecord x) parts end_.each));
    }

pub begun_none : (schema : SchemaValue) (s : ℕ) (all : List Record) (read : ReadBack) (end_ : IsEnd schema s all read) → read.summary ≡ None
    → up_to end_.holds.last.before read.summary ≡ []
begun_none schema s all read end_ is =
    ap (λ (o : Option SummaryValue). end_.holds.last.before ++ with_summary o []) is
    ∙ ap (λ (x : List Record). x ++ []) (end_.holds.last.all is)

-- a standing is for a summary more where it is for the records before it
pub stands_summary : (schema : SchemaValue) (s : ℕ) (rs : List Record) (v : SummaryValue) (rows : List FieldRights) (ledger : LedgerValue)
    (epoch : ℕ) → StandsFor schema s rs rows ledger epoch → StandsFor schema s (rs ++ summary_record v ∷ []) rows ledger epoch
stands_summary schema s rs v rows ledger epoch was =
    let same = same_summary_push rs rs v (same_sums rs) in
    record {
      count = was.count;
      width = was.width;
      own = λ f k l. was.own f k l ∙ sym (own_same schema s (rs ++ summary_record v ∷ []) rs same f k);
      cut = λ f k l. was.cut f k l ∙ sym (same.cut f k);
      place = was.place;
      given = λ r f k o. was.given r f k o ∙ sym (same.given r f k);
      accepted = λ r f k o. was.accepted r f k o ∙ sym (same.accepted r f k);
      site = was.site;
      epoch = was.epoch ∙ sym same.epoch;
    }

-- ---- the records behind it, one after another

front_summary : (summary : Option SummaryValue) (found : List Record) → with_summary summary found ≡ with_summary summary [] ++ found
front_summary None found = refl
front_summary (Some v) found = refl

plain_at : (before behind : List Record) (r : Record) → AllByRecursion (λ x. is_summary x ≡ false) (before ++ r ∷ behind)
    → is_summary r ≡ false
plain_at [] behind r all = all.0
plain_at (b ∷ before) behind r all = plain_at before behind r all.1

fold_plain : (n : ℕ) (found : List Record) → AllByRecursion (λ x. is_summary x ≡ false) found → fold count_behind n found ≡ n + length found
fold_plain n [] all = omega arith
fold_plain n (r ∷ rs) all =
    ap (λ (m : ℕ). fold count_behind m rs) (count_plain n r all.0) ∙ fold_plain (n + 1) rs all.1 ∙ omega arith

since_plain : (rs found : List Record) → AllByRecursion (λ x. is_summary x ≡ false) found
    → since_summary (rs ++ found) ≡ since_summary rs + length found
unfolding since_summary
since_plain rs found all = fold-append count_behind 0 rs found ∙ fold_plain (fold count_behind 0 rs) found all

since_none : since_summary [] ≡ 0
unfolding since_summary
since_none = refl

since_up_to : (before : List Record) (summary : Option SummaryValue) → (summary ≡ None → before ≡ [])
    → since_summary (up_to before summary) ≡ 0
since_up_to before None all = ap (λ (x : List Record). since_summary (x ++ [])) (all refl) ∙ since_none
since_up_to before (Some v) all = since_push before (summary_record v)

-- a record that is taken in next
pub record Turn (schema : SchemaValue) (s : ℕ) (rs : List Record) (r : Record) : Type 0 where
  pub lawful : Lawful schema s rs
  pub may : may_follow schema s rs r ≡ true
  pub plain : is_summary r ≡ false

module _ (schema : SchemaValue) (s : ℕ) (all : List Record) (read : ReadBack) (end_ : IsEnd schema s all read) where
  abbrev front : List Record
  front = up_to end_.holds.last.before read.summary

  whole : front ++ end_.holds.found ≡ all
  whole =
      append_assoc end_.holds.last.before (with_summary read.summary []) end_.holds.found
      ∙ ap (λ (x : List Record). end_.holds.last.before ++ x) (sym (front_summary read.summary end_.holds.found))
      ∙ sym end_.holds.last.parts

  pub walks_start : (standing : Standing) (bytes : List ℕ) → bytes ≡ read.lines → BeginsAt schema s all read end_ standing
      → Walks schema s all read end_ standing 0 bytes
  walks_start standing bytes is begins = record {
    taken = [];
    left = end_.holds.found;
    parts = refl;
    log = subst (λ (l : List ℕ). IsLog l end_.holds.found end_.rest) (sym is) end_.holds.log;
    stands = subst (λ (x : List Record). IsStandingFor schema s x standing)
        (sym (append-nil (up_to end_.holds.last.before read.summary))) begins;
    count = refl;
  }

  module _ (standing : Standing) (turns : ℕ) (bytes : List ℕ) (walks : Walks schema s all read end_ standing turns bytes) where
    abbrev so_far : List Record
    so_far = front ++ walks.taken

    pub turn_of : (r : Record) (new : List ℕ) → bytes ≡ text r ++ new → IsRecord r
        → Turn schema s (up_to end_.holds.last.before read.summary ++ walks.taken) r
    turn_of r new is fits =
        let next = next_in bytes walks.left end_.rest r new walks.log is fits in
        let found_is : end_.holds.found ≡ walks.taken ++ r ∷ next.more =
        walks.parts ∙ ap (λ (x : List Record). walks.taken ++ x) next.parts in
        let all_is : all ≡ so_far ++ r ∷ next.more =
        sym whole ∙ ap (λ (x : List Record). front ++ x) found_is ∙ sym (append_assoc front walks.taken (r ∷ next.more)) in
        let parted = lawful_at schema s so_far r next.more (subst (λ (x : List Record). Lawful schema s x) all_is end_.lawful) in
        record {
          lawful = parted.0;
          may = parted.1;
          plain = plain_at walks.taken next.more r
              (subst (λ (x : List Record). AllByRecursion (λ y. is_summary y ≡ false) x) found_is end_.holds.last.plain);
        }

    pub walks_on : (r : Record) (new : List ℕ) (after : Standing) → bytes ≡ text r ++ new → IsRecord r
        → IsStandingFor schema s ((up_to end_.holds.last.before read.summary ++ walks.taken) ++ r ∷ []) after
        → Walks schema s all read end_ after (turns + 1) new
    walks_on r new after is fits stands =
        let next = next_in bytes walks.left end_.rest r new walks.log is fits in
        record {
          taken = walks.taken ++ r ∷ [];
          left = next.more;
          parts = walks.parts ∙ ap (λ (x : List Record). walks.taken ++ x) next.parts ∙ sym (append_assoc walks.taken (r ∷ []) next.more);
          log = next.log;
          stands = subst (λ (x : List Record). IsStandingFor schema s x after) (append_assoc front walks.taken (r ∷ [])) stands;
          count = omega (arith, walks.count, length-append walks.taken (r ∷ []));
        }

    taken_is : HasNoLf bytes → end_.holds.found ≡ walks.taken
    taken_is none =
        walks.parts ∙ ap (λ (x : List Record). walks.taken ++ x) (none_in bytes walks.left end_.rest walks.log none)
        ∙ append-nil walks.taken

    pub walks_end : HasNoLf bytes → IsStandingFor schema s all standing × (turns ≡ since_summary all)
    walks_end none =
        let found_is = taken_is none in
        let all_is : so_far ≡ all = ap (λ (x : List Record). front ++ x) (sym found_is) ∙ whole in
        let since : since_summary (front ++ end_.holds.found) ≡ since_summary front + length end_.holds.found =
        since_plain front end_.holds.found end_.holds.last.plain in (
          subst (λ (x : List Record). IsStandingFor schema s x standing) all_is walks.stands,
          omega (
            arith,
            walks.count,
            ap length found_is,
            since,
            since_up_to end_.holds.last.before read.summary end_.holds.last.all,
            ap since_summary whole,
          ),
        )
