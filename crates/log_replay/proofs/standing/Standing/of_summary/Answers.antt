use Rattle.std.proofs.Common.{◌≡◌, ◌∙◌, ℕ, List, length, ap, subst, sym, ◌≤◌}
use Rattle.std.specs.List.{AllByRecursion}
use Rattle.kept_records.specs.declared.total.Total.{Total}
use Rattle.field_bounds.specs.Owed.{max_total}
use Rattle.site_rights.specs.Rights.{AreTold, AreWithin}
use Rattle.gift_ledger.specs.Ledger.{LedgerValue, IsSlot, fresh_ledger}
use Rattle.kept_records.specs.Summary.{rises}
use Rattle.log_replay.specs.Standing.{StandsFor}
use Rattle.log_replay.specs.Resuming.{NotesGifts, NotesAccepts}
use Rattle.log_replay.proofs.FromSummary.{placed_fresh, placed_still, listed_small, cuts_told, cuts_count, cuts_read, rights_within, stands_told, none_held}
use Rattle.log_replay.proofs.Once.{fresh_given, fresh_accepted}
use Rattle.log_replay.proofs.standing.Standing.of_summary.Goals as goal

pub note_gifts-requires : goal.note_gifts-requires
note_gifts-requires c =
    let schema = c.args.schema.now in
    let s = c.args.site.0 in
    let v = c.args.summary.now in
    let tells = c.requires.tells.2 in
    record {
      places = subst (λ (ts : List Total). AllByRecursion (λ t. IsSlot c.in_ok-ledger.ledger t.site.0 t.field.0) ts)
          (sym c.gifts.ensures.all)
          (subst (λ (l : LedgerValue). AllByRecursion (λ t. IsSlot l t.site.0 t.field.0) v.gifts) (sym c.in_ok-ledger.ensures.fresh)
          (placed_fresh schema s v.gifts tells.gifts_placed));
      small = subst (λ (ts : List Total). AllByRecursion (λ t. t.total ≤ max_total) ts) (sym c.gifts.ensures.all)
          (listed_small v.gifts c.requires.in_range.gifts);
      rises = ap rises c.gifts.ensures.all ∙ c.requires.in_range.gifts_rise;
      nothing = fresh_given schema s c.in_ok-ledger.ledger c.in_ok-ledger.ensures.fresh;
    }

pub note_accepts-requires : goal.note_accepts-requires
note_accepts-requires c =
    let schema = c.args.schema.now in
    let s = c.args.site.0 in
    let v = c.args.summary.now in
    let tells = c.requires.tells.2 in
    let fresh = subst (λ (l : LedgerValue). AllByRecursion (λ t. IsSlot l t.site.0 t.field.0) v.accepts) (sym c.in_ok-ledger.ensures.fresh)
    (placed_fresh schema s v.accepts tells.accepts_placed) in
    record {
      places = subst (λ (ts : List Total). AllByRecursion (λ t. IsSlot c.note_gifts.new.ledger t.site.0 t.field.0) ts)
          (sym c.accepts.ensures.all)
          (placed_still c.in_ok-ledger.ledger c.note_gifts.new.ledger c.note_gifts.ensures.noted.place v.accepts fresh);
      rises = ap rises c.accepts.ensures.all ∙ c.requires.in_range.accepts_rise;
      nothing = λ r f k. c.note_gifts.ensures.noted.accepted r f k
          ∙ fresh_accepted schema s c.in_ok-ledger.ledger c.in_ok-ledger.ensures.fresh r f k;
    }

pub of-requires-clause-cut_count : goal.of-requires-clause-cut_count
of-requires-clause-cut_count c =
    let schema = c.args.schema.now in
    let v = c.args.summary.now in
    ap length ((c.deref.ensures.value ∙ cuts_read schema v c.tightenings.result.now c.fields.result c.in_ok-cuts.cuts.items
    c.tightenings.ensures.all c.fields.ensures.value c.in_ok-cuts.ensures)) ∙ cuts_count schema v

pub of-requires-clause-within : goal.of-requires-clause-within
of-requires-clause-within c =
    let schema = c.args.schema.now in
    let v = c.args.summary.now in
    let cuts-are = (c.deref.ensures.value ∙ cuts_read schema v c.tightenings.result.now c.fields.result c.in_ok-cuts.cuts.items
    c.tightenings.ensures.all c.fields.ensures.value c.in_ok-cuts.ensures) in
    subst (λ (rights : List (ℕ × ℕ)). AreWithin schema rights c.deref.result.now) (sym c.rights.ensures.all)
    (subst (λ (cuts : List (ℕ × ℕ)). AreWithin schema v.rights cuts) (sym cuts-are)
    (rights_within schema c.sites-sites.ensures.limits c.args.site.0 c.requires.site_in v c.requires.tells.0 c.requires.tells.1
    c.requires.tells.2))

pub returns : goal.returns
returns c =
    let schema = c.args.schema.now in
    let s = c.args.site.0 in
    let v = c.args.summary.now in
    let mid = c.note_gifts.new.ledger in
    let ledger = c.note_accepts.new.ledger in
    let cuts-are : c.deref.result.now ≡ cuts_told schema v =
    (c.deref.ensures.value ∙ cuts_read schema v c.tightenings.result.now c.fields.result c.in_ok-cuts.cuts.items
    c.tightenings.ensures.all c.fields.ensures.value c.in_ok-cuts.ensures) in
    let told : AreTold schema v.rights (cuts_told schema v) c.in_ok-rights.rights =
    subst (λ (cuts : List (ℕ × ℕ)). AreTold schema v.rights cuts c.in_ok-rights.rights) cuts-are
    (subst (λ (rights : List (ℕ × ℕ)). AreTold schema rights c.deref.result.now c.in_ok-rights.rights) c.rights.ensures.all
    c.in_ok-rights.ensures.told) in
    let gifts : NotesGifts (fresh_ledger schema s) v.gifts mid =
    subst (λ (ts : List Total). NotesGifts (fresh_ledger schema s) ts mid) c.gifts.ensures.all
    (subst (λ (l : LedgerValue). NotesGifts l c.gifts.result.now mid) c.in_ok-ledger.ensures.fresh c.note_gifts.ensures.noted) in
    let accepts : NotesAccepts mid v.accepts ledger =
    subst (λ (ts : List Total). NotesAccepts mid ts ledger) c.accepts.ensures.all c.note_accepts.ensures.noted in
    record {
      stands = λ rs tells. record {
        for_ = subst (λ (n : ℕ). StandsFor schema s rs c.in_ok-rights.rights ledger n) (sym c.epoch.ensures.value)
            (stands_told schema s v rs c.in_ok-rights.rights mid ledger tells told gifts accepts);
        none = none_held schema v.rights (cuts_told schema v) c.in_ok-rights.rights told;
      };
    }
