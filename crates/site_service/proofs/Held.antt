-- A site whose log may be shortened goes on, holds whole lines, and only appends; and is as if nothing were gone.
use Rattle.std.proofs.Common.{◌≡◌, ℕ, ◌≤◌, List, [], ◌∷◌, ◌++◌, length, drop, refl, sym, ap, ◌∙◌, subst, arith, append_assoc, append-nil}
use Rattle.std.specs.List.{flat_map, AllByRecursion}
use Rattle.std.proofs.Math.Seq.{drop-append_seam}
use Rattle.std.proofs.lemmas.List.{length-append, drop-append-le}
use Rattle.std.proofs.lemmas.List.Concat.{flat_map-append}
use Rattle.field_bounds.specs.Schema.{SchemaValue}
use Rattle.field_bounds.specs.declared.id.SiteNo.{SiteNo}
use Rattle.field_bounds.specs.declared.entry.Command.{Command}
use Rattle.field_bounds.specs.declared.entry.Reply.{Reply}
use Rattle.kept_records.specs.declared.record.Record.{Record}
use Rattle.kept_records.specs.Text.{text, IsRecord}
use Rattle.kept_records.specs.Logs.{IsLog}
use Rattle.kept_records.specs.Keeping.{IsKept}
use Rattle.kept_records.proofs.Cursors.{next_in}
use Rattle.kept_state.specs.Keeps.{adds}
use Rattle.site_step.specs.Site.{SiteValue, here, Logs, Finds, Applies, Opens}
use Rattle.site_step.specs.Shortening.{held_of}
use Rattle.site_step.proofs.Lasting.{call_is_sure, call_stays}
use Rattle.site_step.proofs.Lines.{all_stay}
use Rattle.site_step.proofs.Prefixes.{without_gone}
use Rattle.site_service.specs.Answers.{whole_of, Answered}
use Rattle.site_service.specs.Index.{GoesOn}
use Rattle.site_service.specs.Service.{IsWhole, Grows, StandsOnHeld, TellsEntry}
use Rattle.site_service.proofs.Whole.{rest_is_last, writes_whole}

-- ---- what is held

-- the records of a log begin with those that its bytes begin with
pub begins_log : (bytes : List ℕ) (rs : List Record) (left : List ℕ) (all : List Record) (rest : List ℕ) → bytes ≡ flat_map text rs ++ left
    → AllByRecursion IsRecord rs → IsLog bytes all rest → (more : List Record) × (all ≡ rs ++ more)
begins_log bytes [] left all rest parts each log = (all, refl)
begins_log bytes (r ∷ rs) left all rest parts each log =
    let next = next_in bytes all rest r (flat_map text rs ++ left) log (parts ∙ append_assoc (text r) (flat_map text rs) left) each.0 in
    let more = begins_log (flat_map text rs ++ left) rs left next.more rest refl each.1 next.log in
    (more.0, next.parts ∙ ap (λ (l : List Record). r ∷ l) more.1)

-- what a medium holds
pub held_medium : (v : SiteValue) {held : List ℕ} → v.bytes ≡ flat_map text v.gone ++ held → held ≡ held_of v
held_medium v {held = held} is = sym (ap (drop (length (flat_map text v.gone))) is ∙ drop-append_seam (flat_map text v.gone) held)

module _ (v : SiteValue) (stands : StandsOnHeld v) where
  apart : v.bytes ≡ flat_map text v.gone ++ (flat_map text stands.held ++ [])
  apart =
      stands.log.log.parts ∙ ap (λ (rs : List Record). flat_map text rs ++ []) stands.parts
      ∙ ap (λ (l : List ℕ). l ++ []) (flat_map-append text v.gone stands.held)
      ∙ append_assoc (flat_map text v.gone) (flat_map text stands.held) []

  pub bytes_are : v.bytes ≡ flat_map text v.gone ++ held_of v
  bytes_are = apart ∙ ap (λ (l : List ℕ). flat_map text v.gone ++ l) (held_medium v apart)

  pub gone_within : length (flat_map text v.gone) ≤ length v.bytes
  gone_within = omega (arith, ap length bytes_are, length-append (flat_map text v.gone) (held_of v))

  -- it is a log of the records that are held
  pub held_log : IsLog (held_of v) stands.held []
  held_log =
      without_gone v.gone stands.held (held_of v) [] (subst (λ (b : List ℕ). IsLog b (v.gone ++ stands.held) []) bytes_are
      (subst (λ (rs : List Record). IsLog v.bytes rs []) stands.parts stands.log.log))

  pub held_kept : IsKept (held_of v)
  held_kept = (stands.held, [], held_log)

  pub whole_stands : IsWhole (whole_of v)
  whole_stands = record { never = stands.never; held = refl; records = stands.records; log = stands.log }

-- where nothing is gone
pub stands_whole : (v : SiteValue) → IsWhole v → StandsOnHeld v
stands_whole v whole = record {
  never = whole.never;
  records = whole.records;
  log = whole.log;
  held = whole.log.all;
  parts = ap (λ (rs : List Record). rs ++ whole.log.all) (sym whole.held);
}

pub held_all : (v : SiteValue) → v.gone ≡ [] → held_of v ≡ v.bytes
held_all v none = ap (λ (rs : List Record). drop (length (flat_map text rs)) v.bytes) none

-- ---- what a call leaves

pub goes_by : (before later : SiteValue) (command : Command) (reply : Reply) → Applies before command reply later → StandsOnHeld before
    → GoesOn before later
goes_by before later command reply applies stands =
    let sure = call_is_sure before later stands.records [] command reply stands.log stands.never applies in
    let logs = applies.logs stands.records [] stands.log in
    let end = writes_whole (here before) command reply before.bytes later.bytes stands.log.all stands.log.log sure applies.writes_ in
    let none : logs.rest ≡ [] = sym (rest_is_last later.bytes logs.log.all logs.rest logs.log.log) ∙ end in
    let added = all_stay before later stands.log.all command reply stands.log.log applies in
    let lines = flat_map text stands.log.all in
    let front : later.bytes ≡ lines ++ added.0 =
    added.1 ∙ ap (λ (b : List ℕ). b ++ added.0) (stands.log.log.parts ∙ append-nil lines) in
    let more = begins_log later.bytes stands.log.all added.0 logs.log.all logs.rest front stands.log.log.each logs.log.log in
    record {
      stands = record {
        never = call_stays before later command reply stands.never applies;
        records = stands.records ++ adds (here before) command reply logs.stood stands.records;
        log = record {
          all = logs.log.all;
          log = subst (IsLog later.bytes logs.log.all) none logs.log.log;
          lawful = logs.log.lawful;
          told = logs.log.told;
        };
        held = stands.held ++ more.0;
        parts = more.1 ∙ ap (λ (rs : List Record). rs ++ more.0) stands.parts ∙ append_assoc before.gone stands.held more.0
            ∙ ap (λ (rs : List Record). rs ++ (stands.held ++ more.0)) (sym applies.same.gone);
      };
      gone = applies.same.gone;
      added = added.0;
      bytes = added.1;
      schema = applies.same.schema;
    }

-- a site that is as it was
pub goes_same : (before later : SiteValue) → later ≡ before → StandsOnHeld before → GoesOn before later
goes_same before later same stands =
    subst (GoesOn before) (sym same)
    (record { stands = stands; gone = refl; added = []; bytes = sym (append-nil before.bytes); schema = refl })

-- what is held grows by the same
pub held_goes : (old new : SiteValue) → StandsOnHeld old → (goes : GoesOn old new) → held_of new ≡ held_of old ++ goes.added
held_goes old new stands goes =
    ap (λ (rs : List Record). drop (length (flat_map text rs)) new.bytes) goes.gone
    ∙ ap (drop (length (flat_map text old.gone))) goes.bytes
    ∙ drop-append-le (length (flat_map text old.gone)) old.bytes goes.added (gone_within old stands)

pub grows_whole : (old new : SiteValue) → GoesOn old new → Grows (whole_of old) (whole_of new)
grows_whole old new goes = record { whole = whole_stands new goes.stands; added = goes.added; bytes = goes.bytes; schema = goes.schema }

-- ---- as if nothing were gone

module _ (v w : SiteValue) (command : Command) (reply : Reply) where
  logs_whole : (rs : List Record) → Logs v command reply w rs → Logs (whole_of v) command reply (whole_of w) rs
  logs_whole rs logs = record {
    stood = logs.stood;
    rest = logs.rest;
    log = logs.log;
    doubt = logs.doubt;
    restarts = logs.restarts;
    refuses = logs.refuses;
  }

  pub applies_whole : Applies v command reply w → Applies (whole_of v) command reply (whole_of w)
  unfolding Finds
  applies_whole a = record {
    fits = a.fits;
    entry = a.entry;
    same = record { schema = a.same.schema; site = a.same.site; fresh = a.same.fresh; based = a.same.based; gone = refl };
    failed = a.failed;
    logs = λ rs rest log. logs_whole rs (a.logs rs rest log);
    writes_ = a.writes_;
    foretold = a.foretold;
    under = a.under;
    exact = λ luck epoch found will finds. let e = a.exact luck epoch found will finds in record { reply_is = e.reply_is; finds = e.finds };
    replays = a.replays;
    stands = a.stands;
    closed = a.closed;
  }

pub answered_whole : (v w : SiteValue) (command : Command) (text : List ℕ) → Answered v command w text
    → Answered (whole_of v) command (whole_of w) text
answered_whole v w command text answered = record {
  reply = answered.reply;
  applies = applies_whole v w command answered.reply answered.applies;
  told = answered.told;
}

pub tells_whole : (v w : SiteValue) (command : Command) (out grown : List ℕ) → TellsEntry command v w out grown
    → TellsEntry command (whole_of v) (whole_of w) out grown
tells_whole v w command out grown told =
    record { text = told.text; answered = answered_whole v w command told.text told.answered; added = told.added }

pub opens_whole : (schema : SchemaValue) (number : SiteNo) (bytes : List ℕ) (count : ℕ) (v : SiteValue) → Opens schema number bytes count v
    → Opens schema number bytes count (whole_of v)
opens_whole schema number bytes count v o = record {
  schema = o.schema;
  site = o.site;
  fresh = o.fresh;
  rest = o.rest;
  based = o.based;
  lawful = o.lawful;
  history = o.history;
  bytes = o.bytes;
  failed = o.failed;
  doubt = o.doubt;
  replayed = o.replayed;
}
