-- What a site that is up holds in memory, told by its history.
use Rattle.std.proofs.Common.{◌≡◌, ℕ, ◌<◌, List, length, Bool, true, false, sym, ◌∙◌, arith}
use Rattle.field_bounds.specs.declared.kind.Kind.{Kind}
use Rattle.field_bounds.specs.declared.entry.Entry.{Entry}
use Rattle.field_bounds.specs.Schema.{SchemaValue}
use Rattle.field_bounds.specs.Parts.{field_at, width_of}
use Rattle.field_bounds.specs.declared.effect.Effect.{Effect}
use Rattle.field_bounds.specs.Effects.{Base, total_given, cut, total_accepted, share, held_rights, effects}
use Rattle.field_bounds.specs.Owed.{epoch_of, count_since, is_begun_reply, is_up}
use Rattle.site_rights.specs.declared.field_rights.FieldRights.{FieldRights}
use Rattle.site_rights.specs.Rights.{row_at, free_at, held_at, cut_at}
use Rattle.escrow_journal.specs.Journal.{Row}
use Rattle.gift_ledger.specs.Ledger.{LedgerValue, total_at, accepted_at, IsSlot}
use Rattle.kept_state.proofs.Keeping.{run_owns, run_gives, run_cuts, run_accepts}
use Rattle.kept_state.proofs.Epochs.{up_epoch}
use Rattle.kept_state.proofs.Sure.{keeps_up}
use Rattle.log_replay.specs.Standing.{IsOther}
use Rattle.kept_records.specs.Stands.{plain}
use Rattle.kept_records.proofs.Summaries.{own_same, plain_same}
use Rattle.site_step.specs.declared.accounts.SiteAccounts.{SiteAccounts}
use Rattle.site_step.specs.declared.extent.Extent.{Extent}
use Rattle.site_step.specs.Site.{SiteValue, base_of}
use Rattle.site_step.specs.State.{journal_of, IsSoundSite}

-- the rights and the open transactions are those of what took effect
pub record Matches (schema : SchemaValue) (base : Base) (es : List Effect) (rows : List FieldRights) (open_rows : List Row) : Type 0 where
  pub count : length rows ≡ length schema.fields
  pub width : (f : ℕ) → f < length rows → (row_at rows f).width ≡ width_of (field_at schema f)
  pub free : (f : ℕ) (k : Kind) → f < length rows → free_at rows f k ≡ share base f k es
  pub held : (f : ℕ) (k : Kind) → f < length rows → held_at rows f k ≡ held_rights f k es
  pub cut : (f : ℕ) (k : Kind) → f < length rows → cut_at rows f k ≡ cut base f k es
  pub journal : open_rows ≡ journal_of es

-- the ledger is the site's, and holds the totals of what took effect
pub record Holds (schema : SchemaValue) (s : ℕ) (base : Base) (es : List Effect) (ledger : LedgerValue) : Type 0 where
  pub place : (r f : ℕ) → IsOther schema s r f → IsSlot ledger r f
  pub given : (r f : ℕ) (k : Kind) → IsOther schema s r f → total_at ledger r f k ≡ total_given base r f k es
  pub accepted : (r f : ℕ) (k : Kind) → IsOther schema s r f → accepted_at ledger r f k ≡ total_accepted base r f k es
  pub site : ledger.site ≡ s

pub record Reads (schema : SchemaValue) (s : ℕ) (base : Base) (o : List Entry) (a : SiteAccounts) : Type 0 where
  pub matches : Matches schema base (effects base false o) a.standing.rights a.journal
  pub holds : Holds schema s base (effects base false o) a.standing.ledger
  pub epoch : a.standing.epoch ≡ epoch_of base o
  pub last : a.last ≡ count_since is_begun_reply o

-- what is kept is what was done
pub reads : (v : SiteValue) (up : Bool) (extent : Extent) (a : SiteAccounts) → IsSoundSite v up extent a → is_up (base_of v) v.history ≡ true
    → Reads v.schema v.site.0 (base_of v) v.history a
reads v up extent a was there =
    let st = was.stands there in
    let base : Base = base_of v in
    let bs = plain v.based in
    let rs = plain was.records in
    let sums = plain_same was.records in
    let keeps = keeps_up v.schema v.site.0 base bs was.kept false v.history rs there was.keeps in
    let owns = run_owns v.schema v.site.0 base bs false v.history rs was.ground.is_base was.run keeps in
    record {
      matches = record {
        count = st.standing.count;
        width = st.standing.width;
        free = λ f k l. omega (
          arith,
          st.standing.own f k l,
          st.aside.held f k l,
          owns f k,
          own_same v.schema v.site.0 rs was.records sums f k,
        );
        held = st.aside.held;
        cut = λ f k l. st.standing.cut f k l ∙ sym (sums.cut f k)
            ∙ sym (run_cuts v.schema v.site.0 base bs false v.history rs was.ground.is_base was.run keeps f k);
        journal = st.aside.journal;
      };
      holds = record {
        place = st.standing.place;
        given = λ r f k other. st.standing.given r f k other ∙ sym (sums.given r f k)
            ∙ sym (run_gives v.schema v.site.0 base bs false v.history rs was.ground.is_base was.run keeps r f k);
        accepted = λ r f k other. st.standing.accepted r f k other ∙ sym (sums.accepted r f k)
            ∙ sym (run_accepts v.schema v.site.0 base bs false v.history rs was.ground.is_base was.run keeps r f k);
        site = st.standing.site;
      };
      epoch = st.standing.epoch ∙ sym sums.epoch ∙ sym
          (up_epoch v.schema v.site.0 base bs was.ground.is_base false v.history rs keeps there);
      last = st.last;
    }
