-- A site stays sound where an entry leaves its medium alone.
use Rattle.std.proofs.Common.{◌≡◌, ℕ, ◌+◌, ◌≤◌, Bool, false, List, [], ◌∷◌, ◌++◌, length, refl, sym, ap, subst, ◌∙◌, arith, Option, Some, None}
use Rattle.std.proofs.lemmas.List.{append-nil}
use Rattle.field_bounds.specs.declared.entry.Command.{Command}
use Rattle.field_bounds.specs.declared.entry.Last.{Last}
use Rattle.field_bounds.specs.declared.entry.Reply.{Reply}
use Rattle.field_bounds.specs.declared.entry.Reply.TheVariants.{Refused}
use Rattle.field_bounds.specs.declared.entry.Refusal.{Refusal}
use Rattle.field_bounds.specs.declared.entry.Entry.{Entry}
use Rattle.field_bounds.specs.Effects.{Base}
use Rattle.field_bounds.specs.Owed.{Place, first, refusals, answer, writes, is_up, is_unsure, count_since}
use Rattle.field_bounds.proofs.Refused.{is_restart}
use Rattle.kept_records.specs.declared.record.Record.{Record}
use Rattle.kept_records.specs.declared.record.Record.TheVariants as records
use Rattle.field_bounds.specs.declared.id.SiteNo.{SiteNo}
use Rattle.field_bounds.specs.Schema.{SchemaValue}
use Rattle.kept_records.specs.Stands.{greatest, plain, since_summary, max_behind}
use Rattle.kept_state.specs.Keeps.{Keeps, adds}
use Rattle.kept_state.specs.Doubt.{IsDoubt, found_of}
use Rattle.kept_state.specs.Luck.{doubt_after, record_length}
use Rattle.kept_state.proofs.Adding.{adds_answer, keeps_length, none_left}
use Rattle.site_step.specs.declared.accounts.SiteAccounts.{SiteAccounts}
use Rattle.site_step.specs.declared.extent.Extent.{Extent}
use Rattle.site_step.specs.Site.{SiteValue, base_of, here, entry_of, Holds, Finds, Applies}
use Rattle.site_step.specs.Replaying.{downs_since, downs_before}
use Rattle.site_step.proofs.Holding.{same_told, holds_all}
use Rattle.site_step.specs.State.{StandsOn, IsSoundSite}
use Rattle.site_step.proofs.Settling.{answer_settles, refused_no_restart, refuses_over, refusal_fits, answer_fits, refusal_owed, answer_owed, refusal_under, answer_under, answer_writes, lines_none}
use Rattle.site_step.proofs.Standing.{stands_refused}

-- a site is sound after an entry, which is what the call says
pub record Ends (v : SiteValue) (c : Command) (r : Reply) (w : SiteValue) (up : Bool) (extent : Extent) (a : SiteAccounts) : Type 0 where
  pub sound : IsSoundSite w up extent a
  pub applies : Applies v c r w

-- ---- what a restart would find

pub finds_in : (v : SiteValue) (epoch : ℕ) (found : Last)
    → ((rs : List Record) (rest : List ℕ) → Holds v.schema v.site.0 v.bytes rs rest → (greatest rs ≡ epoch) × (found_of v.doubt rs ≡ found))
    → Finds v epoch found
unfolding Finds
finds_in v epoch found h = h

pub finds_of : (v : SiteValue) (epoch : ℕ) (found : Last) → Finds v epoch found → (rs : List Record) (rest : List ℕ)
    → Holds v.schema v.site.0 v.bytes rs rest → (greatest rs ≡ epoch) × (found_of v.doubt rs ≡ found)
unfolding Finds
finds_of v epoch found h = h

pub finds_same : (v w : SiteValue) (epoch : ℕ) (found : Last) → w.schema ≡ v.schema → w.site ≡ v.site → w.bytes ≡ v.bytes
    → w.doubt ≡ v.doubt → Finds v epoch found → Finds w epoch found
finds_same v w epoch found schema site bytes doubt h =
    finds_in w epoch found (λ rs rest holds.
    let old = finds_of v epoch found h rs rest
    (subst (λ (b : List ℕ). Holds v.schema v.site.0 b rs rest) bytes
    (subst (λ (n : SiteNo). Holds v.schema n.0 w.bytes rs rest) site
    (subst (λ (x : SchemaValue). Holds x w.site.0 w.bytes rs rest) schema holds))) in
    (old.0, ap (λ (d : Option ℕ). found_of d rs) doubt ∙ old.1))

-- where what the medium holds is known
pub finds_held : (w : SiteValue) (records : List Record) (rest : List ℕ) (epoch : ℕ) (found : Last)
    → Holds w.schema w.site.0 w.bytes records rest → greatest records ≡ epoch → found_of w.doubt records ≡ found
    → Finds w epoch found
finds_held w records rest epoch found held greatest_is found_is =
    finds_in w epoch found (λ rs other is.
    let same : rs ≡ records = sym (sym held.told ∙ (same_told w.schema w.site.0 w.bytes held.all rest rs other held.log is).0) in
    (ap greatest same ∙ greatest_is, ap (found_of w.doubt) same ∙ found_is))

-- ---- what is in doubt

pub quiet_doubt : (kept : Bool) (o : List Entry) (e : Entry) (rs : List Record) (doubt : Option ℕ)
    → count_since is_unsure (e ∷ o) ≡ count_since is_unsure o → IsDoubt kept o rs doubt
    → IsDoubt kept (e ∷ o) rs doubt
quiet_doubt kept o e rs None same is = same ∙ is
quiet_doubt kept o e rs (Some n) same is = (omega (arith, same, is.0), is.1, is.2, is.3, is.4)

pub none_in_doubt : (kept : Bool) (o : List Entry) (rs : List Record) (doubt : Option ℕ) → count_since is_unsure o ≡ 0
    → IsDoubt kept o rs doubt → doubt ≡ None
none_in_doubt kept o rs None none is = refl
none_in_doubt kept o rs (Some n) none is = absurd (omega (arith, none, is.0))

module _ (v : SiteValue) (up : Bool) (extent : Extent) (a : SiteAccounts) (was : IsSoundSite v up extent a) where
  abbrev base : Base
  base = base_of v

  abbrev at : Place
  at = here v

  abbrev rs : List Record
  rs = plain was.records

  pub held : Holds v.schema v.site.0 v.bytes rs was.rest
  held = holds_all v.schema v.site.0 v.bytes was.records was.rest was.log was.lawful

  pub few_records : length rs ≤ length (plain v.based) + length v.history
  few_records = omega (arith, keeps_length v.schema v.site.0 base (plain v.based) was.kept v.history rs was.keeps)

  -- ---- a refusal

  refused : (c : Command) (x : Refusal) → first (refusals at c) ≡ Some x
      → Ends v c (Refused x) (record v { history = entry_of v c (Refused x) ∷ v.history }) up extent a
  refused c x some =
      let n = refused_no_restart at c x some in
      record {
        sound = record {
          ground = was.ground;
          records = was.records;
          rest = was.rest;
          kept = was.kept;
          log = was.log;
          lawful = was.lawful;
          run = (was.run, refusal_fits at c x some);
          keeps = (rs, false, was.keeps, tt, sym (append-nil rs));
          up_is = was.up_is;
          held = was.held;
          parts = was.parts;
          begins = was.begins;
          clean = was.clean;
          reaches = was.reaches;
          place = was.place;
          in_doubt = quiet_doubt was.kept v.history (entry_of v c (Refused x)) rs v.doubt (omega arith) was.in_doubt;
          few = was.few;
          replays = was.replays;
          stands = λ u. stands_refused v.schema v.site.0 base v.history was.records a (was.stands u) v.site c x;
        };
        applies = record {
          fits = refusal_fits at c x some;
          entry = refl;
          same = record { schema = refl; site = refl; fresh = refl; based = refl; gone = refl };
          failed = refl;
          logs = λ told rest log. record {
            stood = false;
            rest = rest;
            log = subst (λ (all : List Record). Holds v.schema v.site.0 v.bytes all rest) (sym (append-nil told)) log;
            doubt = refl;
            restarts = tt;
            refuses = refuses_over c (Refused x) told n;
          };
          writes_ = refl;
          foretold = refl;
          under = λ told rest m log known. refusal_under v told rest c m x some;
          exact = λ luck epoch found known finds. record {
            reply_is = refusal_owed at c x epoch found luck some;
            finds = finds_same v (record v { history = entry_of v c (Refused x) ∷ v.history }) epoch found refl refl refl refl finds;
          };
          replays = λ all rest log. refl;
          stands = λ told rest log. tt;
          closed = tt;
        };
      }

  pub ends_refused : (c : Command) (x : Refusal) (h : List Entry) → h ≡ entry_of v c (Refused x) ∷ v.history
      → first (refusals at c) ≡ Some x → Ends v c (Refused x) (record v { history = h }) up extent a
  ends_refused c x h past some = subst (λ (o : List Entry). Ends v c (Refused x) (record v { history = o }) up extent a) (sym past)
      (refused c x some)

  -- ---- an answer that writes no record

  abbrev After : Command → List Entry
  After c = entry_of v c (answer at c) ∷ v.history

  answered : (c : Command) (b : SiteAccounts) → is_restart c ≡ false → first (refusals at c) ≡ None → writes at c ≡ false
      → StandsOn v.schema v.site.0 base (After c) was.records b
      → Ends v c (answer at c) (record v { history = After c }) up extent b
  answered c b n none silent stands =
      let settles = answer_settles at c n in
      let empty : (told : List Record) → told ≡ told ++ adds at c (answer at c) false told =
      λ told. sym (append-nil told) ∙ ap (λ (l : List Record). told ++ l) (sym (adds_answer at c false told n ∙ none_left at c silent)) in
      record {
        sound = record {
          ground = was.ground;
          records = was.records;
          rest = was.rest;
          kept = was.kept;
          log = was.log;
          lawful = was.lawful;
          run = (was.run, answer_fits at c n none);
          keeps = (
            rs,
            false,
            subst (λ (k : Bool). Keeps v.schema v.site.0 base (plain v.based) k v.history rs) (sym (settles.kept was.kept)) was.keeps,
            settles.tells was.kept false rs,
            empty rs,
          );
          up_is = was.up_is ∙ sym (settles.up (is_up base v.history));
          held = was.held;
          parts = was.parts;
          begins = was.begins;
          clean = was.clean;
          reaches = was.reaches;
          place = was.place;
          in_doubt = quiet_doubt was.kept v.history (entry_of v c (answer at c)) rs v.doubt
              (settles.counts (count_since is_unsure v.history)) was.in_doubt;
          few = λ h. subst (λ (m : ℕ). since_summary was.records ≤ max_behind + m) (sym (settles.downs (downs_since v.history)))
              (was.few h);
          replays = λ h. subst (λ (m : ℕ). v.replayed ≤ max_behind + m)
              (sym (settles.before (downs_since v.history) (downs_before v.history))) (was.replays h);
          stands = λ u. stands;
        };
        applies = record {
          fits = answer_fits at c n none;
          entry = refl;
          same = record { schema = refl; site = refl; fresh = refl; based = refl; gone = refl };
          failed = sym (settles.failed v.failed);
          logs = λ told rest log. record {
            stood = false;
            rest = rest;
            log = subst (λ (all : List Record). Holds v.schema v.site.0 v.bytes all rest) (empty told) log;
            doubt = sym (settles.doubt told v.doubt);
            restarts = settles.restarts told v.doubt rest;
            refuses = refuses_over c (answer at c) told n;
          };
          writes_ = answer_writes at c v.bytes v.bytes n
              (λ all rest log. sym (ap (λ (l : List ℕ). v.bytes ++ l) (lines_none at c all silent) ∙ append-nil v.bytes));
          foretold = sym (settles.foretold v.foretold);
          under = λ told rest m log known. answer_under v told rest c m n none silent;
          exact = λ luck epoch found known finds.
              let w : SiteValue = record v { history = After c } in
              record {
                reply_is = answer_owed at c epoch found luck n none silent;
                finds = subst (λ (m : ℕ). Finds w m (doubt_after (answer at c) luck (record_length at c) found))
                    (sym (settles.greatest_is luck epoch))
                    (subst (λ (l : Last). Finds w epoch l) (sym (settles.found luck (record_length at c) found))
                    (finds_same v w epoch found refl refl refl refl finds));
              };
          replays = λ all rest log. settles.replays v.foretold (since_summary all) v.replayed;
          stands = λ told rest log. settles.stands (here (record v { history = After c })) (told
              ++ records.Restart (greatest told + 1) ∷ []);
          closed = settles.closed (here (record v { history = After c }));
        };
      }

  pub ends_answered : (c : Command) (b : SiteAccounts) (r : Reply) (h : List Entry) → r ≡ answer at c → h ≡ entry_of v c r ∷ v.history
      → is_restart c ≡ false → first (refusals at c) ≡ None
      → writes at c ≡ false → StandsOn v.schema v.site.0 base (After c) was.records b → Ends v c r (record v { history = h }) up extent b
  ends_answered c b r h owed past n none silent stands =
      let after : h ≡ After c = past ∙ ap (λ (x : Reply). entry_of v c x ∷ v.history) owed in
      subst (λ (x : Reply). Ends v c x (record v { history = h }) up extent b) (sym owed)
      (subst (λ (o : List Entry). Ends v c (answer at c) (record v { history = o }) up extent b) (sym after)
      (answered c b n none silent stands))
