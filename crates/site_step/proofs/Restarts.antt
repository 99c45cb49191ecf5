-- A site stays sound over a restart, however it goes.
use Rattle.std.proofs.Common.{◌≡◌, ◌≢◌, ℕ, ◌+◌, ◌<◌, ◌≤◌, Bool, true, false, cond, List, [], ◌∷◌, ◌++◌, length, refl, sym, ap, subst, ◌∙◌, inl, inr, arith, Option, Some, None}
use Rattle.std.specs.List.{flat_map}
use Rattle.std.specs.Prelude.{◌⊎◌, nat_le, unwrap_or, if◌then◌else◌, map, reverse}
use Rattle.std.proofs.lemmas.Bool.{false≢true, lt-leb, le-leb}
use Rattle.std.proofs.lemmas.List.{append-nil, length-append}
use Rattle.std.proofs.lemmas.List.Concat.{flat_map-append}
use Rattle.field_bounds.specs.declared.kind.Kind.{Kind}
use Rattle.field_bounds.specs.declared.id.TxnId.{TxnId}
use Rattle.field_bounds.specs.declared.entry.Command.TheVariants.{Restart}
use Rattle.field_bounds.specs.declared.entry.Last.{Last}
use Rattle.field_bounds.specs.declared.entry.Last.TheVariants.{Nothing, Kept, Lost}
use Rattle.field_bounds.specs.declared.entry.Reply.{Reply}
use Rattle.field_bounds.specs.declared.entry.Reply.TheVariants.{Restarted, StillDown, Refused}
use Rattle.field_bounds.specs.declared.entry.Refusal.TheVariants.{NumbersFull}
use Rattle.field_bounds.specs.declared.entry.Entry.{Entry}
use Rattle.field_bounds.specs.Schema.{SchemaValue}
use Rattle.field_bounds.specs.declared.effect.Effect.{Effect}
use Rattle.field_bounds.specs.declared.effect.Effect.TheVariants.{Stops}
use Rattle.field_bounds.specs.Effects.{Base, effects, share, held_rights, says_doubt_kept}
use Rattle.field_bounds.specs.Owed.{Place, is_unsure, count_since, max_epoch, RestartFits}
use Rattle.field_bounds.proofs.Runs.{run_is_lawful}
use Rattle.field_bounds.proofs.Stops.{stop_closes_all, held_stop}
use Rattle.kept_records.specs.declared.medium.Mishap.{Mishap}
use Rattle.kept_records.specs.declared.medium.Mishap.TheVariants.{Never, Append, Cut, Read}
use Rattle.kept_records.specs.declared.record.Record.{Record}
use Rattle.kept_records.specs.declared.record.Record.TheVariants as records
use Rattle.kept_records.specs.Text.{text}
use Rattle.kept_records.specs.Medium.{IsCutShort}
use Rattle.kept_records.specs.Logs.{IsLog}
use Rattle.kept_records.specs.Stands.{greatest, own_in, plain, since_summary, max_behind, Lawful}
use Rattle.kept_records.proofs.Lines.{same_log}
use Rattle.kept_state.specs.declared.luck.Luck.{Luck}
use Rattle.kept_state.specs.declared.luck.Luck.TheVariants.{Fine, Torn}
use Rattle.kept_state.specs.Keeps.{Keeps, adds}
use Rattle.kept_records.specs.Keeping.{is_record_behind}
use Rattle.kept_records.specs.ReadingBack.{AreBehind}
use Rattle.kept_state.specs.Doubt.{IsDoubt, found_of}
use Rattle.kept_state.specs.Luck.{restart_length, owed_with}
use Rattle.kept_records.proofs.Pushes.{greatest_push}
use Rattle.kept_state.proofs.Keeping.{run_gives, run_cuts, run_accepts, run_restarts}
use Rattle.kept_state.proofs.Epochs.{restart_fits, refused_fits}
use Rattle.kept_state.proofs.Sure.{keeps_sure}
use Rattle.kept_state.proofs.Doubt.{doubt_restart, found_is_kept}
use Rattle.log_replay.specs.declared.standing.Standing.{Standing}
use Rattle.log_replay.specs.Standing.{IsStandingFor, TakesIn}
use Rattle.site_step.specs.declared.accounts.SiteAccounts.{SiteAccounts}
use Rattle.site_step.specs.declared.extent.Extent.{Extent}
use Rattle.site_step.specs.Site.{SiteValue, base_of, here, entry_of, mishap_of, luck_under, owed_under, Holds, Finds, IsExact, Applies}
use Rattle.site_step.specs.State.{row_of, StandsOn, IsSoundSite, ReachesAll}
use Rattle.site_step.specs.Resuming.{next_restart, next_piece, found_by, Leaves, HasRead, FailsOver, FullOver, StandsOver, all_bytes}
use Rattle.site_step.proofs.Standing.{stands_refused}
use Rattle.site_step.specs.Replaying.{ReplaysFailed, downs_before}
use Rattle.site_step.specs.Anew.{IsStoodFor}
use Rattle.site_step.proofs.Holding.{greatest_plain, holds_all, same_told, plain_piece, piece_same, all_lawful, left_plain}
use Rattle.site_step.proofs.Extents.{reach_all, reach_next, reach_more, behind_is, count_more, last_is}
use Rattle.site_step.proofs.Prefixes.{without_gone, begins_more, parts_more}
use Rattle.site_step.proofs.Resumes.{restart_may}
use Rattle.site_step.proofs.Writes.{stands_as}
use Rattle.site_step.proofs.Ends.{Ends, finds_of, finds_held, finds_same, quiet_doubt}

abbrev pub says : Bool → Last
says kept = if kept then Kept else Lost

says_it : (kept : Bool) → says_doubt_kept (says kept) ≡ kept
says_it true = refl
says_it false = refl

says_some : (kept : Bool) → says kept ≡ Nothing → ⊥
says_some true h = cc
says_some false h = cc

pub record FoundIs (schema : SchemaValue) (s : ℕ) (base : Base) (bs : List Record) (o : List Entry) (rs : List Record)
    (found : Last) : Type 0 where
  pub keeps : Keeps schema s base bs (says_doubt_kept found) o rs
  pub there : count_since is_unsure o ≡ 0 → found ≡ Nothing
  pub back : found ≡ Nothing → count_since is_unsure o ≡ 0

-- what the site says of its record in doubt is what the medium kept
module _ (schema : SchemaValue) (s : ℕ) (base : Base) (bs : List Record) (o : List Entry) (rs : List Record) (kept : Bool)
    (keeps : Keeps schema s base bs kept o rs) where
  pub found_is : (doubt : Option ℕ) → IsDoubt kept o rs doubt → FoundIs schema s base bs o rs (found_of doubt rs)
  found_is None is = record { keeps = keeps_sure schema s base bs kept false o rs is keeps; there = λ h. refl; back = λ h. is }
  found_is (Some n) is =
      let stood : is_record_behind n rs ≡ kept = ap (λ (m : ℕ). is_record_behind m rs) is.3 ∙ found_is_kept kept is.1 is.2 rs is.4 in
      let said : found_of (Some n) rs ≡ says kept = ap says stood in
      subst (λ (x : Last). FoundIs schema s base bs o rs x) (sym said)
      (record {
        keeps = subst (λ (k : Bool). Keeps schema s base bs k o rs) (sym (says_it kept)) keeps;
        there = λ h. absurd (omega (arith, h, is.0));
        back = λ h. absurd (says_some kept h);
      })

-- a restart's record behind the others changes nothing of that
pub found_more : (kept : Bool) (o : List Entry) (rs : List Record) (epoch : ℕ) (doubt : Option ℕ) → IsDoubt kept o rs doubt
    → found_of doubt (rs ++ records.Restart epoch ∷ []) ≡ found_of doubt rs
found_more kept o rs epoch None is = refl
found_more kept o rs epoch (Some n) is =
    let more : is_record_behind n (rs ++ records.Restart epoch ∷ []) ≡ kept =
    ap (λ (m : ℕ). is_record_behind m (rs ++ records.Restart epoch ∷ [])) is.3
    ∙ found_is_kept kept is.1 is.2 (rs ++ records.Restart epoch ∷ []) (doubt_restart kept is.1 is.2 rs epoch is.4) in
    let stood : is_record_behind n rs ≡ kept = ap (λ (m : ℕ). is_record_behind m rs) is.3 ∙ found_is_kept kept is.1 is.2 rs is.4 in
    ap says (more ∙ sym stood)

still_doubt : (kept : Bool) (o : List Entry) (e : Entry) (rs : List Record) (epoch : ℕ) (doubt : Option ℕ)
    → count_since is_unsure (e ∷ o) ≡ count_since is_unsure o → IsDoubt kept o rs doubt
    → IsDoubt kept (e ∷ o) (rs ++ records.Restart epoch ∷ []) doubt
still_doubt kept o e rs epoch None same is = same ∙ is
still_doubt kept o e rs epoch (Some n) same is = (omega (arith, same, is.0), is.1, is.2, is.3, doubt_restart kept is.1 is.2 rs epoch is.4)

-- what a restart that failed tells of the records that it replayed
replayed_by : (turns : Option ℕ) (behind before after : ℕ) → ((n : ℕ) → turns ≡ Some n → n ≡ behind) → after ≡ unwrap_or turns before
    → (after ≡ behind) ⊎ (after ≡ before)
replayed_by None behind before after read is = inr is
replayed_by (Some n) behind before after read is = inl (is ∙ read n refl)

failed_replays : (foretold : Option Mishap) (turns : Option ℕ) (behind before after : ℕ) → (foretold ≡ Some Never → ⊥)
    → HasRead turns foretold → ((n : ℕ) → turns ≡ Some n → n ≡ behind) → after ≡ unwrap_or turns before
    → ReplaysFailed foretold behind before after
failed_replays None turns behind before after never has read is = replayed_by turns behind before after read is
failed_replays (Some Never) turns behind before after never has read is = never refl
failed_replays (Some Read) None behind before after never has read is = is
failed_replays (Some Read) (Some n) behind before after never has read is = absurd (has refl)
failed_replays (Some (Append m)) None behind before after never has read is = absurd (has.0 m refl)
failed_replays (Some (Append m)) (Some n) behind before after never has read is = is ∙ read n refl
failed_replays (Some Cut) None behind before after never has read is = absurd (has.1 refl)
failed_replays (Some Cut) (Some n) behind before after never has read is = is ∙ read n refl

-- a mishap for cuts, where there is something to cut
luck_torn : (rest : List ℕ) → rest ≢ [] → luck_under Restart rest Cut ≡ Torn 0
luck_torn [] some = absurd (some refl)
luck_torn (b ∷ rest) some = refl

length_push : (rs : List Record) (r : Record) → length (rs ++ r ∷ []) ≡ length rs + 1
length_push rs r = omega (arith, length-append rs (r ∷ []))

greatest_next : (rs : List Record) → greatest (rs ++ next_restart rs ∷ []) ≡ greatest rs + 1
greatest_next rs = greatest_push rs (next_restart rs) ∙ omega arith

module _ (v : SiteValue) (up : Bool) (extent : Extent) (a : SiteAccounts) (was : IsSoundSite v up extent a) where
  abbrev base : Base
  base = base_of v

  abbrev at : Place
  at = here v

  abbrev schema : SchemaValue
  schema = v.schema

  abbrev s : ℕ
  s = v.site.0

  -- all records, and those that are no summaries
  abbrev all : List Record
  all = was.records

  abbrev rs : List Record
  rs = plain was.records

  abbrev bs : List Record
  bs = plain v.based

  found : FoundIs schema s base bs v.history rs (found_of v.doubt rs)
  found = found_is schema s base bs v.history rs was.kept was.keeps v.doubt was.in_doubt

  epochs : greatest rs ≡ greatest all
  epochs = greatest_plain all

  next_same : next_restart rs ≡ next_restart all
  next_same = ap (λ (n : ℕ). records.Restart (n + 1)) epochs

  held : Holds schema s v.bytes rs was.rest
  held = holds_all schema s v.bytes all was.rest was.log was.lawful

  same_as : (other : List Record) (more : List ℕ) → Holds schema s v.bytes other more → (rs ≡ other) × (was.rest ≡ more)
  same_as other more is = same_told schema s v.bytes all was.rest other more was.log is

  same_all : (other : List Record) (more : List ℕ) → IsLog v.bytes other more → all ≡ other
  same_all other more is = (same_log v.bytes all other was.rest more was.log is).0

  -- ---- the device failed

  abbrev Failing : List Entry
  Failing = entry_of v Restart StillDown ∷ v.history

  module _ (b : SiteAccounts) (turns : Option ℕ) (replayed_ : ℕ) (bytes : List ℕ) (left : Option Mishap)
      (failing : FailsOver schema s all turns was.rest v.bytes bytes v.foretold left v.failed (v.failed + 1))
      (told_ : replayed_ ≡ unwrap_or turns v.replayed) where
    abbrev down : SiteValue
    down = record v { history = Failing; bytes = bytes; failed = v.failed + 1; foretold = left; replayed = replayed_ }

    -- what stands then, told without summaries
    module _ (stood : Bool) (is : Leaves schema s all (next_restart all) stood bytes) where
      abbrev then_told : List Record
      then_told = rs ++ cond stood (next_restart rs ∷ []) []

      told_is : plain (all ++ is.front) ≡ then_told
      told_is = left_plain schema s all (next_restart all) stood bytes is
          ∙ ap (λ (r : Record). rs ++ cond stood (r ∷ []) []) (sym next_same)

      held_then : Holds schema s bytes then_told is.rest
      held_then = record { all = all ++ is.front; log = is.log; lawful = is.lawful; told = told_is }

    exact_down : (luck : Luck) (epoch : ℕ) (told : Last) → v.foretold ≡ Some (mishap_of luck) → Finds v epoch told
        → IsExact v Restart StillDown down luck epoch told
    exact_down Fine epoch told known finds = absurd (failing.never known)
    exact_down (Torn n) epoch told known finds =
        let torn = failing.torn n known in
        let old = finds_of v epoch told finds rs was.rest held in
        let below : nat_le max_epoch epoch ≡ false = lt-leb max_epoch epoch (omega (arith, old.0, epochs, torn.0)) in
        record {
          reply_is = rw below refl;
          finds =
              by (nat_le (length (text (next_restart all))) n) (sym (same_size epoch old.0)) torn.1 old.0 old.1;
        }
      where
        same_size : (epoch : ℕ) → greatest rs ≡ epoch → nat_le (restart_length (epoch + 1)) n ≡ nat_le (length (text (next_restart all))) n
        same_size epoch is = ap (λ (m : ℕ). nat_le (restart_length (m + 1)) n) (sym is ∙ epochs)

        by : (stood : Bool) → stood ≡ nat_le (restart_length (epoch + 1)) n → Leaves schema s all (next_restart all) stood bytes
            → greatest rs ≡ epoch → found_of v.doubt rs ≡ told
            → Finds down (if nat_le (restart_length (epoch + 1)) n then epoch + 1 else epoch) told
        by true long is epoch_is found_is_ =
            subst (λ (t : Bool). Finds down (if t then epoch + 1 else epoch) told) long
            (finds_held down (rs ++ next_restart rs ∷ []) is.rest (epoch + 1) told (held_then true is)
            (greatest_next rs ∙ ap (λ (m : ℕ). m + 1) epoch_is)
            (found_more was.kept v.history rs (greatest rs + 1) v.doubt was.in_doubt ∙ found_is_))
        by false short is epoch_is found_is_ =
            subst (λ (t : Bool). Finds down (if t then epoch + 1 else epoch) told) short
            (finds_held down rs is.rest epoch told
            (subst (λ (x : List Record). Holds schema s bytes x is.rest) (append-nil rs) (held_then false is)) epoch_is found_is_)

    under_down : (m : Mishap) → v.foretold ≡ Some m → StillDown ≡ owed_under v rs was.rest Restart m
    under_down Never known = absurd (failing.never known)
    under_down Read known = refl
    under_down (Append n) known = rw (lt-leb max_epoch (greatest rs) (omega (arith, epochs, (failing.torn n known).0))) refl
    under_down Cut known =
        let is = failing.cut known in
        rw (lt-leb max_epoch (greatest rs) (omega (arith, epochs, is.0)), luck_torn was.rest is.1) refl

    applies_down : (stood : Bool) → Leaves schema s all (next_restart all) stood bytes → Applies v Restart StillDown down
    applies_down stood is =
        record {
          fits = tt;
          entry = refl;
          same = record { schema = refl; site = refl; fresh = refl; based = refl; gone = refl };
          failed = refl;
          logs = λ other more holds.
              record {
                stood = stood;
                rest = is.rest;
                log = subst (λ (x : List Record). Holds schema s bytes (x ++ adds at Restart StillDown stood x) is.rest)
                    (same_as other more holds).0 (held_then stood is);
                doubt = refl;
                restarts = tt;
                refuses = tt;
              };
          writes_ = λ other more log.
              subst (λ (x : List Record). (bytes ≡ v.bytes)
              ⊎ IsCutShort (flat_map text x) (flat_map text (next_piece schema s x)) bytes) (same_all other more log) failing.left_;
          foretold = failing.struck_;
          under = λ other more m holds known.
              let same = same_as other more holds in
              subst (λ (x : List Record). StillDown ≡ owed_under v x more Restart m) same.0
              (subst (λ (x : List ℕ). StillDown ≡ owed_under v rs x Restart m) same.1 (under_down m known));
          exact = exact_down;
          replays = λ other more log.
              subst (λ (n : ℕ). ReplaysFailed v.foretold n v.replayed replayed_) (ap since_summary (same_all other more log))
              (failed_replays v.foretold turns (since_summary all) v.replayed replayed_ failing.never failing.read failing.replayed told_);
          stands = λ other more holds. tt;
          closed = tt;
        }

    few_replayed : since_summary v.based ≤ max_behind → replayed_ ≤ max_behind + downs_before Failing
    few_replayed h = few_by (replayed_by turns (since_summary all) v.replayed replayed_ failing.replayed told_)
      where
        few_by : (replayed_ ≡ since_summary all) ⊎ (replayed_ ≡ v.replayed) → replayed_ ≤ max_behind + downs_before Failing
        few_by (inl is) = omega (arith, is, was.few h)
        few_by (inr is) = omega (arith, is, was.replays h)

    failed : (stood : Bool) → Leaves schema s all (next_restart all) stood bytes → Ends v Restart StillDown down false extent b
    failed stood is =
        record {
          sound = record {
            ground = was.ground;
            records = all ++ is.front;
            rest = is.rest;
            kept = was.kept;
            log = is.log;
            lawful = is.lawful;
            run = (was.run, tt);
            keeps = (rs, stood, was.keeps, tt, told_is stood is);
            up_is = refl;
            held = was.held ++ is.front;
            parts = parts_more v.gone was.held all is.front was.parts;
            begins = begins_more v.gone was.held is.front was.begins;
            clean = λ u. absurd (false≢true u);
            reaches = reach_more extent v.gone was.held is.front is.first_ was.reaches;
            place = was.place;
            in_doubt = subst (λ (x : List Record). IsDoubt was.kept Failing x v.doubt) (sym (told_is stood is)) (in_doubt_then stood);
            few = λ h. omega (arith, is.one, was.few h);
            replays = few_replayed;
            stands = λ u. absurd (false≢true u);
          };
          applies = applies_down stood is;
        }
      where
        in_doubt_then : (b : Bool) → IsDoubt was.kept Failing (rs ++ cond b (next_restart rs ∷ []) []) v.doubt
        in_doubt_then true = still_doubt was.kept v.history (entry_of v Restart StillDown) rs (greatest rs + 1) v.doubt
            (omega arith) was.in_doubt
        in_doubt_then false =
            subst (λ (x : List Record). IsDoubt was.kept Failing x v.doubt) (sym (append-nil rs))
            (quiet_doubt was.kept v.history (entry_of v Restart StillDown) rs v.doubt (omega arith) was.in_doubt)

    ends_down : Ends v Restart StillDown down false extent b
    ends_down = failed failing.leaves.0 failing.leaves.1

  pub ends_failed : (b : SiteAccounts) (turns : Option ℕ) (replayed_ : ℕ) (bytes : List ℕ) (failed : ℕ) (left : Option Mishap) (h : List Entry)
      → h ≡ Failing
      → FailsOver schema s all turns was.rest v.bytes bytes v.foretold left v.failed failed
      → replayed_ ≡ unwrap_or turns v.replayed
      → Ends v Restart StillDown (record v { history = h; bytes = bytes; failed = failed; foretold = left; replayed = replayed_ }) false
      extent b
  ends_failed b turns replayed_ bytes failed left h past failing told_ =
      subst (λ (o : List Entry). Ends v Restart StillDown
      (record v { history = o; bytes = bytes; failed = failed; foretold = left; replayed = replayed_ }) false extent b) (sym past)
      (subst (λ (n : ℕ). Ends v Restart StillDown (record v {
        history = Failing;
        bytes = bytes;
        failed = n;
        foretold = left;
        replayed =
            replayed_;
      }) false extent b) (sym failing.counts)
      (ends_down b turns replayed_ bytes left (subst
      (λ (n : ℕ). FailsOver schema s all turns was.rest v.bytes bytes v.foretold left v.failed n) failing.counts failing) told_))

  -- ---- no epoch is left

  abbrev Full : Reply
  Full = Refused NumbersFull

  under_full : max_epoch ≤ greatest rs → (v.foretold ≡ Some Read → ⊥) → (m : Mishap) → v.foretold ≡ Some m
      → Full ≡ owed_under v rs was.rest Restart m
  under_full most read Read known = absurd (read known)
  under_full most read m known = rw (le-leb max_epoch (greatest rs) most) refl

  full : (left : Option Mishap) → max_epoch ≤ greatest rs → (v.foretold ≡ Some Read → ⊥) → left ≡ v.foretold
      → Ends v Restart Full (record v { history = entry_of v Restart Full ∷ v.history; foretold = left }) up extent a
  full left most read stays =
      let w : SiteValue = record v { history = entry_of v Restart Full ∷ v.history; foretold = left } in
      let fits = refused_fits schema s base bs was.ground.is_base was.kept v.history rs was.keeps most in
      record {
        sound = record {
          ground = was.ground;
          records = all;
          rest = was.rest;
          kept = was.kept;
          log = was.log;
          lawful = was.lawful;
          run = (was.run, fits);
          keeps = (rs, false, was.keeps, tt, sym (append-nil rs));
          up_is = was.up_is;
          held = was.held;
          parts = was.parts;
          begins = was.begins;
          clean = was.clean;
          reaches = was.reaches;
          place = was.place;
          in_doubt = quiet_doubt was.kept v.history (entry_of v Restart Full) rs v.doubt (omega arith) was.in_doubt;
          few = was.few;
          replays = was.replays;
          stands = λ u. stands_refused schema s base v.history all a (was.stands u) v.site Restart NumbersFull;
        };
        applies = record {
          fits = fits;
          entry = refl;
          same = record { schema = refl; site = refl; fresh = refl; based = refl; gone = refl };
          failed = refl;
          logs = λ other rest is. record {
            stood = false;
            rest = rest;
            log = subst (λ (x : List Record). Holds schema s v.bytes x rest) (sym (append-nil other)) is;
            doubt = refl;
            restarts = tt;
            refuses = subst (λ (x : List Record). max_epoch ≤ greatest x) (same_as other rest is).0 most;
          };
          writes_ = refl;
          foretold = stays;
          under = λ other more m is known.
              let same = same_as other more is in
              subst (λ (x : List Record). Full ≡ owed_under v x more Restart m) same.0
              (subst (λ (x : List ℕ). Full ≡ owed_under v rs x Restart m) same.1 (under_full most read m known));
          exact = λ luck epoch last known finds.
              let old = finds_of v epoch last finds rs was.rest held in
              let over : nat_le max_epoch epoch ≡ true = le-leb max_epoch epoch (omega (arith, old.0, most)) in
              record { reply_is = rw over refl; finds = finds_same v w epoch last refl refl refl refl finds };
          replays = λ other more log. refl;
          stands = λ other rest is. tt;
          closed = tt;
        };
      }

  pub ends_full : (bytes : List ℕ) (failed : ℕ) (left : Option Mishap) (h : List Entry) → h ≡ entry_of v Restart Full ∷ v.history
      → FullOver all v.bytes bytes v.foretold left v.failed failed
      → Ends v Restart Full (record v { history = h; bytes = bytes; failed = failed; foretold = left }) up extent a
  ends_full bytes failed left h past over =
      let After : List Entry = entry_of v Restart Full ∷ v.history in
      subst (λ (o : List Entry). Ends v Restart Full
      (record v { history = o; bytes = bytes; failed = failed; foretold = left }) up extent a) (sym past)
      (subst (λ (x : List ℕ). Ends v Restart Full (record v { history = After; bytes = x; failed = failed; foretold = left }) up extent a)
      (sym over.same)
      (subst (λ (n : ℕ). Ends v Restart Full (record v { history = After; foretold = left; failed = n }) up extent a) (sym over.counts)
      (full left (omega (arith, epochs, over.full)) over.read over.stays)))

  -- ---- the site stands anew

  abbrev last : Last
  last = found_of v.doubt rs

  abbrev lines : List Record
  lines = next_piece schema s all

  module _ (standing : Standing) (for_ : IsStandingFor schema s all standing) (b : SiteAccounts)
      (took : TakesIn schema standing (next_restart all) true b.standing) (open_ : b.journal ≡ []) (last_is_ : b.last ≡ 0) where
    abbrev Anew : ℕ → List Entry
    Anew epoch = entry_of v Restart (Restarted epoch last) ∷ v.history

    abbrev kept_effects : List Effect
    kept_effects = effects base (says_doubt_kept last) v.history

    stands_anew : (epoch : ℕ) → StandsOn schema s base (Anew epoch) (all ++ lines) b
    stands_anew epoch =
        let effects_lawful = run_is_lawful schema s base v.history was.run (says_doubt_kept last) in
        let more = took.stands refl s all was.lawful for_.for_ in
        record {
          standing = stands_as schema s (all ++ lines) (all ++ next_restart all ∷ []) b.standing
              (piece_same schema s all (next_restart all) refl) more;
          aside = record {
            held = λ f k l.
                let l' : f < length standing.rights = omega (arith, l, more.count, for_.for_.count) in
                took.held refl f k l' ∙ for_.none f k l' ∙ sym (held_stop schema base kept_effects effects_lawful f k);
            journal = open_ ∙ sym (ap (λ (ts : List TxnId). map (row_of (Stops ∷ kept_effects)) (reverse ts))
                (stop_closes_all kept_effects));
          };
          last = last_is_;
        }

    module _ (anew_extent : Extent) (reached : ReachesAll anew_extent (was.held ++ lines) (all ++ lines)) (turns : ℕ) (turns_are : turns ≡ since_summary all)
        (bytes : List ℕ) (left : Option Mishap) (some : greatest all < max_epoch) (log : IsLog bytes (all ++ lines) [])
        (torn : (n : ℕ) → v.foretold ≡ Some (Append n) → ⊥) (read : v.foretold ≡ Some Read → ⊥) (cut : v.foretold ≡ Some Cut
        → was.rest ≡ []) (stays : left ≡ v.foretold) where
      abbrev epoch : ℕ
      epoch = greatest rs + 1

      abbrev anew : SiteValue
      anew = record v { history = Anew epoch; bytes = bytes; foretold = left; doubt = None; replayed = turns }

      some_ : greatest rs < max_epoch
      some_ = omega (arith, epochs, some)

      fits_anew : RestartFits at (Restarted epoch last)
      fits_anew = restart_fits schema s base bs was.ground.is_base was.kept v.history rs was.keeps last some_ found.there found.back

      plain_is : plain (all ++ lines) ≡ rs ++ next_restart rs ∷ []
      plain_is = plain_piece schema s all (next_restart all) refl ∙ ap (λ (r : Record). rs ++ r ∷ []) (sym next_same)

      parts_anew : all ++ lines ≡ v.gone ++ (was.held ++ lines)
      parts_anew = parts_more v.gone was.held all lines was.parts

      lawful_anew : Lawful schema s (all ++ lines)
      lawful_anew = all_lawful schema s all (next_restart all) refl was.lawful (restart_may schema s all)

      held_anew : Holds schema s bytes (rs ++ next_restart rs ∷ []) []
      held_anew = record { all = all ++ lines; log = log; lawful = lawful_anew; told = plain_is }

      keeps_anew : Keeps schema s base bs false (Anew epoch) (rs ++ next_restart rs ∷ [])
      keeps_anew = (rs, true, found.keeps, refl, refl)

      settled : (f : ℕ) (k : Kind) → (share base f k (effects base false (Anew epoch)) ≡ own_in schema s (rs ++ next_restart rs ∷ []) f k)
          × (held_rights f k (effects base false (Anew epoch)) ≡ 0)
      settled f k = run_restarts schema s base bs false (entry_of v Restart (Restarted epoch last)) v.history (rs ++ next_restart rs ∷ [])
          was.ground.is_base (was.run, fits_anew) keeps_anew epoch last refl refl f k

      stood_for : IsStoodFor (here anew) (rs ++ next_restart rs ∷ [])
      stood_for =
          record {
            free = λ f k. (settled f k).0;
            given = λ to f k. run_gives schema s base bs false (Anew epoch) (rs ++ next_restart rs ∷ []) was.ground.is_base
                (was.run, fits_anew) keeps_anew to f k;
            accepted = λ from f k. run_accepts schema s base bs false (Anew epoch) (rs ++ next_restart rs ∷ []) was.ground.is_base
                (was.run, fits_anew) keeps_anew from f k;
            given_up = λ f k. run_cuts schema s base bs false (Anew epoch) (rs ++ next_restart rs ∷ []) was.ground.is_base
                (was.run, fits_anew) keeps_anew f k;
            epoch = sym (greatest_next rs);
          }

      exact_anew : (luck : Luck) (kept : ℕ) (found_ : Last) → v.foretold ≡ Some (mishap_of luck) → Finds v kept found_
          → IsExact v Restart (Restarted epoch last) anew luck kept found_
      exact_anew Fine kept found_ known finds =
          let old = finds_of v kept found_ finds rs was.rest held in
          let below : nat_le max_epoch kept ≡ false =
          subst (λ (m : ℕ). nat_le max_epoch m ≡ false) old.0 (lt-leb max_epoch (greatest rs) some_) in
          let owed : ◌≡◌ {A = Reply} (Restarted epoch last) (Restarted (kept + 1) found_) = rw (old.0, old.1) refl in
          record {
            reply_is = rw below owed;
            finds = finds_held anew (rs ++ next_restart rs ∷ []) [] epoch Nothing held_anew (greatest_next rs) refl;
          }
      exact_anew (Torn n) kept found_ known finds = absurd (torn n known)

      under_anew : (m : Mishap) → v.foretold ≡ Some m → Restarted epoch last ≡ owed_under v rs was.rest Restart m
      under_anew Never known = rw (lt-leb max_epoch (greatest rs) some_) refl
      under_anew (Append n) known = absurd (torn n known)
      under_anew Read known = absurd (read known)
      under_anew Cut known =
          subst (λ (x : List ℕ). Restarted epoch last ≡ owed_with at (greatest rs) last Restart (luck_under Restart x Cut))
          (sym (cut known)) (rw (lt-leb max_epoch (greatest rs) some_) refl)

      restarted : Ends v Restart (Restarted epoch last) anew true anew_extent b
      restarted =
          record {
            sound = record {
              ground = was.ground;
              records = all ++ lines;
              rest = [];
              kept = false;
              log = log;
              lawful = lawful_anew;
              run = (was.run, fits_anew);
              keeps = (rs, true, found.keeps, refl, plain_is);
              up_is = refl;
              held = was.held ++ lines;
              parts = parts_anew;
              begins = begins_more v.gone was.held lines was.begins;
              clean = λ u. (refl, reached);
              reaches = reach_all anew_extent v.gone (was.held ++ lines) (all ++ lines) parts_anew reached;
              place = λ n is. let e : ◌≡◌ {A = Option ℕ} None (Some n) = is in absurd cc;
              in_doubt = refl;
              few = λ h. omega (arith, reached.few);
              replays = λ h. omega (arith, turns_are, was.few h);
              stands = λ u. stands_anew epoch;
            };
            applies = record {
              fits = fits_anew;
              entry = refl;
              same = record { schema = refl; site = refl; fresh = refl; based = refl; gone = refl };
              failed = refl;
              logs = λ other rest is.
                  let same = (same_as other rest is).0 in
                  record {
                    stood = true;
                    rest = [];
                    log = subst (λ (x : List Record). Holds schema s bytes (x ++ records.Restart epoch ∷ []) []) same held_anew;
                    doubt = refl;
                    restarts = (ap (λ (x : List Record). greatest x + 1) same, ap (found_of v.doubt) same, refl, omega (arith, some_));
                    refuses = tt;
                  };
              writes_ = λ other more is.
                  subst (λ (x : List Record). bytes ≡ flat_map text x ++ flat_map text (next_piece schema s x)) (same_all other more is)
                  (log.parts ∙ append-nil (flat_map text (all ++ lines)) ∙ flat_map-append text all lines);
              foretold = stays;
              under = λ other more m is known.
                  let same = same_as other more is in
                  subst (λ (x : List Record). Restarted epoch last ≡ owed_under v x more Restart m) same.0
                  (subst (λ (x : List ℕ). Restarted epoch last ≡ owed_under v rs x Restart m) same.1 (under_anew m known));
              exact = exact_anew;
              replays = λ other more is. turns_are ∙ ap since_summary (same_all other more is);
              stands = λ other more is. subst (λ (x : List Record). IsStoodFor (here anew) (x ++ next_restart x ∷ []))
                  (same_as other more is).0 stood_for;
              closed = record { none_open = stop_closes_all kept_effects; none_held = λ f k. (settled f k).1 };
            };
          }

  abbrev next_extent : ℕ → ℕ → ℕ → Extent
  next_extent more size behind = record { count = extent.count + more + 1; length = size; behind = behind }

  -- what the medium holds is a log of what is held
  pub held_log : {bytes : List ℕ} → v.bytes ≡ all_bytes v.gone bytes → IsLog bytes was.held was.rest
  held_log {bytes = bytes} is =
      without_gone v.gone was.held bytes was.rest
      (subst (λ (x : List Record). IsLog (all_bytes v.gone bytes) x was.rest) was.parts
      (subst (λ (b : List ℕ). IsLog b all was.rest) is was.log))

  stands_behind : {old : List ℕ} → v.bytes ≡ all_bytes v.gone old → (found_ : List Record) → AreBehind old extent.length found_
      → found_ ≡ was.reaches.behind
  stands_behind {old = old} is found_ behind = behind_is extent old v.gone was.held was.rest (held_log is) was.reaches found_ behind

  pub few_behind : {old : List ℕ} → v.bytes ≡ all_bytes v.gone old → (found_ : List Record) → AreBehind old extent.length found_
      → extent.count + length (plain found_) ≡ length rs
  few_behind is found_ behind = count_more extent v.gone was.held all was.parts was.reaches found_ (stands_behind is found_ behind)

  pub ends_restarted : (standing : Standing) (found_ : List Record) (epoch turns size behind_ : ℕ) (b : SiteAccounts) (old bytes : List ℕ)
      (failed : ℕ) (left : Option Mishap) (r : Reply) (more : ℕ) (h : List Entry)
      → v.bytes ≡ all_bytes v.gone old
      → IsStandingFor schema s all standing → StandsOver schema s was.held all epoch turns size was.rest bytes v.foretold left v.failed failed
      → AreBehind old extent.length found_
      → TakesIn schema standing (records.Restart epoch) true b.standing → b.journal ≡ [] → b.last ≡ 0
      → r ≡ Restarted epoch (found_by v.doubt found_) → more ≡ length (plain found_)
      → behind_ ≡ (if nat_le max_behind (turns + 1) then 0 else turns + 1) → h ≡ entry_of v Restart r ∷ v.history
      → Ends v Restart r (record v { history = h; bytes = bytes; failed = failed; foretold = left; doubt = None; replayed = turns }) true
      (next_extent more size behind_) b
  ends_restarted standing found_ new turns size behind_ b old bytes failed left r more h whole for_ over stand took open_ last_is_ said
      counted behinds past =
      let next = greatest rs + 1 in
      let same = stands_behind whole found_ stand in
      let lasts : found_by v.doubt found_ ≡ last = last_is v.doubt extent v.gone was.held all was.parts was.reaches found_ same was.place in
      let new_is : new ≡ next = over.epoch_is ∙ ap (λ (n : ℕ). n + 1) (sym epochs) in
      let reply : r ≡ Restarted next last = said ∙ ap (λ (n : ℕ). Restarted n (found_by v.doubt found_)) new_is
      ∙ ap (λ (l : Last). Restarted next l) lasts in
      let after : h ≡ entry_of v Restart (Restarted next last) ∷ v.history =
      past ∙ ap (λ (x : Reply). entry_of v Restart x ∷ v.history) reply in
      let many : extent.count + more + 1 ≡ length rs + 1 = omega (arith, counted, few_behind whole found_ stand) in
      let reached = reach_next schema s was.held all (next_restart all) refl (next_extent more size behind_) many over.size_is
      (behinds ∙ ap (λ (n : ℕ). if nat_le max_behind (n + 1) then 0 else n + 1) over.replayed) in
      let At : Reply → List Entry → ℕ → Type 0 =
      λ x o n. Ends v Restart x (record v { history = o; bytes = bytes; failed = n; foretold = left; doubt = None; replayed = turns }) true
      (next_extent more size behind_) b in
      let After : List Entry = entry_of v Restart (Restarted next last) ∷ v.history in
      subst (λ (x : Reply). At x h failed) (sym reply)
      (subst (λ (o : List Entry). At (Restarted next last) o failed) (sym after)
      (subst (λ (n : ℕ). At (Restarted next last) After n) (sym over.counts)
      (restarted standing for_ b (subst (λ (e : ℕ). TakesIn schema standing (records.Restart e) true b.standing) over.epoch_is took) open_
      last_is_
      (next_extent more size behind_) reached turns over.replayed bytes left over.some over.log over.torn over.read over.cut over.stays)))
