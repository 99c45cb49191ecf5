-- A site stays sound where an entry's record was appended, whole or torn.
use Rattle.std.proofs.Common.{◌≡◌, ℕ, ◌+◌, ◌≤◌, Bool, true, false, cond, List, [], ◌∷◌, ◌++◌, length, take, refl, sym, ap, subst, ◌∙◌, arith, Option, Some, None}
use Rattle.std.specs.Prelude.{nat_le, if◌then◌else◌, Ok, Err}
use Rattle.std.proofs.lemmas.Bool.{false≢true}
use Rattle.std.proofs.lemmas.List.{append-nil}
use Rattle.field_bounds.specs.declared.entry.Command.{Command}
use Rattle.field_bounds.specs.declared.entry.Last.{Last}
use Rattle.field_bounds.specs.declared.entry.Last.TheVariants.{Kept, Lost}
use Rattle.field_bounds.specs.declared.entry.Reply.{Reply}
use Rattle.field_bounds.specs.declared.entry.Reply.TheVariants.{Unsure}
use Rattle.field_bounds.specs.declared.entry.Entry.{Entry}
use Rattle.field_bounds.specs.Effects.{Base}
use Rattle.field_bounds.specs.Owed.{Place, first, refusals, answer, writes, is_up, is_unsure, count_since}
use Rattle.field_bounds.proofs.Refused.{is_restart, up_there}
use Rattle.field_bounds.proofs.Doubt.{up_none_unsure}
use Rattle.kept_records.specs.declared.medium.Device.{Device}
use Rattle.kept_records.specs.declared.medium.Mishap.{Mishap}
use Rattle.kept_records.specs.declared.medium.Mishap.TheVariants.{Never, Append, Cut, Read}
use Rattle.kept_records.specs.declared.record.Record.{Record}
use Rattle.kept_records.specs.declared.record.Record.TheVariants as records
use Rattle.kept_records.specs.Text.{text, IsRecord}
use Rattle.kept_records.specs.Medium.{IsCutShort, AppendFate}
use Rattle.kept_records.specs.Logs.{IsLog}
use Rattle.std.specs.List.{flat_map, AllByRecursion}
use Rattle.field_bounds.specs.Schema.{SchemaValue}
use Rattle.kept_records.specs.Stands.{greatest, is_summary, plain, since_summary, max_behind, piece, may_follow, Lawful}
use Rattle.kept_records.specs.Summaries.{SameSums}
use Rattle.kept_records.proofs.Summaries.{own_same, may_same, plain_same}
use Rattle.kept_records.proofs.Lines.{same_log}
use Rattle.kept_state.specs.declared.luck.Luck.{Luck}
use Rattle.kept_state.specs.declared.luck.Luck.TheVariants.{Fine, Torn}
use Rattle.kept_state.specs.Keeps.{Keeps, record_left, adds}
use Rattle.kept_state.specs.Doubt.{InDoubt, IsDoubt, found_of}
use Rattle.kept_state.proofs.Staying.{run_lawful_more}
use Rattle.log_replay.specs.declared.standing.Standing.{Standing}
use Rattle.log_replay.specs.Standing.{Stands}
use Rattle.kept_state.specs.Luck.{doubt_after, record_length}
use Rattle.kept_state.proofs.Adding.{adds_answer, left_writes, of_one, IsOwn, left_is_own}
use Rattle.kept_state.proofs.Epochs.{greatest_noted}
use Rattle.kept_state.proofs.Sure.{keeps_up}
use Rattle.kept_state.proofs.Doubt.{doubt_new, found_is_kept}
use Rattle.site_step.specs.declared.accounts.SiteAccounts.{SiteAccounts}
use Rattle.site_step.specs.declared.extent.Extent.{Extent}
use Rattle.site_step.specs.Site.{SiteValue, base_of, here, entry_of, mishap_of, mishap_left, Holds, owed_under, Finds, IsExact}
use Rattle.site_step.specs.Replaying.{downs_since, downs_before}
use Rattle.site_step.specs.Resuming.{Leaves}
use Rattle.site_step.specs.State.{StandsOn, IsSoundSite, ReachesAll, one_record_longer}
use Rattle.site_step.proofs.Holding.{holds_all, same_told, plain_piece, piece_same, all_lawful, piece_fits, added_all, leaves_by, left_plain, left_holds}
use Rattle.site_step.proofs.Extents.{reach_all, reach_extended, reach_more}
use Rattle.site_step.proofs.Prefixes.{begins_more, parts_more}
use Rattle.site_step.proofs.Settling.{answer_settles, writes_no_restart, refuses_over, answer_fits, unsure_fits, whole_owed, unsure_owed, whole_under, unsure_under, answer_writes, unsure_writes, lines_one}
use Rattle.site_step.proofs.Ends.{Ends, finds_of, finds_held, none_in_doubt}

up_doubt : (kept other : Bool) (o : List Entry) (e : Entry) (rs more : List Record) (doubt : Option ℕ)
    → count_since is_unsure (e ∷ o) ≡ count_since is_unsure o → count_since is_unsure o ≡ 0
    → IsDoubt kept o rs doubt → IsDoubt other (e ∷ o) more doubt
up_doubt kept other o e rs more None same none is = same ∙ is
up_doubt kept other o e rs more (Some n) same none is = absurd (omega (arith, none, is.0))

-- what becomes of a mishap that is known
fate_stays : (before : Option Mishap) (old piece new : List ℕ) (left : Option Mishap)
    → AppendFate {E = Device} before old piece (Ok tt) new left → left ≡ before
fate_stays None old piece new left fate = fate
fate_stays (Some (Append n)) old piece new left fate = absurd (false≢true fate.0)
fate_stays (Some Never) old piece new left fate = fate.1
fate_stays (Some Cut) old piece new left fate = fate.1
fate_stays (Some Read) old piece new left fate = fate.1

fate_struck : (before : Option Mishap) (old piece : List ℕ) (device : Device) (new : List ℕ) (left : Option Mishap)
    → AppendFate before old piece (Err device) new left → left ≡ mishap_left before
fate_struck None old piece device new left fate = fate
fate_struck (Some (Append n)) old piece device new left fate = fate.2
fate_struck (Some Never) old piece device new left fate = absurd (false≢true fate.0)
fate_struck (Some Cut) old piece device new left fate = absurd (false≢true fate.0)
fate_struck (Some Read) old piece device new left fate = absurd (false≢true fate.0)

-- what stands for records stands for others of the same sums
pub stands_as : (schema : SchemaValue) (s : ℕ) (as1 bs : List Record) (standing : Standing) → SameSums as1 bs → Stands schema s bs standing
    → Stands schema s as1 standing
stands_as schema s as1 bs standing same st = record {
  count = st.count;
  width = st.width;
  own = λ f k l. st.own f k l ∙ sym (own_same schema s as1 bs same f k);
  cut = λ f k l. st.cut f k l ∙ sym (same.cut f k);
  place = st.place;
  given = λ r f k other. st.given r f k other ∙ sym (same.given r f k);
  accepted = λ r f k other. st.accepted r f k other ∙ sym (same.accepted r f k);
  site = st.site;
  epoch = st.epoch ∙ sym same.epoch;
}

module _ (v : SiteValue) (up : Bool) (extent : Extent) (a : SiteAccounts) (was : IsSoundSite v up extent a) (c : Command)
    (none : first (refusals (here v) c) ≡ None) (note : Record) (noted : record_left (here v) c ≡ note ∷ []) (fits : IsRecord note) where
  abbrev base : Base
  base = base_of v

  abbrev at : Place
  at = here v

  abbrev schema : SchemaValue
  schema = v.schema

  abbrev s : ℕ
  s = v.site.0

  -- all records, and those that are no summaries
  abbrev all : List Record
  all = was.records

  abbrev rs : List Record
  rs = plain was.records

  abbrev lines : List Record
  lines = piece v.schema v.site.0 was.records note

  told : writes at c ≡ true
  told = left_writes at c noted

  own_note : IsOwn note
  own_note = left_is_own at c noted

  plain_note : is_summary note ≡ false
  plain_note = own_note.1

  no_restart : is_restart c ≡ false
  no_restart = writes_no_restart at c told

  pub is_there : is_up base v.history ≡ true
  is_there = up_there at c no_restart none

  tidy : (was.rest ≡ []) × ReachesAll extent was.held was.records
  tidy = was.clean (was.up_is ∙ is_there)

  pub reached : ReachesAll extent was.held was.records
  reached = tidy.1

  pub may : may_follow schema s all note ≡ true
  may =
      sym (may_same schema s rs all (plain_same all) note)
      ∙ of_one (λ r. may_follow schema s rs r ≡ true) noted (run_lawful_more schema s base (plain v.based) was.ground.is_base was.kept v.history rs was.run was.keeps c none)

  each : AllByRecursion IsRecord lines
  each = piece_fits schema s all note plain_note was.lawful may was.ground.limits was.ground.site_in was.log.each fits

  pub lines_fit : AllByRecursion IsRecord lines
  lines_fit = each

  whole_log : IsLog v.bytes all []
  whole_log = subst (λ (l : List ℕ). IsLog v.bytes all l) tidy.0 was.log

  nothing : v.doubt ≡ None
  nothing = none_in_doubt was.kept v.history rs v.doubt (up_none_unsure base v.history is_there) was.in_doubt

  same_greatest : (stood : Bool) → greatest (rs ++ cond stood (note ∷ []) []) ≡ greatest rs
  same_greatest true = ap (λ (l : List Record). greatest (rs ++ l)) (sym noted) ∙ greatest_noted at c rs
  same_greatest false = ap greatest (append-nil rs)

  -- the bytes hold these records alone
  same_as : (other : List Record) (rest : List ℕ) → Holds schema s v.bytes other rest → rs ≡ other
  same_as other rest is = (same_told schema s v.bytes all was.rest other rest was.log is).0

  same_all : (other : List Record) (rest : List ℕ) → IsLog v.bytes other rest → all ≡ other
  same_all other rest is = (same_log v.bytes all other was.rest rest was.log is).0

  -- ---- the record stands whole

  abbrev After : List Entry
  After = entry_of v c (answer at c) ∷ v.history

  module _ (b : SiteAccounts) (bytes : List ℕ) (left : Option Mishap)
      (stands : StandsOn v.schema v.site.0 base After (was.records ++ note ∷ []) b) (grown : bytes ≡ v.bytes ++ flat_map text lines)
      (fate : AppendFate {E = Device} v.foretold v.bytes (flat_map text lines) (Ok tt) bytes left) where
    abbrev then_ : SiteValue
    then_ = record v { history = After; bytes = bytes; foretold = left }

    more : (other : List Record) → other ++ note ∷ [] ≡ other ++ adds at c (answer at c) true other
    more other = ap (λ (l : List Record). other ++ l) (sym (adds_answer at c true other no_restart ∙ noted))

    log : IsLog bytes (all ++ lines) []
    log = subst (λ (l : List ℕ). IsLog l (all ++ lines) []) (sym grown)
        (added_all schema s all note plain_note was.lawful may v.bytes whole_log each)

    plain_is : plain (all ++ lines) ≡ rs ++ note ∷ []
    plain_is = plain_piece schema s all note plain_note

    lawful_after : Lawful schema s (all ++ lines)
    lawful_after = all_lawful schema s all note plain_note was.lawful may

    held_after : Holds schema s bytes (rs ++ note ∷ []) []
    held_after = record { all = all ++ lines; log = log; lawful = lawful_after; told = plain_is }

    exact : (luck : Luck) (epoch : ℕ) (found : Last) → v.foretold ≡ Some (mishap_of luck) → Finds v epoch found
        → IsExact v c (answer at c) then_ luck epoch found
    exact Fine epoch found known finds =
        let old = finds_of v epoch found finds rs was.rest (holds_all schema s v.bytes all was.rest was.log was.lawful) in
        let settles = answer_settles at c no_restart in
        let lasts : found_of v.doubt (rs ++ note ∷ []) ≡ found =
        ap (λ (d : Option ℕ). found_of d (rs ++ note ∷ [])) nothing ∙ sym (ap (λ (d : Option ℕ). found_of d rs) nothing) ∙ old.1 in
        record {
          reply_is = whole_owed at c epoch found no_restart none;
          finds = subst (λ (m : ℕ). Finds then_ m (doubt_after (answer at c) Fine (record_length at c) found))
              (sym (settles.greatest_is Fine epoch))
              (subst (λ (l : Last). Finds then_ epoch l) (sym (settles.found Fine (record_length at c) found))
              (finds_held then_ (rs ++ note ∷ []) [] epoch found held_after (same_greatest true ∙ old.0) lasts));
        }
    exact (Torn n) epoch found known finds =
        let goes = subst (λ (m : Option Mishap). AppendFate {E = Device} m v.bytes (flat_map text lines) (Ok tt) bytes left) known fate in
        absurd (false≢true goes.0)

    not_append : (m : Mishap) → v.foretold ≡ Some m → (n : ℕ) → m ≡ Append n → ⊥
    not_append m known n is =
        let goes = subst (λ (x : Option Mishap). AppendFate {E = Device} x v.bytes (flat_map text lines) (Ok tt) bytes left)
        (known ∙ ap (λ (x : Mishap). Some x) is) fate in
        false≢true goes.0

    reached_after : ReachesAll (one_record_longer extent (length (flat_map text lines))) (was.held ++ lines) (all ++ lines)
    reached_after = reach_extended schema s was.held all note plain_note extent reached

    parts_after : all ++ lines ≡ v.gone ++ (was.held ++ lines)
    parts_after = parts_more v.gone was.held all lines was.parts

    wrote : Ends v c (answer at c) then_ up (one_record_longer extent (length (flat_map text lines))) b
    wrote =
        let settles = answer_settles at c no_restart in
        record {
          sound = record {
            ground = was.ground;
            records = all ++ lines;
            rest = [];
            kept = was.kept;
            log = log;
            lawful = lawful_after;
            run = (was.run, answer_fits at c no_restart none);
            keeps = (
              rs,
              true,
              subst (λ (k : Bool). Keeps v.schema v.site.0 base (plain v.based) k v.history rs) (sym (settles.kept was.kept)) was.keeps,
              settles.tells was.kept true rs,
              plain_is ∙ more rs,
            );
            up_is = was.up_is ∙ sym (settles.up (is_up base v.history));
            held = was.held ++ lines;
            parts = parts_after;
            begins = begins_more v.gone was.held lines was.begins;
            clean = λ u. (refl, reached_after);
            reaches = reach_all (one_record_longer extent (length (flat_map text lines))) v.gone (was.held ++ lines) (all ++ lines) parts_after
                reached_after;
            place = λ n is. let e : ◌≡◌ {A = Option ℕ} None (Some n) = sym nothing ∙ is in absurd cc;
            in_doubt = up_doubt was.kept was.kept v.history (entry_of v c (answer at c)) rs (plain (all ++ lines)) v.doubt
                (settles.counts (count_since is_unsure v.history))
                (up_none_unsure base v.history is_there) was.in_doubt;
            few = λ h. omega (arith, reached_after.few);
            replays = λ h. subst (λ (m : ℕ). v.replayed ≤ max_behind + m)
                (sym (settles.before (downs_since v.history) (downs_before v.history))) (was.replays h);
            stands = λ u. record {
              standing = stands_as schema s (all ++ lines) (all ++ note ∷ []) b.standing
                  (piece_same schema s all note plain_note) stands.standing;
              aside = stands.aside;
              last = stands.last;
            };
          };
          applies = record {
            fits = answer_fits at c no_restart none;
            entry = refl;
            same = record { schema = refl; site = refl; fresh = refl; based = refl; gone = refl };
            failed = sym (settles.failed v.failed);
            logs = λ other rest is. record {
              stood = true;
              rest = [];
              log = subst (λ (x : List Record). Holds schema s bytes x [])
                  (ap (λ (l : List Record). l ++ note ∷ []) (same_as other rest is) ∙ more other) held_after;
              doubt = sym (settles.doubt other v.doubt);
              restarts = settles.restarts other v.doubt [];
              refuses = refuses_over c (answer at c) other no_restart;
            };
            writes_ = answer_writes at c v.bytes bytes no_restart (λ other rest is.
                grown ∙ ap (λ (x : List Record). v.bytes ++ flat_map text (piece schema s x note)) (same_all other rest is)
                ∙ ap (λ (l : List ℕ). v.bytes ++ l) (sym (lines_one at c other noted)));
            foretold = fate_stays v.foretold v.bytes (flat_map text lines) bytes left fate ∙ sym (settles.foretold v.foretold);
            under = λ other rest m log known. whole_under v other rest c m no_restart none (not_append m known);
            exact = exact;
            replays = λ other rest is. settles.replays v.foretold (since_summary other) v.replayed;
            stands = λ other rest is. settles.stands (here then_) (other ++ records.Restart (greatest other + 1) ∷ []);
            closed = settles.closed (here then_);
          };
        }

  pub ends_wrote : (b : SiteAccounts) (bytes : List ℕ) (failed : ℕ) (left : Option Mishap) (r : Reply) (h : List Entry) → r ≡ answer at c
      → h ≡ entry_of v c r ∷ v.history
      → StandsOn v.schema v.site.0 base After (was.records ++ note ∷ []) b → (bytes ≡ v.bytes ++ flat_map text lines) → failed ≡ v.failed
      → AppendFate {E = Device} v.foretold v.bytes (flat_map text lines) (Ok tt) bytes left
      → Ends v c r (record v { history = h; bytes = bytes; failed = failed; foretold = left }) up
      (one_record_longer extent (length (flat_map text lines))) b
  ends_wrote b bytes failed left r h owed past stands grown counts fate =
      let after : h ≡ After = past ∙ ap (λ (x : Reply). entry_of v c x ∷ v.history) owed in
      let next : Extent = one_record_longer extent (length (flat_map text lines)) in
      subst (λ (x : Reply). Ends v c x (record v { history = h; bytes = bytes; failed = failed; foretold = left }) up next b) (sym owed)
      (subst (λ (o : List Entry). Ends v c (answer at c)
      (record v { history = o; bytes = bytes; failed = failed; foretold = left }) up next b) (sym after)
      (subst (λ (n : ℕ). Ends v c (answer at c) (record v { history = After; bytes = bytes; failed = n; foretold = left }) up next b)
      (sym counts) (wrote b bytes left stands grown fate)))

  -- ---- the append failed

  abbrev Doubtful : List Entry
  Doubtful = entry_of v c Unsure ∷ v.history

  module _ (b : SiteAccounts) (bytes : List ℕ) (left : Option Mishap) (device : Device) (cut : IsCutShort v.bytes (flat_map text lines) bytes)
      (fate : AppendFate v.foretold v.bytes (flat_map text lines) (Err device) bytes left) where
    abbrev torn_ : SiteValue
    torn_ = record v { history = Doubtful; bytes = bytes; failed = v.failed + 1; foretold = left; doubt = Some extent.count }

    left_over : (other : List Record) (stood : Bool) → other ++ cond stood (note ∷ []) [] ≡ other ++ adds at c Unsure stood other
    left_over other true = ap (λ (l : List Record). other ++ l) (sym noted)
    left_over other false = refl

    -- what a restart finds by the count
    finds_it : (stood : Bool) → found_of (Some extent.count) (rs ++ cond stood (note ∷ []) []) ≡ (if stood then Kept else Lost)
    finds_it stood =
        ap (λ (n : ℕ). found_of (Some n) (rs ++ cond stood (note ∷ []) [])) reached.count
        ∙ ap (λ (x : Bool). if x then Kept else Lost)
        (found_is_kept stood rs note (rs ++ cond stood (note ∷ []) []) (doubt_new rs note stood own_note.0))

    leaves : (n : ℕ) → bytes ≡ v.bytes ++ take n (flat_map text lines) → Leaves schema s all note (nat_le (length (text note)) n) bytes
    leaves n is = leaves_by schema s all note plain_note was.lawful may n v.bytes bytes whole_log each is

    exact_torn : (luck : Luck) (epoch : ℕ) (found : Last) → v.foretold ≡ Some (mishap_of luck) → Finds v epoch found
        → IsExact v c Unsure torn_ luck epoch found
    exact_torn Fine epoch found known finds =
        let goes = subst (λ (m : Option Mishap). AppendFate m v.bytes (flat_map text lines) (Err device) bytes left) known fate in
        absurd (false≢true goes.0)
    exact_torn (Torn n) epoch found known finds =
        let goes = subst (λ (m : Option Mishap). AppendFate m v.bytes (flat_map text lines) (Err device) bytes left) known fate in
        let old = finds_of v epoch found finds rs was.rest (holds_all schema s v.bytes all was.rest was.log was.lawful) in
        let stood : Bool = nat_le (length (text note)) n in
        let is = leaves n goes.1 in
        let long : length (text note) ≡ record_length at c =
        ap length (sym (append-nil (text note)) ∙ ap (flat_map text) (sym noted)) in
        record {
          reply_is = unsure_owed at c epoch found n none told;
          finds = subst (λ (size : ℕ). Finds torn_ epoch (if nat_le size n then Kept else Lost)) long
              (finds_held torn_ (rs ++ cond stood (note ∷ []) []) is.rest epoch (if stood then Kept else Lost)
              (left_holds schema s all note stood bytes is) (same_greatest stood ∙ old.0) (finds_it stood));
        }

    under_torn : (other : List Record) (rest : List ℕ) (m : Mishap) → v.foretold ≡ Some m → Unsure ≡ owed_under v other rest c m
    under_torn other rest (Append n) known = unsure_under v other rest c n no_restart none told
    under_torn other rest Never known = let goes =
        subst (λ (x : Option Mishap). AppendFate x v.bytes (flat_map text lines) (Err device) bytes left) known fate in
        absurd (false≢true goes.0)
    under_torn other rest Cut known = let goes = subst
        (λ (x : Option Mishap). AppendFate x v.bytes (flat_map text lines) (Err device) bytes left) known fate in absurd (false≢true goes.0)
    under_torn other rest Read known = let goes = subst
        (λ (x : Option Mishap). AppendFate x v.bytes (flat_map text lines) (Err device) bytes left) known fate in absurd (false≢true goes.0)

    doubted : (stood : Bool) → Leaves schema s all note stood bytes → Ends v c Unsure torn_ false extent b
    doubted stood is =
        let told_is : plain (all ++ is.front) ≡ rs ++ cond stood (note ∷ []) [] = left_plain schema s all note stood bytes is in
        record {
          sound = record {
            ground = was.ground;
            records = all ++ is.front;
            rest = is.rest;
            kept = stood;
            log = is.log;
            lawful = is.lawful;
            run = (was.run, unsure_fits at c told none);
            keeps = (
              rs,
              stood,
              keeps_up v.schema v.site.0 base (plain v.based) was.kept stood v.history rs is_there was.keeps,
              refl,
              told_is ∙ left_over rs stood,
            );
            up_is = refl;
            held = was.held ++ is.front;
            parts = parts_more v.gone was.held all is.front was.parts;
            begins = begins_more v.gone was.held is.front was.begins;
            clean = λ u. absurd (false≢true u);
            reaches = reach_more extent v.gone was.held is.front is.first_ was.reaches;
            place = λ n e. let same : ◌≡◌ {A = Option ℕ} (Some extent.count) (Some n) = e in cc;
            in_doubt = (
              omega arith,
              rs,
              note,
              reached.count,
              subst (λ (x : List Record). InDoubt stood rs note x) (sym told_is) (doubt_new rs note stood own_note.0),
            );
            few = λ h. omega (arith, is.one, reached.few);
            replays = was.replays;
            stands = λ u. absurd (false≢true u);
          };
          applies = record {
            fits = unsure_fits at c told none;
            entry = refl;
            same = record { schema = refl; site = refl; fresh = refl; based = refl; gone = refl };
            failed = refl;
            logs = λ other rest log.
                let same = same_as other rest log in
                record {
                  stood = stood;
                  rest = is.rest;
                  log = subst (λ (x : List Record). Holds schema s bytes x is.rest)
                      (ap (λ (l : List Record). l ++ cond stood (note ∷ []) []) same ∙ left_over other stood)
                      (left_holds schema s all note stood bytes is);
                  doubt = ap (λ (n : ℕ). Some n) (reached.count ∙ ap length same);
                  restarts = tt;
                  refuses = refuses_over c Unsure other no_restart;
                };
            writes_ = unsure_writes at c v.bytes bytes
                (λ other rest log. subst (λ (x : List ℕ). IsCutShort v.bytes x bytes)
                (ap (λ (x : List Record). flat_map text (piece schema s x note)) (same_all other rest log) ∙ sym (lines_one at c other noted)) cut);
            foretold = fate_struck v.foretold v.bytes (flat_map text lines) device bytes left fate;
            under = λ other rest m log known. under_torn other rest m known;
            exact = exact_torn;
            replays = λ other rest log. refl;
            stands = λ other rest log. tt;
            closed = tt;
          };
        }

    unsure : Ends v c Unsure torn_ false extent b
    unsure = doubted (nat_le (length (text note)) cut.0) (leaves cut.0 cut.1)

  pub ends_unsure : (b : SiteAccounts) (bytes : List ℕ) (failed : ℕ) (left : Option Mishap) (device : Device) (r : Reply) (h : List Entry)
      → r ≡ Unsure → h ≡ entry_of v c r ∷ v.history
      → IsCutShort v.bytes (flat_map text lines) bytes → failed ≡ v.failed + 1
      → AppendFate v.foretold v.bytes (flat_map text lines) (Err device) bytes left
      → Ends v c r (record v { history = h; bytes = bytes; failed = failed; foretold = left; doubt = Some extent.count }) false extent b
  ends_unsure b bytes failed left device r h said past cut counts fate =
      let after : h ≡ Doubtful = past ∙ ap (λ (x : Reply). entry_of v c x ∷ v.history) said in
      subst (λ (x : Reply). Ends v c x (record v {
        history = h;
        bytes = bytes;
        failed = failed;
        foretold = left;
        doubt =
            Some extent.count;
      }) false extent b) (sym said)
      (subst (λ (o : List Entry). Ends v c Unsure (record v {
        history = o;
        bytes = bytes;
        failed = failed;
        foretold = left;
        doubt =
            Some extent.count;
      }) false extent b) (sym after)
      (subst (λ (n : ℕ). Ends v c Unsure (record v {
        history = Doubtful;
        bytes = bytes;
        failed = n;
        foretold = left;
        doubt =
            Some extent.count;
      }) false extent b) (sym counts)
      (unsure b bytes left device cut fate)))
