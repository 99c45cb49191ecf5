-- What a restart's work on the medium comes to.
use Rattle.std.proofs.Common.{◌≡◌, ◌≢◌, ◌⊎◌, ℕ, ◌+◌, ◌<◌, List, [], ◌∷◌, ◌++◌, length, take, sym, ap, subst, ◌∙◌, inl, inr, arith, append_assoc, refl, true, Option, Some}
use Rattle.std.specs.Prelude.{Result, Ok, Err, IsErr, None, nat_le, Bool, false}
use Rattle.std.specs.List.{flat_map, AllByRecursion}
use Rattle.std.proofs.lemmas.Bool.{false≢true, lt-ltb}
use Rattle.std.proofs.lemmas.List.{append-nil, length-append}
use Rattle.field_bounds.specs.Schema.{SchemaValue}
use Rattle.field_bounds.specs.Owed.{max_epoch}
use Rattle.field_bounds.specs.Limits.{IsSchema}
use Rattle.kept_records.specs.declared.medium.Device.{Device}
use Rattle.kept_records.specs.declared.medium.Mishap.{Mishap}
use Rattle.kept_records.specs.declared.medium.Mishap.TheVariants.{Never, Append, Cut, Read}
use Rattle.kept_records.specs.declared.record.Record.{Record}
use Rattle.kept_records.specs.declared.record.Record.TheVariants.{Restart}
use Rattle.kept_records.specs.Text.{text, IsRecord}
use Rattle.kept_records.specs.Medium.{IsCutShort, ReadFate}
use Rattle.kept_records.specs.declared.medium.MediumFault.TheVariants as faults
use Rattle.kept_records.specs.declared.reading_back.ReadBack.{ReadBack}
use Rattle.kept_records.specs.Logs.{IsLog}
use Rattle.kept_records.specs.ReadingBack.{told_length, AreLast, IsWhole}
use Rattle.std.proofs.lemmas.List.Concat.{flat_map-append}
use Rattle.kept_records.specs.Summary.{SummaryValue}
use Rattle.kept_records.specs.Keeping.{with_due, CutsAndAppends, StrikesCut, CutAndAppendGo, CutAndAppendFate}
use Rattle.kept_records.specs.Stands.{greatest, may_follow, since_summary, piece, LawfulBehind, Lawful, BreaksRule}
use Rattle.kept_records.proofs.Appending.{cut_to_records}
use Rattle.log_replay.specs.declared.standing.Standing.{Standing}
use Rattle.log_replay.specs.Standing.{Stands, IsStandingFor}
use Rattle.log_replay.specs.Resuming.{MayFollowNext, IsEnd}
use Rattle.site_step.specs.Site.{mishap_left}
use Rattle.site_step.specs.Resuming.{HoldsBehind, Leaves, next_restart, next_piece, all_bytes, IsReplayed, FailsOver, StandsOver, ResumesOver}
use Rattle.site_step.specs.declared.site.restart.RestartEnd.{RestartEnd}
use Rattle.site_step.proofs.Holding.{piece_fits, added_all, leaves_by, leaves_none}
use Rattle.site_step.proofs.Prefixes.{log_of, last_behind, cuts_behind, cut_fate_behind}

-- ---- lawful records break no rule

lawful_at : (schema : SchemaValue) (s : ℕ) (front before behind : List Record) (r : Record)
    → LawfulBehind schema s front (before ++ (r ∷ behind)) → may_follow schema s (front ++ before) r ≡ true
lawful_at schema s front [] behind r h = subst (λ (rs : List Record). may_follow schema s rs r ≡ true) (sym (append-nil front)) h.0
lawful_at schema s front (b ∷ before) behind r h =
    subst (λ (rs : List Record). may_follow schema s rs r ≡ true) (append_assoc front (b ∷ []) before)
    (lawful_at schema s (front ++ b ∷ []) before behind r h.1)

pub no_breach : (schema : SchemaValue) (s : ℕ) (rs : List Record) (n : ℕ) → BreaksRule schema s rs n → Lawful schema s rs → ⊥
no_breach schema s rs n breach lawful =
    let may = lawful_at schema s [] breach.before breach.behind breach.breaking
    (subst (λ (all : List Record). Lawful schema s all) breach.parts lawful) in
    false≢true (sym breach.broken ∙ may)

abbrev MayBeRead : Option Mishap → Type 0
MayBeRead None = Unit {0}
MayBeRead (Some Read) = Unit {0}
MayBeRead (Some Never) = ⊥
MayBeRead (Some Cut) = ⊥
MayBeRead (Some (Append n)) = ⊥

-- ---- the end that was read

pub end_of : (schema : SchemaValue) (s : ℕ) (gone held : List Record) (rest bytes : List ℕ) (holds : HoldsBehind schema s gone held rest bytes)
    (read : ReadBack) → AreLast bytes read.summary read.lines → IsEnd schema s (gone ++ held) read
end_of schema s gone held rest bytes holds read last = record {
  rest = rest;
  each = (log_of holds).each;
  lawful = holds.lawful;
  holds = last_behind gone held rest read.summary read.lines holds.begins (last held rest holds.log);
}

-- ---- what was replayed

-- The bytes are a log of these lawful records of a site of the schema, which the standing is for; so many of them stand
-- behind the last summary.
pub record ReplaysAll (schema : SchemaValue) (s : ℕ) (rs : List Record) (rest : List ℕ) (standing : Standing) (turns : ℕ)
    (bytes : List ℕ) : Type 0 where
  pub limits : IsSchema schema
  pub site_in : s < schema.sites
  pub log : IsLog bytes rs rest
  pub lawful : Lawful schema s rs
  pub for_ : IsStandingFor schema s rs standing
  pub turns_are : turns ≡ since_summary rs

pub replays_all : {schema : SchemaValue} {s : ℕ} {gone held : List Record} {rest : List ℕ} {standing : Standing} {turns : ℕ} {bytes : List ℕ}
    → IsReplayed schema s gone held rest standing turns bytes
    → ReplaysAll schema s (gone ++ held) rest standing turns (all_bytes gone bytes)
replays_all is = record {
  limits = is.limits;
  site_in = is.site_in;
  log = log_of is.holds;
  lawful = is.holds.lawful;
  for_ = is.for_;
  turns_are = is.turns_are;
}

-- ---- a record that may stand next

pub stands_next : (schema : SchemaValue) (standing : Standing) (s : ℕ) (rs : List Record) (r : Record) → s < schema.sites
    → AllByRecursion IsRecord rs → Lawful schema s rs → Stands schema s rs standing
    → may_follow schema s rs r ≡ true → MayFollowNext schema standing rs r
stands_next schema standing s rs r site_in each lawful stands may =
    let here = sym stands.site in
    record {
      site_in = subst (λ (n : ℕ). n < schema.sites) here site_in;
      in_range = each;
      lawful = subst (λ (n : ℕ). Lawful schema n rs) here lawful;
      stands = subst (λ (n : ℕ). Stands schema n rs standing) here stands;
      may = subst (λ (n : ℕ). may_follow schema n rs r ≡ true) here may;
    }

-- what is due behind it is told for the site
pub due_here : (schema : SchemaValue) (standing : Standing) (s : ℕ) (rs : List Record) (r : Record) (due : Option SummaryValue)
    → Stands schema s rs standing
    → with_due r due ≡ piece schema standing.ledger.site rs r → with_due r due ≡ piece schema s rs r
due_here schema standing s rs r due stands is = is ∙ ap (λ (n : ℕ). piece schema n rs r) stands.site

-- ---- a restart's record may stand next

pub restart_may : (schema : SchemaValue) (s : ℕ) (rs : List Record) → may_follow schema s rs (next_restart rs) ≡ true
restart_may schema s rs = lt-ltb (greatest rs) (greatest rs + 1) (omega arith)

pub restart_fits : (rs : List Record) → greatest rs < max_epoch → IsRecord (next_restart rs)
restart_fits rs some = (omega arith, omega (arith, some))

pub restart_next : (standing : Standing) (schema : SchemaValue) (s : ℕ) (rs : List Record) → IsStandingFor schema s rs standing
    → ◌≡◌ {A = Record} (Restart (standing.epoch + 1)) (next_restart rs)
restart_next standing schema s rs for_ = ap (λ (n : ℕ). Restart (n + 1)) for_.for_.epoch

-- what is replayed leaves the record of a restart next, with the summary that is due
module _ (old : List ℕ) (standing : Standing) (turns : ℕ) (schema : SchemaValue) (s : ℕ) (rs : List Record) (rest : List ℕ)
    (is_replayed : ReplaysAll schema s rs rest standing turns old) (below : standing.epoch < max_epoch) where
  abbrev next_record : Record
  next_record = Restart (standing.epoch + 1)

  next_same : ◌≡◌ {A = Record} next_record (next_restart rs)
  next_same = restart_next standing schema s rs is_replayed.for_

  pub next_over : MayFollowNext schema standing rs (Restart (standing.epoch + 1))
  next_over =
      subst (λ (r : Record). MayFollowNext schema standing rs r) (sym next_same)
      (stands_next schema standing s rs (next_restart rs) is_replayed.site_in is_replayed.log.each is_replayed.lawful is_replayed.for_.for_
      (restart_may schema s rs))

  pub due_over : (due : Option SummaryValue)
      → ((all : List Record) → MayFollowNext schema standing all (Restart (standing.epoch + 1)) → turns ≡ since_summary all
      → with_due (Restart (standing.epoch + 1)) due ≡ piece schema standing.ledger.site all (Restart (standing.epoch + 1)))
      → with_due (Restart (standing.epoch + 1)) due ≡ piece schema s rs (Restart (standing.epoch + 1))
  due_over due told = due_here schema standing s rs next_record due is_replayed.for_.for_ (told rs next_over is_replayed.turns_are)

  pub due_over_fits : (due : Option SummaryValue)
      → ((all : List Record) → MayFollowNext schema standing all (Restart (standing.epoch + 1)) → turns ≡ since_summary all
      → with_due (Restart (standing.epoch + 1)) due ≡ piece schema standing.ledger.site all (Restart (standing.epoch + 1)))
      → AllByRecursion IsRecord (with_due (Restart (standing.epoch + 1)) due)
  due_over_fits due told =
      subst (λ (ps : List Record). AllByRecursion IsRecord ps)
      (sym (due_over due told ∙ ap (λ (r : Record). piece schema s rs r) next_same))
      (piece_fits schema s rs (next_restart rs) refl is_replayed.lawful
      (restart_may schema s rs) is_replayed.limits is_replayed.site_in is_replayed.log.each
      (restart_fits rs (omega (arith, below, is_replayed.for_.for_.epoch))))

-- a restart that didn't read the medium
pub unread_fails : (schema : SchemaValue) (s : ℕ) (old new rest : List ℕ) (foretold left : Option Mishap) (before after : ℕ)
    (rs : List Record) → IsLog old rs rest → Lawful schema s rs
    → new ≡ old → after ≡ before + 1 → (left ≡ mishap_left foretold) × (MayBeRead foretold)
    → FailsOver schema s rs None rest old new foretold left before after
unread_fails schema s old new rest foretold left before after rs log lawful same counts fate =
    record {
      counts = counts;
      leaves = (
        false,
        leaves_none schema s rs (next_restart rs) new rest
            (subst (λ (bytes : List ℕ). IsLog bytes rs rest) (sym same) log) lawful,
      );
      left_ = inl same;
      never = λ known. subst MayBeRead known fate.1;
      torn = λ n known. absurd (subst MayBeRead known fate.1);
      cut = λ known. absurd (subst MayBeRead known fate.1);
      struck_ = fate.0;
      read = (λ n known. absurd (subst MayBeRead known fate.1), λ known. absurd (subst MayBeRead known fate.1));
      replayed = λ n is. let e : ◌≡◌ {A = Option ℕ} None (Some n) = is in absurd cc;
    }

pub read_stays : (log : ReadBack) (foretold left : Option Mishap) → ReadFate foretold (Ok log) left → left ≡ foretold
read_stays log None left fate = fate
read_stays log (Some Read) left fate = absurd cc
read_stays log (Some Never) left fate = fate.1
read_stays log (Some Cut) left fate = fate.1
read_stays log (Some (Append n)) left fate = fate.1

-- a restart over a medium that reading left as it was
pub resumes_from : (schema : SchemaValue) (s place : ℕ) (gone held : List Record) (rest : List ℕ) (resumed : RestartEnd)
    (old mid new : List ℕ) (foretold between left : Option Mishap) (before middle after : ℕ)
    → mid ≡ old → between ≡ foretold → middle ≡ before → ResumesOver schema s place gone held rest resumed mid new between left middle after
    → ResumesOver schema s place gone held rest resumed old new foretold left before after
resumes_from schema s place gone held rest resumed old mid new foretold between left before middle after bytes fate count over =
    subst (λ (x : List ℕ). ResumesOver schema s place gone held rest resumed x new foretold left before after) bytes
    (subst (λ (x : Option Mishap). ResumesOver schema s place gone held rest resumed mid new x left before after) fate
    (subst (λ (x : ℕ). ResumesOver schema s place gone held rest resumed mid new between left x after) count over))

pub read_fate : (foretold left : Option Mishap) → ReadFate {T = ReadBack} foretold (Err faults.Device) left → (left ≡ mishap_left foretold)
    × (MayBeRead foretold)
read_fate None left fate = (fate, tt)
read_fate (Some Read) left fate = (fate.1, tt)
read_fate (Some Never) left fate = absurd cc
read_fate (Some Cut) left fate = absurd cc
read_fate (Some (Append n)) left fate = absurd cc

module _ (old new : List ℕ) (foretold left : Option Mishap) (before after whole : ℕ) (standing : Standing) (turns : ℕ)
    (due : Option SummaryValue) (below : standing.epoch < max_epoch) (unread : foretold ≡ Some Read → ⊥)
    (schema : SchemaValue) (s : ℕ) (rs : List Record) (rest : List ℕ) (is_replayed : ReplaysAll schema s rs rest standing turns old)
    (size_is : whole ≡ length (flat_map text rs))
    (dues : with_due (Restart (standing.epoch + 1)) due ≡ piece schema s rs (Restart (standing.epoch + 1))) where
  abbrev next : Record
  next = Restart (standing.epoch + 1)

  abbrev lines : List ℕ
  lines = flat_map text (with_due (Restart (standing.epoch + 1)) due)

  log : IsLog old rs rest
  log = is_replayed.log

  lawful : Lawful schema s rs
  lawful = is_replayed.lawful

  some : greatest rs < max_epoch
  some = omega (arith, below, is_replayed.for_.for_.epoch)

  next_is : ◌≡◌ {A = Record} next (next_restart rs)
  next_is = restart_next standing schema s rs is_replayed.for_

  lines_are : with_due next due ≡ next_piece schema s rs
  lines_are = dues ∙ ap (λ (r : Record). piece schema s rs r) next_is

  may : may_follow schema s rs (next_restart rs) ≡ true
  may = restart_may schema s rs

  each : AllByRecursion IsRecord (next_piece schema s rs)
  each = piece_fits schema s rs (next_restart rs) refl lawful may is_replayed.limits is_replayed.site_in log.each (restart_fits rs some)

  cut_log : IsLog (take whole old) rs []
  cut_log = cut_to_records old rest rs whole log size_is

  whole_is : take whole old ≡ flat_map text rs
  whole_is = cut_log.parts ∙ append-nil (flat_map text rs)

  length_is : length old ≡ whole + length rest
  length_is = ap length log.parts ∙ length-append (flat_map text rs) rest ∙ ap (λ (n : ℕ). n + length rest) (sym size_is)

  goes_under : (m : Mishap) (result : Result Unit Device) → foretold ≡ Some m → CutAndAppendFate foretold whole old lines result new left
      → CutAndAppendGo m whole old lines result new left
  goes_under m result known fate = subst (λ (x : Option Mishap). CutAndAppendFate x whole old lines result new left) known fate

  is_clean : (result : Result Unit Device) → (IsErr result → ⊥) → StrikesCut whole old result new left → rest ≡ []
  is_clean result ok strikes = clean_by rest length_is
    where
      clean_by : (rest_ : List ℕ) → length old ≡ whole + length rest_ → rest_ ≡ []
      clean_by [] is = refl
      clean_by (b ∷ more) is = absurd (ok (strikes.0 (omega (arith, is))).0)

  not_clean : (device : Device) → StrikesCut whole old (Err device) new left → rest ≢ []
  not_clean device strikes none = false≢true (strikes.1 (omega (arith, length_is, ap length none))).0

  mishap_stays : (m : Option Mishap) → (m ≡ Some Read → ⊥) → CutAndAppendFate {E = Device} m whole old lines (Ok tt) new left → left ≡ m
  mishap_stays None past fate = fate
  mishap_stays (Some Never) past fate = fate.1
  mishap_stays (Some (Append n)) past fate = absurd (false≢true fate.0)
  mishap_stays (Some Cut) past fate = (fate.1 (omega (arith, length_is, ap length (is_clean (Ok tt) (λ e. false≢true e) fate)))).1
  mishap_stays (Some Read) past fate = absurd (past refl)

  mishap_struck : (m : Option Mishap) (device : Device) → (m ≡ Some Read → ⊥) → CutAndAppendFate m whole old lines (Err device) new left
      → left ≡ mishap_left m
  mishap_struck None device past fate = fate
  mishap_struck (Some Never) device past fate = absurd (false≢true fate.0)
  mishap_struck (Some (Append n)) device past fate = fate.2
  mishap_struck (Some Cut) device past fate = cut_by rest length_is
    where
      cut_by : (rest_ : List ℕ) → length old ≡ whole + length rest_ → left ≡ Some Never
      cut_by [] is = absurd (false≢true (fate.1 (omega (arith, is))).0)
      cut_by (b ∷ more) is = (fate.0 (omega (arith, is))).2
  mishap_struck (Some Read) device past fate = absurd (past refl)

  -- so long are the texts of those that are held, with the lines that were added
  long_is : (held : List Record) (held_whole : ℕ) (line : List ℕ) → held_whole ≡ length (flat_map text held) → line ≡ lines
      → held_whole + length line ≡ length (flat_map text (held ++ next_piece schema s rs))
  long_is held held_whole line held_is is =
      let more : length (flat_map text (held ++ next_piece schema s rs)) ≡ length (flat_map text held)
      + length (flat_map text (next_piece schema s rs)) =
      ap length (flat_map-append text held (next_piece schema s rs))
      ∙ length-append (flat_map text held) (flat_map text (next_piece schema s rs)) in
      let same : length line ≡ length (flat_map text (next_piece schema s rs)) =
      ap length is ∙ ap (λ (ps : List Record). length (flat_map text ps)) lines_are in
      omega (arith, more, held_is, same)

  pub stands_over : (held : List Record) (held_whole : ℕ) (line : List ℕ) (size : ℕ) → held_whole ≡ length (flat_map text held)
      → line ≡ lines → size ≡ told_length (held_whole + length line)
      → CutsAndAppends {T = Unit {0}} {E = Device} (Ok tt) whole old lines new before after
      → CutAndAppendFate {E = Device} foretold whole old lines (Ok tt) new left
      → StandsOver schema s held rs (standing.epoch + 1) turns size rest new foretold left before after
  stands_over held held_whole line size held_is line_is size_ added fate =
      record {
        counts = added.1;
        size_is = size_ ∙ ap told_length (long_is held held_whole line held_is line_is);
        replayed = is_replayed.turns_are;
        epoch_is = ap (λ (n : ℕ). n + 1) is_replayed.for_.for_.epoch;
        some = some;
        log = subst (λ (bytes : List ℕ). IsLog bytes (rs ++ next_piece schema s rs) [])
            (sym (added.0 ∙ ap (λ (ps : List Record). take whole old ++ flat_map text ps) lines_are))
            (added_all schema s rs (next_restart rs) refl lawful may (take whole old) cut_log each);
        torn = λ n known. false≢true (goes_under (Append n) (Ok tt) known fate).0;
        read = unread;
        cut = λ known. is_clean (Ok tt) (λ e. false≢true e) (goes_under Cut (Ok tt) known fate);
        stays = mishap_stays foretold unread fate;
      }

  some_same : (m n : ℕ) → ◌≡◌ {A = Option ℕ} (Some m) (Some n) → n ≡ m
  some_same m n is = cc

  left_of : ((new ≡ old) ⊎ IsCutShort (take whole old) lines new) → (new ≡ old)
      ⊎ IsCutShort (flat_map text rs) (flat_map text (next_piece schema s rs)) new
  left_of (inl unchanged) = inl unchanged
  left_of (inr cut) =
      inr (subst (λ (b : List ℕ). IsCutShort b (flat_map text (next_piece schema s rs)) new) whole_is
      (subst (λ (ps : List Record). IsCutShort (take whole old) (flat_map text ps) new) lines_are cut))

  front_left : (n : ℕ) → new ≡ take whole old ++ take n lines
      → Leaves schema s rs (next_restart rs) (nat_le (length (text (next_restart rs))) n) new
  front_left n is =
      leaves_by schema s rs (next_restart rs) refl lawful may n (take whole old) new cut_log each
      (is ∙ ap (λ (ps : List Record). take whole old ++ take n (flat_map text ps)) lines_are)

  leaves_of : ((new ≡ old) ⊎ IsCutShort (take whole old) lines new) → (stood : Bool) × Leaves schema s rs (next_restart rs) stood new
  leaves_of (inl unchanged) = (
    false,
    leaves_none schema s rs (next_restart rs) new rest
        (subst (λ (bytes : List ℕ). IsLog bytes rs rest) (sym unchanged) log) lawful,
  )
  leaves_of (inr cut) = (nat_le (length (text (next_restart rs))) cut.0, front_left cut.0 cut.1)

  pub fails_over : (device : Device)
      → CutsAndAppends {T = Unit {0}} (Err device) whole old lines new before after
      → CutAndAppendFate foretold whole old lines (Err device) new left
      → FailsOver schema s rs (Some turns) rest old new foretold left before after
  fails_over device added fate =
      record {
        counts = added.1;
        leaves = leaves_of added.0;
        left_ = left_of added.0;
        never = λ known. false≢true (goes_under Never (Err device) known fate).0;
        torn = λ n known. (some, front_left n (goes_under (Append n) (Err device) known fate).1);
        cut = λ known. (some, not_clean device (goes_under Cut (Err device) known fate));
        struck_ = mishap_struck foretold device unread fate;
        read = unread;
        replayed = λ n is. some_same turns n is ∙ is_replayed.turns_are;
      }

-- what a restart did behind records that are gone
module _ (old new : List ℕ) (foretold left : Option Mishap) (before after whole : ℕ) (standing : Standing) (turns : ℕ)
    (due : Option SummaryValue)
    (sized : IsWhole old whole) (below : standing.epoch < max_epoch) (unread : foretold ≡ Some Read → ⊥)
    (schema : SchemaValue) (s : ℕ) (gone held : List Record) (rest : List ℕ)
    (is_replayed : IsReplayed schema s gone held rest standing turns old)
    (dues : with_due (Restart (standing.epoch + 1)) due ≡ piece schema s (gone ++ held) (Restart (standing.epoch + 1))) where
  abbrev front : List ℕ
  front = flat_map text gone

  abbrev added_lines : List ℕ
  added_lines = flat_map text (with_due (Restart (standing.epoch + 1)) due)

  held_size : whole ≡ length (flat_map text held)
  held_size = sized held rest is_replayed.holds.log

  all_size : length front + whole ≡ length (flat_map text (gone ++ held))
  all_size = omega (
    arith,
    held_size,
    ap length (flat_map-append text gone held),
    length-append (flat_map text gone) (flat_map text held),
  )

  pub stands_behind : (line : List ℕ) (size : ℕ) → line ≡ added_lines → size ≡ told_length (whole + length line)
      → CutsAndAppends {T = Unit {0}} {E = Device} (Ok tt) whole old added_lines new before after
      → CutAndAppendFate {E = Device} foretold whole old added_lines (Ok tt) new left
      → StandsOver schema s held (gone ++ held) (standing.epoch + 1) turns size rest (all_bytes gone new) foretold left before after
  stands_behind line size line_is size_ added fate =
      stands_over (all_bytes gone old) (all_bytes gone new) foretold left before after (length front + whole) standing turns due below unread
      schema s (gone ++ held) rest (replays_all is_replayed) all_size dues held whole line size held_size line_is size_
      (cuts_behind front whole old added_lines new {T = Unit {0}} {E = Device} (Ok tt) before after added)
      (cut_fate_behind front whole old added_lines new {E = Device} foretold (Ok tt) left fate)

  pub fails_behind : (device : Device)
      → CutsAndAppends {T = Unit {0}} (Err device) whole old added_lines new before after
      → CutAndAppendFate foretold whole old added_lines (Err device) new left
      → FailsOver schema s (gone ++ held) (Some turns) rest (all_bytes gone old) (all_bytes gone new) foretold left before after
  fails_behind device added fate =
      fails_over (all_bytes gone old) (all_bytes gone new) foretold left before after (length front + whole) standing turns due below unread
      schema s (gone ++ held) rest (replays_all is_replayed) all_size dues device
      (cuts_behind front whole old added_lines new {T = Unit {0}} (Err device) before after added)
      (cut_fate_behind front whole old added_lines new foretold (Err device) left fate)
