-- Records that are read from the front of bytes one after another.
use Rattle.std.proofs.Common.{◌≡◌, ℕ, ◌+◌, ◌*◌, ◌≤◌, lit≤, true, false, not, cond, List, [], ◌∷◌, ◌++◌, length, refl, sym, ap, subst, ◌∙◌, arith, append_assoc, inl, inr}
use Rattle.std.specs.List.{flat_map, join_with_byte, AllByRecursion}
use Rattle.std.proofs.lemmas.List.{append-nil, length-append}
use Rattle.std.proofs.lemmas.List.Concat.{flat_map-append}
use Rattle.field_bounds.specs.Schema.{SchemaValue}
use Rattle.kept_records.specs.declared.record.Record.{Record}
use Rattle.kept_records.specs.Text.{text, letter_of, words_of, words_spaced, IsRecord}
use Rattle.kept_records.specs.Logs.{HasNoLf, IsLog}
use Rattle.kept_records.specs.Lines.{IsRecordAt, StartsBad, Begins}
use Rattle.kept_records.specs.Stands.{is_summary, plain, may_follow, Lawful}
use Rattle.kept_records.proofs.Spaced.{line_spaced}
use Rattle.kept_records.proofs.Counts.{plain_push}
use Rattle.kept_records.proofs.Cursors.{next_in}
use Rattle.kept_records.proofs.Lines.{no_log}
use Rattle.kept_records.proofs.Pushes.{lawful_at, lawful_push}
use Rattle.kept_records.proofs.Walks.{begins_more, bad_there}
use Rattle.log_replay.specs.declared.standing.Standing.{Standing}
use Rattle.log_replay.specs.Standing.{IsStandingFor, TakesIn}
use Rattle.log_replay.proofs.StandingLaws.{after_one}
use Rattle.kept_records.specs.Summary.{SummaryValue, summary_record}
use Rattle.std.proofs.lemmas.Bool.{false≢true}
use Rattle.site_step.specs.State.{starts_with_summary, BeginsHeld}
use Rattle.site_step.specs.declared.site.opening.OpenFault.{OpenFault}
use Rattle.site_step.specs.declared.site.opening.OpenFault.TheVariants.{Device, Line, NoMemory}
use Rattle.site_step.specs.Opening.{IsFirstBad, BeginsBehind, StartsWith, TellsLine, SparesLogs, TellsLineBehind, SparesLogsBehind}
use Rattle.site_step.proofs.Holding.{all_more}

-- ---- sizes

pub text_long : (r : Record) → 2 ≤ length (text r)
text_long r =
    let ws : List (List ℕ) = words_of r in
    omega (
      arith,
      length-append (join_with_byte 32 ((letter_of r ∷ []) ∷ ws)) (10 ∷ []),
      ap length (line_spaced (letter_of r ∷ []) ws),
      length-append (letter_of r ∷ []) (words_spaced ws),
    )

-- a record takes two bytes or more
pub two_fewer : (left : List ℕ) (r : Record) (new : List ℕ) → IsRecordAt left r new → length new + 2 ≤ length left
two_fewer left r new at = omega (arith, ap length at.parts, length-append (text r) new, text_long r)

pub plain_few : (r : Record) → length (plain (r ∷ [])) ≤ 1
plain_few r = elim (is_summary r) as (λ b. length (cond (not b) (r ∷ []) []) ≤ 1) [ true ↦ lit≤ tt | false ↦ lit≤ tt ]

-- ---- what stands there

pub ends_log : (bytes : List ℕ) (rs : List Record) (left : List ℕ) → Begins bytes rs left → HasNoLf left → IsLog bytes rs left
ends_log bytes rs left so_far none = record { parts = so_far.parts; each = so_far.each; no_lf = none }

-- the records of a log begin with those that its bytes begin with
begins_log : (bytes : List ℕ) (rs : List Record) (left : List ℕ) (all : List Record) (rest : List ℕ) → bytes ≡ flat_map text rs ++ left
    → AllByRecursion IsRecord rs → IsLog bytes all rest → (more : List Record) × (all ≡ rs ++ more)
begins_log bytes [] left all rest parts each log = (all, refl)
begins_log bytes (r ∷ rs) left all rest parts each log =
    let next = next_in bytes all rest r (flat_map text rs ++ left) log (parts ∙ append_assoc (text r) (flat_map text rs) left) each.0 in
    let more = begins_log (flat_map text rs ++ left) rs left next.more rest refl each.1 next.log in
    (more.0, next.parts ∙ ap (λ (l : List Record). r ∷ l) more.1)

-- with the texts of records that are gone in front
parts_behind : (gone : List Record) (bytes : List ℕ) (rs : List Record) (left : List ℕ) → bytes ≡ flat_map text rs ++ left
    → flat_map text gone ++ bytes ≡ flat_map text (gone ++ rs) ++ left
parts_behind gone bytes rs left is =
    ap (λ (l : List ℕ). flat_map text gone ++ l) is ∙ sym (append_assoc (flat_map text gone) (flat_map text rs) left)
    ∙ ap (λ (l : List ℕ). l ++ left) (sym (flat_map-append text gone rs))

-- ---- what was read so far

-- So many records were taken in, and so many of them are no summaries: the bytes are their texts and what is left, they
-- are lawful behind those that are gone, and the standing is for all of these.
pub record HasRead (schema : SchemaValue) (s : ℕ) (gone : List Record) (bytes : List ℕ) (rs : List Record) (number count : ℕ)
    (standing : Standing) (left : List ℕ) : Type 0 where
  pub each : AllByRecursion IsRecord gone
  pub front : Begins bytes rs left
  pub number_is : number ≡ length rs
  pub count_is : count ≡ length (plain rs)
  pub fewer : count ≤ number
  pub small : 2 * number + length left ≤ length bytes
  pub lawful : Lawful schema s (gone ++ rs)
  pub standing_is : IsStandingFor schema s (gone ++ rs) standing

-- nothing was read yet
pub read_none : {schema : SchemaValue} {s : ℕ} {gone : List Record} {bytes left : List ℕ} {noted : List Record} {standing : Standing}
    → BeginsBehind schema s gone standing bytes → noted ≡ [] → left ≡ bytes → HasRead schema s gone bytes noted 0 0 standing left
read_none {schema = schema} {s = s} {gone = gone} {bytes = bytes} {left = left} {standing = standing} begins none all =
    let whole : HasRead schema s gone bytes [] 0 0 standing bytes = record {
      each = begins.each;
      front = record { parts = refl; each = tt };
      number_is = refl;
      count_is = refl;
      fewer = lit≤ tt;
      small = omega arith;
      lawful = subst (λ (l : List Record). Lawful schema s l) (sym (append-nil gone)) begins.lawful;
      standing_is = subst (λ (l : List Record). IsStandingFor schema s l standing) (sym (append-nil gone)) begins.stands;
    } in
    subst (λ (l : List Record). HasRead schema s gone bytes l 0 0 standing left) (sym none)
    (subst (λ (l : List ℕ). HasRead schema s gone bytes [] 0 0 standing l) (sym all) whole)

module _ {schema : SchemaValue} {s : ℕ} {gone : List Record} {bytes : List ℕ} {rs : List Record} {number count : ℕ} {standing : Standing}
    {left : List ℕ} (so_far : HasRead schema s gone bytes rs number count standing left) where
  -- one more is taken in, and noted as the last of these
  pub read_more : {r : Record} {new : List ℕ} {after : Standing} {noted : List Record} {behind : List ℕ} {more : ℕ} → IsRecordAt left r new
      → TakesIn schema standing r true after → noted ≡ rs ++ r ∷ [] → behind ≡ new → more ≡ count + length (plain (r ∷ []))
      → HasRead schema s gone bytes noted (number + 1) more after behind
  read_more {r = r} {new = new} {after = after} {noted = noted} {behind = behind} {more = more} at takes noted_is behind_is more_is =
      let grown = append_assoc gone rs (r ∷ []) in
      let whole : HasRead schema s gone bytes (rs ++ r ∷ []) (number + 1) more after new = record {
        each = so_far.each;
        front = begins_more bytes rs left r new so_far.front at;
        number_is = omega (arith, so_far.number_is, length-append rs (r ∷ []));
        count_is = omega (arith, so_far.count_is, more_is, plain_push rs r);
        fewer = omega (arith, so_far.fewer, more_is, plain_few r);
        small = omega (arith, so_far.small, two_fewer left r new at);
        lawful = subst (λ (l : List Record). Lawful schema s l) grown
            (lawful_push schema s (gone ++ rs) r so_far.lawful (sym (takes.answered s (gone ++ rs) so_far.lawful so_far.standing_is)));
        standing_is = subst (λ (l : List Record). IsStandingFor schema s l after) grown
            (after_one schema s (gone ++ rs) r standing after so_far.lawful so_far.standing_is takes);
      } in
      subst (λ (xs : List Record). HasRead schema s gone bytes xs (number + 1) more after behind) (sym noted_is)
      (subst (λ (l : List ℕ). HasRead schema s gone bytes (rs ++ r ∷ []) (number + 1) more after l) (sym behind_is) whole)

  -- the next may not stand there
  pub broken_line : {r : Record} {new : List ℕ} {after : Standing} → IsRecordAt left r new → TakesIn schema standing r false after
      → IsFirstBad schema s (flat_map text gone ++ bytes) (length gone + (number + 1))
  broken_line {r = r} {new = new} at takes =
      let front = begins_more bytes rs left r new so_far.front at in
      inl (
        gone ++ (rs ++ r ∷ []),
        record {
          behind = new;
          parts = parts_behind gone bytes (rs ++ r ∷ []) new front.parts;
          each = all_more gone (rs ++ r ∷ []) so_far.each front.each;
        },
        record {
          before = gone ++ rs;
          breaking = r;
          behind = [];
          place = omega (arith, so_far.number_is, length-append gone rs);
          parts = sym (append_assoc gone rs (r ∷ []));
          lawful = so_far.lawful;
          broken = sym (takes.answered s (gone ++ rs) so_far.lawful so_far.standing_is);
        },
      )

  pub broken_log : {r : Record} {new : List ℕ} {after : Standing} → IsRecordAt left r new → TakesIn schema standing r false after
      → (all : List Record) (rest : List ℕ) → IsLog bytes all rest → Lawful schema s (gone ++ all) → ⊥
  broken_log {r = r} {new = new} at takes all rest log lawful =
      let front = begins_more bytes rs left r new so_far.front at in
      let more = begins_log bytes (rs ++ r ∷ []) new all rest front.parts front.each log in
      let parts : gone ++ all ≡ (gone ++ rs) ++ r ∷ more.0 =
      ap (λ (l : List Record). gone ++ l) (more.1 ∙ append_assoc rs (r ∷ []) more.0) ∙ sym (append_assoc gone rs (r ∷ more.0)) in
      let may : may_follow schema s (gone ++ rs) r ≡ true =
      (lawful_at schema s (gone ++ rs) r more.0 (subst (λ (l : List Record). Lawful schema s l) parts lawful)).1 in
      let broken : false ≡ may_follow schema s (gone ++ rs) r = takes.answered s (gone ++ rs) so_far.lawful so_far.standing_is in
      absurd cc

  -- the next line is no record
  pub bad_line : StartsBad left → IsFirstBad schema s (flat_map text gone ++ bytes) (length gone + (number + 1))
  bad_line starts =
      let named = bad_there bytes rs left 0 so_far.front starts in
      let bad = named.0 in
      inr (
        record {
          before = gone ++ bad.before;
          line = bad.line;
          behind = bad.behind;
          place = omega (arith, so_far.number_is, length-append gone bad.before, ap length named.1);
          parts = parts_behind gone bytes bad.before (bad.line ++ 10 ∷ bad.behind) bad.parts;
          each = all_more gone bad.before so_far.each bad.each;
          one_line = bad.one_line;
          none = bad.none;
        },
        subst (λ (xs : List Record). Lawful schema s (gone ++ xs)) (sym named.1) so_far.lawful,
      )

  pub bad_log : StartsBad left → (all : List Record) (rest : List ℕ) → IsLog bytes all rest → ⊥
  bad_log starts all rest log = no_log bytes (length rs + 1) (bad_there bytes rs left 0 so_far.front starts).0 all rest log

-- ---- what is opened behind a base

-- none are gone where nothing is held
pub none_gone : {gone : List Record} {bytes : List ℕ} → ((rs : List Record) (rest : List ℕ) → IsLog bytes rs rest → BeginsHeld gone rs)
    → bytes ≡ [] → flat_map text gone ++ bytes ≡ []
none_gone {gone = gone} {bytes = bytes} begins none =
    ap (λ (b : List ℕ). flat_map text gone ++ b) none ∙ by (begins [] [] (record { parts = none; each = tt; no_lf = refl }))
  where
    by : BeginsHeld gone [] → flat_map text gone ++ [] ≡ []
    by (inl is) = ap (λ (rs : List Record). flat_map text rs ++ []) is
    by (inr first) = absurd (false≢true first)

-- the base is the first record that is held
pub begins_with : {bytes : List ℕ} {base : SummaryValue} (gone : List Record) → StartsWith bytes base → (rs : List Record) (rest : List ℕ)
    → IsLog bytes rs rest → BeginsHeld gone rs
begins_with {bytes = bytes} {base = base} gone starts rs rest log =
    inr (ap starts_with_summary (next_in bytes rs rest (summary_record base) starts.0 log starts.1.parts starts.1.fits).parts)

none_more : (n : ℕ) → 0 + n ≡ n
none_more n = omega arith

-- where none are gone, lines are counted from the first
pub tells_first : (schema : SchemaValue) (s : ℕ) (bytes : List ℕ) (fault : OpenFault) → TellsLineBehind schema s [] bytes fault
    → TellsLine schema s bytes fault
tells_first schema s bytes (Line n) tells = subst (λ (m : ℕ). IsFirstBad schema s bytes m) (none_more n) tells
tells_first schema s bytes Device tells = tt
tells_first schema s bytes NoMemory tells = tt

pub spares_first : (schema : SchemaValue) (s : ℕ) (bytes : List ℕ) (fault : OpenFault) → SparesLogsBehind schema s [] bytes fault
    → SparesLogs schema s bytes fault
spares_first schema s bytes (Line n) spares = spares
spares_first schema s bytes Device spares = tt
spares_first schema s bytes NoMemory spares = tt
