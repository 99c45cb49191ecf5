-- Parts that join have no fault.
use Rattle.std.proofs.Common.{◌≡◌, ◌≢◌, ℕ, ◌+◌, true, false, List, [], ◌∷◌, ◌++◌, length, take, Option, None, Some, refl, sym, ap, subst, ◌∙◌, inl, inr, arith, length-append}
use Rattle.std.specs.Prelude.{◌&&◌}
use Rattle.std.specs.List.{flat_map, AllByRecursion}
use Rattle.std.proofs.Math.Seq.{take-append_seam}
use Rattle.std.proofs.lemmas.List.{append-nil, append_cancel_left}
use Rattle.field_bounds.specs.Schema.{SchemaValue}
use Rattle.kept_records.specs.declared.record.Record.{Record}
use Rattle.kept_records.specs.Lines.{Begins}
use Rattle.kept_records.specs.Logs.{IsLog, IsBadLine, AreGoodRecords}
use Rattle.kept_records.specs.Stands.{Lawful, may_follow, plain, BreaksRule as IsFirstBroken}
use Rattle.kept_records.specs.Summary.{SummaryValue, summary_record}
use Rattle.kept_records.specs.Text.{text, IsRecord}
use Rattle.kept_records.proofs.Cursors.{fewer}
use Rattle.kept_records.proofs.Lines.{all_push, flat_push, no_log, same_log}
use Rattle.kept_records.proofs.Pushes.{lawful_at}
use Rattle.log_replay.specs.declared.log_bytes.LogReplayed.TheVariants as came
use Rattle.log_bases.specs.Pasts.{past_of}
use Rattle.held_logs.specs.Behind.{HasNoFirst, StartsWith}
use Rattle.held_logs.proofs.Firsts.{same_first}
use Rattle.held_logs.proofs.Spared.{no_line, no_broken_rule}
use Rattle.log_head.specs.declared.gone.Gone.{Gone}
use Rattle.log_archives.specs.declared.fault.JointFault.{JointFault}
use Rattle.log_archives.specs.declared.fault.JointFault.TheVariants.{BadLine, BreaksRule, Short, OtherBase, OtherBytes, OtherRecords, OtherHorizon}
use Rattle.log_archives.specs.Heads.{all_may_go, goes_on, records_told}
use Rattle.log_archives.specs.Joints.{AreFrom, HasBaseAt, IsFront, IsJointFault, Joins, TellsHeld, TellsWrongly}
use Rattle.log_archives.proofs.Joins.{lines_are}

-- ---- lines that are lawful

all_good : (bytes : List ℕ) (read : List Record) (n : ℕ) (bad : Option ℕ) → AreGoodRecords bytes read n bad → (rs : List Record) (rest : List ℕ)
    → IsLog bytes rs rest → read ≡ rs
all_good bytes read n None good rs rest log = (good.1 rs rest log).0
all_good bytes read n (Some line) good rs rest log = absurd (no_log bytes line good.0 rs rest log)

not_broken : (schema : SchemaValue) (s : ℕ) (rs : List Record) (n : ℕ) → IsFirstBroken schema s rs n → Lawful schema s rs → ⊥
not_broken schema s rs n broken lawful =
    let before = broken.before in
    let r = broken.breaking in
    let may : may_follow schema s before r ≡ true =
    (lawful_at schema s before r broken.behind (subst (λ (l : List Record). Lawful schema s l) broken.parts lawful)).1 in
    let isnt : may_follow schema s before r ≡ false = broken.broken in
    absurd cc

-- have no line that is none
no_bad : (schema : SchemaValue) (s : ℕ) (gone : Option Gone) (bytes : List ℕ) (rs : List Record) (n : ℕ) → IsLog bytes rs []
    → AreFrom schema s gone rs → TellsHeld schema s gone bytes (came.BadLine n) → ⊥
no_bad schema s None bytes rs n log from tells = no_log bytes n tells.bad rs [] log
no_bad schema s (Some gone) bytes rs n log from tells =
    let past = past_of schema s from.base in
    no_line schema s bytes from.base from.behind [] past (subst (λ (l : List Record). IsLog bytes l []) from.first log) from.lawful.some
    (subst (λ (l : List Record). Lawful schema s (past ++ l)) from.first (from.lawful.lawful past from.lawful.some)) n tells

-- and none that breaks a rule
no_rule : (schema : SchemaValue) (s : ℕ) (gone : Option Gone) (bytes : List ℕ) (rs : List Record) (n : ℕ) → IsLog bytes rs []
    → AreFrom schema s gone rs → TellsHeld schema s gone bytes (came.BreaksRule n) → ⊥
no_rule schema s None bytes rs n log from tells =
    let same = all_good bytes tells.records tells.size tells.bad_line tells.good rs [] log in
    not_broken schema s tells.records n tells.broken (subst (λ (l : List Record). Lawful schema s l) (sym same) from)
no_rule schema s (Some gone) bytes rs n log from tells =
    let past = past_of schema s from.base in
    no_broken_rule schema s bytes from.base from.behind [] past (subst (λ (l : List Record). IsLog bytes l []) from.first log) from.lawful.some
    (subst (λ (l : List Record). Lawful schema s (past ++ l)) from.first (from.lawful.lawful past from.lawful.some)) n tells

-- ---- two parts that join

same_front : (a b c d : List ℕ) → a ++ b ≡ c ++ d → length a ≡ length c → a ≡ c
same_front a b c d same size =
    sym (take-append_seam a b) ∙ ap (λ (n : ℕ). take n (a ++ b)) size ∙ ap (λ (l : List ℕ). take (length c) l) same ∙ take-append_seam c d

-- nothing whole stands behind all records
no_left : (bytes : List ℕ) (rs all : List Record) (left : List ℕ) → IsLog bytes all [] → Begins bytes rs left → left ≢ [] → HasNoFirst left → ⊥
no_left bytes rs all left log begins some (inl none) =
    let own : IsLog bytes rs left = record { parts = begins.parts; each = begins.each; no_lf = none } in
    some (same_log bytes rs all left [] own log).1
no_left bytes rs all left log begins some (inr bad) =
    let is : IsBadLine bytes (length rs + 1) = record {
      before = rs;
      line = bad.line;
      behind = bad.behind;
      place = refl;
      parts = begins.parts ∙ ap (λ (l : List ℕ). flat_map text rs ++ l) bad.parts;
      each = begins.each;
      one_line = bad.one_line;
      none = bad.none;
    } in
    no_log bytes (length rs + 1) is all [] log

module _ (schema : SchemaValue) (s : ℕ) (gone : Option Gone) (held : List ℕ) (told : Gone) (next : List ℕ)
    (joins : Joins schema s gone held told next) where
  abbrev line : List ℕ
  line = text (summary_record joins.base)

  abbrev texts : List ℕ
  texts = flat_map text joins.front

  -- one base, and one front
  base_as : (base : SummaryValue) → StartsWith next base → text (summary_record base) ≡ line
  base_as base starts =
      ap text (same_first next (summary_record base) (summary_record joins.base) starts.0 joins.behind starts.1 joins.next_is)

  front_as : (front : List ℕ) → IsFront gone held told front → front ≡ texts
  front_as front is =
      same_front front is.left texts (line ++ joins.left) (sym is.held_is ∙ joins.held_is) (omega (arith, is.size, joins.tells.bytes))

  front_log : (front : List ℕ) → IsFront gone held told front → IsLog front joins.front []
  front_log front is =
      record { parts = front_as front is ∙ sym (append-nil texts); each = joins.each; no_lf = refl }

  lines_log : (cut n : ℕ) → HasBaseAt gone held told next cut n → IsLog (take (cut + n) held) (joins.front ++ summary_record joins.base ∷ []) []
  lines_log cut n at =
      let is : IsFront gone held told at.there.front = record {
        left = text (summary_record at.base) ++ at.there.left;
        held_is = at.there.held_is;
        size = omega (arith, at.there.place, at.there.cut_is);
      } in
      let lines : take (cut + n) held ≡ flat_map text (joins.front ++ summary_record joins.base ∷ []) =
      lines_are schema s gone held told next cut n at
      ∙ ap (λ (l : List ℕ). l ++ text (summary_record at.base)) (front_as at.there.front is)
      ∙ ap (λ (l : List ℕ). texts ++ l) (base_as at.base (at.behind, at.next_is)) ∙ sym (flat_push joins.front (summary_record joins.base)) in
      record {
        parts = lines ∙ sym (append-nil (flat_map text (joins.front ++ summary_record joins.base ∷ [])));
        each = all_push joins.front (summary_record joins.base) joins.each joins.next_is.fits;
        no_lf = refl;
      }

  -- the records of a front are those
  records_as : (front : List ℕ) → IsFront gone held told front → (rs : List Record) → Begins front rs [] → rs ≡ joins.front
  records_as front is rs begins =
      let own : IsLog front rs [] = record { parts = begins.parts; each = begins.each; no_lf = refl } in
      (same_log front rs joins.front [] [] own (front_log front is)).0

  pub spared : (fault : JointFault) → IsJointFault schema s gone held told next fault → ⊥
  spared (BadLine number) is =
      no_bad schema s gone (take (is.cut + is.size) held) (joins.front ++ summary_record joins.base ∷ []) number (lines_log is.cut is.size is.at)
      joins.lawful is.comes
  spared (BreaksRule number) is =
      no_rule schema s gone (take (is.cut + is.size) held) (joins.front ++ summary_record joins.base ∷ []) number (lines_log is.cut is.size is.at)
      joins.lawful is.comes
  spared Short is =
      let size : length (text (summary_record is.base)) ≡ length line = ap length (base_as is.base is.next_is) in
      let all : length held ≡ length texts + (length line + length joins.left) =
      ap length joins.held_is ∙ length-append texts (line ++ joins.left) ∙ ap (λ (n : ℕ). length texts + n) (length-append line joins.left) in
      absurd (omega (arith, is.few, size, all, joins.tells.bytes))
  spared OtherBase (inl none) = none joins.base (joins.behind, joins.next_is)
  spared OtherBase (inr other) =
      let same = front_as other.front other.is_front in
      let parts : texts ++ other.is_front.left ≡ texts ++ (line ++ joins.left) =
      ap (λ (l : List ℕ). l ++ other.is_front.left) (sym same) ∙ sym other.is_front.held_is ∙ joins.held_is in
      other.none joins.left
      (append_cancel_left texts _ _ parts ∙ ap (λ (l : List ℕ). l ++ joins.left) (sym (base_as other.base other.next_is)))
  spared OtherBytes (inl few) =
      none joins.front joins.some joins.each (omega (arith, few, joins.tells.bytes))
    where
      none : (rs : List Record) → rs ≢ [] → AllByRecursion IsRecord rs → length (flat_map text rs) ≡ 0 → ⊥
      none [] some each size = some refl
      none (r ∷ rs) some each size =
          let more : length (text r ++ flat_map text rs) ≡ 0 = size in
          absurd (omega (arith, more, fewer (text r ++ flat_map text rs) (flat_map text rs) r refl))
  spared OtherBytes (inr wrong) =
      let tells : TellsWrongly gone wrong.0 told OtherBytes = wrong.2 in
      no_left wrong.0 tells.0 joins.front tells.1 (front_log wrong.0 wrong.1) tells.2 tells.3 tells.4
  spared OtherRecords wrong =
      let tells : TellsWrongly gone wrong.0 told OtherRecords = wrong.2 in
      let same = records_as wrong.0 wrong.1 tells.0 tells.1 in
      tells.2 (joins.tells.records ∙ ap (λ (l : List Record). records_told gone + length (plain l)) (sym same))
  spared OtherHorizon wrong =
      let tells : TellsWrongly gone wrong.0 told OtherHorizon = wrong.2 in
      let same = records_as wrong.0 wrong.1 tells.0 tells.1 in
      let may : all_may_go told.horizon tells.0 ≡ true =
      ap (λ (l : List Record). all_may_go told.horizon l) same ∙ joins.tells.commits in
      let further : goes_on gone told.horizon ≡ true = joins.tells.further in
      let both : (all_may_go told.horizon tells.0 && goes_on gone told.horizon) ≡ true = rw (may, further) refl in
      let isnt : (all_may_go told.horizon tells.0 && goes_on gone told.horizon) ≡ false = tells.2 in
      absurd cc
