-- No line is named of a log that is lawful behind a past of its base.
use Rattle.std.proofs.Common.{◌≡◌, ℕ, true, false, List, [], ◌∷◌, ◌++◌, refl, sym, ap, subst, ◌∙◌, inl, inr, append_assoc}
use Rattle.std.specs.List.{flat_map, AllByRecursion}
use Rattle.field_bounds.specs.Schema.{SchemaValue}
use Rattle.kept_records.specs.declared.record.Record.{Record}
use Rattle.kept_records.specs.declared.record.Record.TheVariants.{Commit, Gift, Accept, Tighten, Restart, Summary}
use Rattle.kept_records.specs.Lines.{IsRecordAt}
use Rattle.kept_records.specs.Logs.{IsLog}
use Rattle.kept_records.specs.Stands.{may_follow, Lawful, BreaksRule as IsFirstBroken}
use Rattle.kept_records.specs.Summary.{SummaryValue, summary_told, summary_record}
use Rattle.kept_records.specs.Text.{text, IsRecord}
use Rattle.kept_records.proofs.Cursors.{next_in}
use Rattle.kept_records.proofs.Lines.{no_log}
use Rattle.kept_records.proofs.Pushes.{lawful_at}
use Rattle.log_replay.specs.declared.log_bytes.LogReplayed.TheVariants as came
use Rattle.log_bases.specs.Bases.{IsPast}
use Rattle.held_logs.specs.Behind.{IsNoBase, IsRuleBehind, TellsBehind}
use Rattle.held_logs.proofs.Firsts.{none_first, same_first}

-- ---- one base

told_by : Record → SummaryValue
told_by (Commit txn escrows) = summary_told 0 [] [] [] []
told_by (Gift to field kind total) = summary_told 0 [] [] [] []
told_by (Accept from field kind total) = summary_told 0 [] [] [] []
told_by (Tighten field kind total) = summary_told 0 [] [] [] []
told_by (Restart epoch) = summary_told 0 [] [] [] []
told_by (Summary epoch rights gifts accepts tightenings) = summary_told epoch rights gifts accepts tightenings

pub same_base : (a b : SummaryValue) → summary_record a ≡ summary_record b → a ≡ b
unfolding told_by
same_base a b same = ap told_by same

-- the records of a log begin with those that its bytes begin with
begins_log : (bytes : List ℕ) (rs : List Record) (left : List ℕ) (all : List Record) (rest : List ℕ) → bytes ≡ flat_map text rs ++ left
    → AllByRecursion IsRecord rs → IsLog bytes all rest → (more : List Record) × (all ≡ rs ++ more)
begins_log bytes [] left all rest parts each log = (all, refl)
begins_log bytes (r ∷ rs) left all rest parts each log =
    let next = next_in bytes all rest r (flat_map text rs ++ left) log (parts ∙ append_assoc (text r) (flat_map text rs) left) each.0 in
    let more = begins_log (flat_map text rs ++ left) rs left next.more rest refl each.1 next.log in
    (more.0, next.parts ∙ ap (λ (l : List Record). r ∷ l) more.1)

-- records that begin with ones of which the first breaks a rule aren't lawful
not_lawful : (schema : SchemaValue) (s : ℕ) (rs : List Record) (n : ℕ) → IsFirstBroken schema s rs n → (more : List Record)
    → Lawful schema s (rs ++ more) → ⊥
not_lawful schema s rs n broken more lawful =
    let before = broken.before in
    let r = broken.breaking in
    let parts : rs ++ more ≡ before ++ (r ∷ (broken.behind ++ more)) =
    ap (λ (l : List Record). l ++ more) broken.parts ∙ append_assoc before (r ∷ broken.behind) more in
    let may : may_follow schema s before r ≡ true =
    (lawful_at schema s before r (broken.behind ++ more) (subst (λ (l : List Record). Lawful schema s l) parts lawful)).1 in
    let no : may_follow schema s before r ≡ false = broken.broken in
    absurd cc

module _ (schema : SchemaValue) (s : ℕ) (bytes : List ℕ) (base : SummaryValue) (records : List Record) (rest : List ℕ) (past : List Record)
    (log : IsLog bytes (summary_record base ∷ records) rest) (is : IsPast schema s base past)
    (lawful : Lawful schema s (past ++ (summary_record base ∷ records))) where
  at_base : IsRecordAt bytes (summary_record base) (flat_map text records ++ rest)
  at_base = record {
    parts = log.parts ∙ append_assoc (text (summary_record base)) (flat_map text records) rest;
    fits = log.each.0;
  }

  no_base_none : IsNoBase schema s bytes → ⊥
  no_base_none none =
      none.none base (same_first bytes none.first (summary_record base) none.behind (flat_map text records ++ rest) none.at at_base) past is

  no_rule : (n : ℕ) → IsRuleBehind schema s bytes n → ⊥
  no_rule n rule =
      let same : rule.base ≡ base =
      same_base rule.base base
      (same_first bytes (summary_record rule.base) (summary_record base) rule.first.0 (flat_map text records ++ rest) rule.first.1 at_base) in
      let broken = rule.broken past (subst (λ (b : SummaryValue). IsPast schema s b past) (sym same) is) in
      let more = begins_log bytes rule.records rule.left (summary_record base ∷ records) rest rule.begins.parts rule.begins.each log in
      let parts : past ++ (summary_record base ∷ records) ≡ (past ++ rule.records) ++ more.0 =
      ap (λ (l : List Record). past ++ l) more.1 ∙ sym (append_assoc past rule.records more.0) in
      not_lawful schema s (past ++ rule.records) _ broken more.0 (subst (λ (l : List Record). Lawful schema s l) parts lawful)

  pub no_line : (n : ℕ) → TellsBehind schema s bytes (came.BadLine n) → ⊥
  no_line n (inl first) = none_first bytes (summary_record base) (flat_map text records ++ rest) first.1 at_base
  no_line n (inr line) = no_log bytes n line.bad (summary_record base ∷ records) rest log

  pub no_broken_rule : (n : ℕ) → TellsBehind schema s bytes (came.BreaksRule n) → ⊥
  no_broken_rule n (inl first) = no_base_none first.1
  no_broken_rule n (inr rule) = no_rule n rule
