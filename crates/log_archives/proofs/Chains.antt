-- Parts that join are one log.
use Rattle.std.proofs.Common.{◌≡◌, ℕ, true, List, [], ◌∷◌, ◌++◌, Option, None, Some, sym, ap, subst, ◌∙◌, append_assoc}
use Rattle.std.specs.List.{flat_map, AllByRecursion}
use Rattle.field_bounds.specs.Schema.{SchemaValue}
use Rattle.kept_records.specs.declared.record.Record.{Record}
use Rattle.kept_records.specs.Lines.{IsRecordAt}
use Rattle.kept_records.specs.Logs.{IsLog}
use Rattle.kept_records.specs.Stands.{Lawful, may_follow}
use Rattle.kept_records.specs.Summary.{SummaryValue, summary_record}
use Rattle.kept_records.specs.Text.{text, IsRecord}
use Rattle.kept_records.proofs.Pushes.{lawful_at}
use Rattle.log_bases.specs.Bases.{IsPast}
use Rattle.held_logs.proofs.Firsts.{same_first}
use Rattle.log_head.specs.declared.gone.Gone.{Gone}
use Rattle.log_archives.specs.Chains.{AreJoined, AreToldInTurn, PartValue}
use Rattle.log_archives.specs.Heads.{AreGone}
use Rattle.log_archives.specs.Joints.{AreBehindBase, AreFrom, Joins}
use Rattle.log_archives.proofs.Reaches.{told_on}

all_append : (rs ss : List Record) → AllByRecursion IsRecord rs → AllByRecursion IsRecord ss → AllByRecursion IsRecord (rs ++ ss)
all_append [] ss all more = more
all_append (r ∷ rs) ss all more = (all.0, all_append rs ss all.1 more)

-- records that a base may stand behind are its past
past_at : (schema : SchemaValue) (s : ℕ) (front : List Record) (base : SummaryValue) → AllByRecursion IsRecord front
    → Lawful schema s (front ++ summary_record base ∷ []) → IsPast schema s base front
past_at schema s front base each lawful =
    let parts = lawful_at schema s front (summary_record base) [] lawful in
    record { each = each; lawful = parts.0; told = parts.1 }

-- behind the same record the same is lawful
as_base : (schema : SchemaValue) (s : ℕ) (base other : SummaryValue) (past : List Record) → summary_record base ≡ summary_record other
    → IsPast schema s base past → IsPast schema s other past
as_base schema s base other past same is = record {
  each = is.each;
  lawful = is.lawful;
  told = subst (λ (r : Record). may_follow schema s past r ≡ true) same is.told;
}

-- the records behind a joint
module _ (schema : SchemaValue) (s : ℕ) (front tail : List Record) (base : SummaryValue) (each : AllByRecursion IsRecord front)
    (from : AreBehindBase schema s tail) (same : summary_record base ≡ summary_record from.base) where
  -- they are lawful behind all that is lawful with the base
  on_lawful : (before : List Record) → AllByRecursion IsRecord before → Lawful schema s (before ++ (front ++ summary_record base ∷ []))
      → Lawful schema s (before ++ (front ++ tail))
  on_lawful before past lawful =
      let all = subst (λ (l : List Record). Lawful schema s l) (sym (append_assoc before front (summary_record base ∷ []))) lawful in
      let is = past_at schema s (before ++ front) base (all_append before front past each) all in
      subst (λ (l : List Record). Lawful schema s l) (append_assoc before front tail)
      (from.lawful.lawful (before ++ front) (as_base schema s base from.base (before ++ front) same is))

  first_of : (first : SummaryValue) (behind : List Record) (rs : List Record) → rs ++ summary_record base ∷ [] ≡ summary_record first ∷ behind
      → (more : List Record) × (rs ++ tail ≡ summary_record first ∷ more)
  first_of first behind [] is =
      let one : summary_record base ≡ summary_record first = cc in
      (from.behind, from.first ∙ ap (λ (r : Record). r ∷ from.behind) (sym same ∙ one))
  first_of first behind (r ∷ rs) is =
      let one : r ≡ summary_record first = cc in
      (rs ++ tail, ap (λ (q : Record). q ∷ (rs ++ tail)) one)

  pub on_from : (gone : Option Gone) → AreFrom schema s gone (front ++ summary_record base ∷ []) → AreFrom schema s gone (front ++ tail)
  on_from None lawful = on_lawful [] tt lawful
  on_from (Some gone) behind =
      let first = first_of behind.base behind.behind front behind.first in
      record {
        base = behind.base;
        behind = first.0;
        first = first.1;
        lawful = record {
          some = behind.lawful.some;
          lawful = λ past is. on_lawful past is.each (behind.lawful.lawful past is);
        };
      }

-- the first record of a part is the first of those from it on
first_by : (schema : SchemaValue) (s : ℕ) (gone : Option Gone) (held : List ℕ) (p : PartValue) (r : Record) (rs tail : List Record)
    → (joins : Joins schema s gone held p.gone p.held) → (tail ≡ r ∷ rs → (left : List ℕ) × IsRecordAt p.held r left)
    → (front : List Record) → held ≡ flat_map text front ++ (text (summary_record joins.base) ++ joins.left)
    → AllByRecursion IsRecord front → r ∷ rs ≡ front ++ tail → (left : List ℕ) × IsRecordAt held r left
first_by schema s gone held p r rs tail joins next [] held_is each is =
    let at = next (sym is) in
    let one : summary_record joins.base ≡ r =
    same_first p.held (summary_record joins.base) r joins.behind at.0 joins.next_is at.1 in (
      joins.left,
      subst (λ (x : Record). IsRecordAt held x joins.left) one (record { parts = held_is; fits = joins.next_is.fits }),
    )
first_by schema s gone held p r rs tail joins next (q ∷ qs) held_is each is =
    let one : q ≡ r = cc in
    let line : List ℕ = text (summary_record joins.base) in (
      flat_map text qs ++ (line ++ joins.left),
      subst (λ (x : Record). IsRecordAt held x (flat_map text qs ++ (line ++ joins.left))) one
          (record { parts = held_is ∙ append_assoc (text q) (flat_map text qs) (line ++ joins.left); fits = each.0 }),
    )

first_joined : (schema : SchemaValue) (s : ℕ) (gone : Option Gone) (held : List ℕ) (parts : List PartValue) (r : Record) (rs all : List Record)
    → all ≡ r ∷ rs → AreJoined schema s gone held parts all → (left : List ℕ) × IsRecordAt held r left
first_joined schema s gone held [] r rs all is joined =
    let log = subst (λ (l : List Record). IsLog held l joined.0) is joined.1 in
    (flat_map text rs ++ joined.0, record { parts = log.parts ∙ append_assoc (text r) (flat_map text rs) joined.0; fits = log.each.0 })
first_joined schema s gone held (p ∷ ps) r rs all is joined =
    first_by schema s gone held p r rs joined.1 joined.0
    (λ same. first_joined schema s (Some p.gone) p.held ps r rs joined.1 same joined.3)
    joined.0.front joined.0.held_is joined.0.each (sym is ∙ joined.2)

-- joined records are lawful
pub joined_from : (schema : SchemaValue) (s : ℕ) (gone : Option Gone) (held : List ℕ) (parts : List PartValue) (rs : List Record)
    → AreJoined schema s gone held parts rs → AreFrom schema s gone rs
joined_from schema s gone held [] rs joined = joined.2
joined_from schema s gone held (p ∷ ps) rs joined =
    let joins = joined.0 in
    let tail = joined.1 in
    let from : AreBehindBase schema s tail = joined_from schema s (Some p.gone) p.held ps tail joined.3 in
    let at = first_joined schema s (Some p.gone) p.held ps (summary_record from.base) from.behind tail from.first joined.3 in
    let same : summary_record joins.base ≡ summary_record from.base =
    same_first p.held (summary_record joins.base) (summary_record from.base) joins.behind at.0 joins.next_is at.1 in
    subst (λ (l : List Record). AreFrom schema s gone l) (sym joined.2)
    (on_from schema s joins.front tail joins.base joins.each from same gone joins.lawful)

-- and their heads tell rightly
pub told_joined : (schema : SchemaValue) (s : ℕ) (gone : Option Gone) (held : List ℕ) (parts : List PartValue) (rs before : List Record)
    → AreGone gone before → AreJoined schema s gone held parts rs → AreToldInTurn before parts rs
told_joined schema s gone held [] rs before is joined = tt
told_joined schema s gone held (p ∷ ps) rs before is joined =
    let joins = joined.0 in
    let told = told_on gone p.gone before joins.front is joins.tells in (
      joins.front,
      joined.1,
      joined.2,
      told,
      told_joined schema s (Some p.gone) p.held ps joined.1 (before ++ joins.front) told joined.3,
    )
