-- Where a base stands.
use Rattle.std.proofs.Common.{◌≡◌, ◌≢◌, ℕ, ◌+◌, ◌-◌, ◌<◌, ◌≤◌, List, [], ◌∷◌, ◌++◌, length, take, drop, Option, refl, sym, ap, subst, ◌∙◌, inr, arith, length-append}
use Rattle.std.proofs.Math.Seq.{take-append_seam}
use Rattle.std.proofs.lemmas.List.{length-take-le, take-append-drop}
use Rattle.kept_records.specs.declared.record.Record.{Record}
use Rattle.kept_records.specs.Stands.{plain}
use Rattle.kept_records.specs.Lines.{IsRecordAt}
use Rattle.kept_records.specs.declared.record.Record.TheVariants.{Commit, Gift, Accept, Tighten, Restart, Summary}
use Rattle.kept_records.specs.Summary.{SummaryValue, summary_record, summary_told}
use Rattle.kept_records.specs.Text.{text}
use Rattle.held_logs.specs.Behind.{HasNoFirst}
use Rattle.held_logs.proofs.Firsts.{none_first, same_first}
use Rattle.log_head.specs.declared.gone.Gone.{Gone}
use Rattle.log_archives.specs.declared.finding.BaseFound.{BaseFound}
use Rattle.log_archives.specs.declared.finding.BaseFound.TheVariants as found
use Rattle.log_archives.specs.Heads.{bytes_told}
use Rattle.log_archives.specs.Joints.{FindsBase, FindsLine, HasBase, HasNoBase, HasOtherLine}

-- a record that isn't counted is a base
pub base_of : (r : Record) → length (plain (r ∷ [])) ≡ 0 → (base : SummaryValue) × (r ≡ summary_record base)
base_of (Commit txn escrows) none = absurd (let two : 1 ≡ 0 = none in cc)
base_of (Gift to field kind total) none = absurd (let two : 1 ≡ 0 = none in cc)
base_of (Accept from field kind total) none = absurd (let two : 1 ≡ 0 = none in cc)
base_of (Tighten field kind total) none = absurd (let two : 1 ≡ 0 = none in cc)
base_of (Restart epoch) none = absurd (let two : 1 ≡ 0 = none in cc)
base_of (Summary epoch rights gifts accepts tightenings) none = (summary_told epoch rights gifts accepts tightenings, refl)

-- bytes that begin with the base have so many in front of what stands behind it
pub base_size : (bytes left : List ℕ) (r : Record) → IsRecordAt bytes r left → length (plain (r ∷ [])) ≡ 0 → (n : ℕ)
    → n ≡ length bytes - length left → HasBase bytes n
base_size bytes left r at none n is =
    let of = base_of r none in
    let base = of.0 in
    let there = subst (λ (x : Record). IsRecordAt bytes x left) of.1 at in
    (base, left, there, omega (arith, is, ap length there.parts, length-append (text (summary_record base)) left))

-- bytes that begin with another record, or with none, begin with no base
pub other_first : (bytes left : List ℕ) (r : Record) → IsRecordAt bytes r left → 0 < length (plain (r ∷ [])) → HasNoBase bytes
other_first bytes left r at some base starts =
    let same : r ≡ summary_record base = same_first bytes r (summary_record base) left starts.0 at starts.1 in
    let none : length (plain (r ∷ [])) ≡ 0 = ap (λ (x : Record). length (plain (x ∷ []))) same in
    absurd (omega (arith, some, none))

pub missing_first : (bytes : List ℕ) → HasNoFirst bytes → HasNoBase bytes
missing_first bytes none base starts = none_first bytes (summary_record base) starts.0 none starts.1

-- the line of a base
pub base_line : (next behind : List ℕ) (base : SummaryValue) (n : ℕ) → IsRecordAt next (summary_record base) behind
    → n ≡ length (text (summary_record base)) → take n next ≡ text (summary_record base)
base_line next behind base n at size =
    ap (λ (m : ℕ). take m next) size ∙ ap (λ (l : List ℕ). take (length (text (summary_record base))) l) at.parts
    ∙ take-append_seam (text (summary_record base)) behind

-- where it stands
pub finds_base : (gone : Option Gone) (held : List ℕ) (told : Gone) (next behind : List ℕ) (base : SummaryValue) (line : List ℕ) (answer : BaseFound)
    → IsRecordAt next (summary_record base) behind → line ≡ text (summary_record base) → FindsLine gone held told line answer
    → FindsBase gone held told next answer
finds_base gone held told next behind base line (found.At cut n) at same finds = record {
  base = base;
  behind = behind;
  next_is = at;
  there = subst (λ (l : List ℕ). FindsLine gone held told l (found.At cut n)) same finds;
}
finds_base gone held told next behind base line found.Short at same finds = record {
  base = base;
  next_is = (behind, at);
  few = subst (λ (l : List ℕ). bytes_told gone + length held < told.bytes + length l) same finds;
}
finds_base gone held told next behind base line found.OtherBase at same finds = inr (record {
  base = base;
  next_is = (behind, at);
  front = finds.front;
  is_front = finds.is_front;
  none = λ left is. finds.none left (is ∙ ap (λ (l : List ℕ). l ++ left) (sym same));
})
finds_base gone held told next behind base line found.OtherBytes at same finds = finds

-- at a place that is told
pub other_line : (gone : Option Gone) (held : List ℕ) (told : Gone) (line left : List ℕ) (cut : ℕ) → cut ≤ length held
    → left ≡ drop cut held → ((rest : List ℕ) → left ≢ line ++ rest) → told.bytes ≡ bytes_told gone + cut → HasOtherLine gone held told line
other_line gone held told line left cut within back none place = record {
  front = take cut held;
  is_front = record {
    left = left;
    held_is = sym (take-append-drop cut held) ∙ ap (λ (l : List ℕ). take cut held ++ l) (sym back);
    size = omega (arith, place, length-take-le cut held within);
  };
  none = none;
}
