-- The first line of bytes, and the records that stand in front.
use Rattle.std.proofs.Common.{◌≡◌, ℕ, true, false, eqb, List, [], ◌∷◌, ◌++◌, drop, Option, Some, None, refl, sym, ap, subst, ◌∙◌, inl, inr, append_assoc}
use Rattle.std.specs.List.{flat_map, list_any, AllByRecursion}
use Rattle.std.proofs.lemmas.Bool.{false≢true}
use Rattle.std.proofs.lemmas.List.{append-nil, take-append-drop}
use Rattle.kept_records.specs.declared.record.Record.{Record}
use Rattle.kept_records.specs.declared.record.Record.TheVariants.{Commit, Gift, Accept, Tighten, Restart, Summary}
use Rattle.kept_records.specs.declared.counting.LogCount.{LogCount}
use Rattle.kept_records.specs.Counting.{IsCountOf}
use Rattle.kept_records.specs.Lines.{IsRecordAt}
use Rattle.kept_records.specs.Logs.{Reads, AreGoodRecords}
use Rattle.kept_records.specs.Stands.{is_summary}
use Rattle.kept_records.specs.Summary.{summary_record}
use Rattle.kept_records.specs.Text.{text, IsRecord}
use Rattle.kept_records.proofs.Bytes.{one_cut}
use Rattle.kept_records.proofs.Cursors.{has_lf}
use Rattle.kept_records.proofs.Lines.{body, body_without, begins, regrouped}
use Rattle.held_logs.specs.declared.first_line.FirstLine.{FirstLine}
use Rattle.held_logs.specs.declared.first_line.FirstLine.TheVariants as first
use Rattle.held_logs.specs.Behind.{HasNoFirst, IsFirst}
use Rattle.held_logs.specs.Counts.{epoch_told, base_epoch}

-- ---- one first line

-- bytes of which the first line is no record begin with none
pub none_first : (bytes : List ℕ) (r : Record) (new : List ℕ) → HasNoFirst bytes → IsRecordAt bytes r new → ⊥
none_first bytes r new (inl none) at =
    let has : list_any (λ x. eqb x 10) bytes ≡ true = ap (list_any (λ x. eqb x 10)) at.parts ∙ has_lf r new in
    absurd (let no : list_any (λ x. eqb x 10) bytes ≡ false = none in cc)
none_first bytes r new (inr bad) at =
    let same = one_cut 10 bad.line (body r) bad.behind new bad.one_line (body_without r at.fits) (sym bad.parts ∙ at.parts ∙ regrouped r new) in
    bad.none r at.fits (ap (λ (l : List ℕ). l ++ 10 ∷ []) (sym same.front))

-- and no bytes with two
pub same_first : (bytes : List ℕ) (r s : Record) (new more : List ℕ) → IsRecordAt bytes r new → IsRecordAt bytes s more → r ≡ s
same_first bytes r s new more at other =
    let same = one_cut 10 (body r) (body s) new more (body_without r at.fits) (body_without s other.fits)
    (sym (regrouped r new) ∙ sym at.parts ∙ other.parts ∙ regrouped s more) in
    (begins r s [] at.fits other.fits (ap (λ (l : List ℕ). l ++ 10 ∷ []) (sym same.front) ∙ sym (append-nil (text r)))).0

first_at : (bytes : List ℕ) (s : Record) (ss : List Record) (left : List ℕ) → bytes ≡ flat_map text (s ∷ ss) ++ left → IsRecord s
    → IsRecordAt bytes s (flat_map text ss ++ left)
first_at bytes s ss left parts fits = record { parts = parts ∙ append_assoc (text s) (flat_map text ss) left; fits = fits }

-- ---- the epoch of a base

plain_epoch : (r : Record) → is_summary r ≡ false → 0 ≡ epoch_told r
plain_epoch (Commit txn escrows) plain = refl
plain_epoch (Gift to field kind total) plain = refl
plain_epoch (Accept from field kind total) plain = refl
plain_epoch (Tighten field kind total) plain = refl
plain_epoch (Restart epoch) plain = refl
plain_epoch (Summary epoch rights gifts accepts tightenings) plain = absurd (false≢true (sym plain))

-- the records in front of the first line that is none
record Front (bytes : List ℕ) (rs : List Record) : Type 0 where
  left : List ℕ
  parts : bytes ≡ flat_map text rs ++ left
  each : AllByRecursion IsRecord rs
  none : HasNoFirst left

front_of : (bytes : List ℕ) (rs : List Record) (n : ℕ) (bad : Option ℕ) → AreGoodRecords bytes rs n bad → Front bytes rs
front_of bytes rs n None good =
    let reads : Reads bytes rs n = good.0 in
    record {
      left = drop n bytes;
      parts = sym (take-append-drop n bytes) ∙ ap (λ (l : List ℕ). l ++ drop n bytes) reads.whole;
      each = reads.each;
      none = inl reads.rest;
    }
front_of bytes rs n (Some line) good =
    let bad = good.0 in
    record {
      left = bad.line ++ 10 ∷ bad.behind;
      parts = bad.parts ∙ ap (λ (l : List Record). flat_map text l ++ (bad.line ++ 10 ∷ bad.behind)) good.1;
      each = subst (λ (l : List Record). AllByRecursion IsRecord l) good.1 bad.each;
      none = inr (record { line = bad.line; behind = bad.behind; parts = refl; one_line = bad.one_line; none = bad.none });
    }

epoch_front : (bytes : List ℕ) (r : Record) (new : List ℕ) → IsRecordAt bytes r new → (rs : List Record) (left : List ℕ)
    → bytes ≡ flat_map text rs ++ left → AllByRecursion IsRecord rs → HasNoFirst left → epoch_told r ≡ base_epoch rs
epoch_front bytes r new at [] left parts each none =
    absurd (none_first left r new none (subst (λ (l : List ℕ). IsRecordAt l r new) parts at))
epoch_front bytes r new at (s ∷ ss) left parts each none =
    ap epoch_told (same_first bytes r s new (flat_map text ss ++ left) at (first_at bytes s ss left parts each.0))

epoch_none : (bytes : List ℕ) → HasNoFirst bytes → (rs : List Record) (left : List ℕ) → bytes ≡ flat_map text rs ++ left
    → AllByRecursion IsRecord rs → 0 ≡ base_epoch rs
epoch_none bytes none [] left parts each = refl
epoch_none bytes none (s ∷ ss) left parts each =
    absurd (none_first bytes s (flat_map text ss ++ left) none (first_at bytes s ss left parts each.0))

-- what the first line tells
abbrev pub first_epoch : FirstLine → ℕ
first_epoch (first.Base base) = base.epoch
first_epoch first.Other = 0
first_epoch first.Missing = 0

-- it is what the first record tells, of the records as they are counted
epoch_by : (bytes left : List ℕ) (line : FirstLine) → IsFirst bytes line left → (rs : List Record) → Front bytes rs
    → first_epoch line ≡ base_epoch rs
epoch_by bytes left (first.Base base) is rs front = epoch_front bytes (summary_record base) left is rs front.left front.parts front.each front.none
epoch_by bytes left first.Other is rs front =
    plain_epoch is.0 is.3 ∙ epoch_front bytes is.0 is.1 is.2 rs front.left front.parts front.each front.none
epoch_by bytes left first.Missing is rs front = epoch_none bytes is rs front.left front.parts front.each

pub epoch_of_first : (bytes left : List ℕ) (line : FirstLine) → IsFirst bytes line left → (count : LogCount) → (counted : IsCountOf bytes count)
    → first_epoch line ≡ base_epoch counted.records
epoch_of_first bytes left line is count counted =
    epoch_by bytes left line is counted.records
    (front_of bytes counted.records count.length count.bad_line counted.good)
