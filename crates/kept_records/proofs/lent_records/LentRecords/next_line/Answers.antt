use Rattle.std.proofs.Common.{◌≡◌, ◌+◌, ◌-◌, ◌++◌, ℕ, List, length, take, drop, Some, None, refl, sym, ap, subst, ◌∙◌, rules}
use Rattle.std.proofs.lemmas.List.{take_rest}
use Rattle.line_words.specs.Words.{words}
use Rattle.kept_records.specs.declared.record.Record.{Record}
use Rattle.kept_records.specs.Text.{text}
use Rattle.kept_records.specs.Reading.{record_of}
use Rattle.kept_records.specs.Logs.{HasNoLf}
use Rattle.kept_records.specs.Lines.{IsRecordAt, StartsBad}
use Rattle.kept_records.specs.Lent.{LentValue}
use Rattle.kept_records.proofs.Bytes.{Cut, found, missing}
use Rattle.kept_records.proofs.Cursors.{fewer}
use Rattle.kept_records.proofs.Walks.{record_at, starts_bad}
use Rattle.kept_records.proofs.lent_records.LentRecords.next_line.Goals as goal

pub returns-in_default-clause-handed : goal.returns-in_default-clause-handed
returns-in_default-clause-handed c = (
  subst HasNoLf (ap (λ (v : LentValue). v.left) c.self.view_is) (missing 10 c.self.inside.left.now (sym c.in_default.ensures)),
  refl,
)

-- the line, and what the slice behind it is
taken : (old left : List ℕ) (end : ℕ) (kept : Record) → left ≡ old → Cut 10 left end → record_of (words (take end left)) ≡ Some kept
    → IsRecordAt old kept (take (length left - (end + 1)) (drop (end + 1) left))
taken old left end kept same cut is =
    let at = record_at left end kept cut is in
    record {
      parts = sym same ∙ at.parts ∙ ap (λ (l : List ℕ). text kept ++ l) (sym (take_rest left (end + 1)));
      fits = at.fits;
    }

pub returns-in-Ok-clause-handed : goal.returns-in-Ok-clause-handed
returns-in-Ok-clause-handed c = taken c.args.self.now.left c.self.inside.left.now c.in-Some.end c.in-Ok.kept (ap (λ (v : LentValue). v.left) c.self.view_is)
    (found 10 c.self.inside.left.now c.in-Some.end (sym c.in-Some.ensures)) c.in-Ok.ensures

pub returns-in-Ok-clause-shorter : goal.returns-in-Ok-clause-shorter
returns-in-Ok-clause-shorter c =
    let left = c.self.inside.left.now in
    let end = c.in-Some.end in
    let at = taken c.args.self.now.left left end c.in-Ok.kept (ap (λ (v : LentValue). v.left) c.self.view_is) (found 10 left end (sym c.in-Some.ensures)) c.in-Ok.ensures in
    fewer c.args.self.now.left (take (length left - (end + 1)) (drop (end + 1) left)) c.in-Ok.kept at.parts

pub returns-in-Err-NoRecord-clause-handed : goal.returns-in-Err-NoRecord-clause-handed
returns-in-Err-NoRecord-clause-handed c =
    let left = c.self.inside.left.now in
    let end = c.in-Some.end in
    let none : record_of (words (take end left)) ≡ None = rw c.in-Err-NoRecord.field-0-is at c.in-Err-NoRecord.ensures in
    let bad = starts_bad left end (found 10 left end (sym c.in-Some.ensures)) none in
    (subst StartsBad (ap (λ (v : LentValue). v.left) c.self.view_is) bad, (ap (λ (v : LentValue). v.left) c.self.view_is))

pub returns-in-Ok-clause-within : goal.returns-in-Ok-clause-within
returns-in-Ok-clause-within c = search rules

pub returns-in-Ok-clause-stays : goal.returns-in-Ok-clause-stays
returns-in-Ok-clause-stays c = search rules
