-- What lines that are read one after another come to.
use Rattle.std.proofs.Common.{◌≡◌, ℕ, ◌+◌, ◌-◌, List, [], ◌∷◌, ◌++◌, length, take, drop, refl, sym, ap, subst, ◌∙◌, arith, append_assoc}
use Rattle.std.specs.Prelude.{Some, None}
use Rattle.std.specs.List.{flat_map}
use Rattle.std.proofs.lemmas.List.{length-append}
use Rattle.line_words.specs.Words.{words}
use Rattle.kept_records.specs.declared.record.Record.{Record}
use Rattle.kept_records.specs.Text.{text}
use Rattle.kept_records.specs.Reading.{record_of}
use Rattle.kept_records.specs.Logs.{HasNoLf, Reads, IsBadLine, AreGoodRecords}
use Rattle.kept_records.specs.declared.record_lines.RecordLine.{RecordLine}
use Rattle.kept_records.specs.declared.record_lines.RecordLine.TheVariants as lines
use Rattle.kept_records.specs.Lines.{IsRecordAt, HandsLine, StartsBad, Begins}
use Rattle.kept_records.proofs.Bytes.{Cut}
use Rattle.kept_records.proofs.Lines.{line_takes, no_record, regrouped, all_push, flat_push, are_read, only_log}

-- ---- one line

-- a line that spells a record is its text
pub record_at : (left : List ℕ) (end : ℕ) (kept : Record) → Cut 10 left end → record_of (words (take end left)) ≡ Some kept
    → IsRecordAt left kept (drop (end + 1) left)
record_at left end kept cut is =
    let read = line_takes (take end left) kept is in
    record {
      parts = cut.parts ∙ ap (λ (l : List ℕ). l ++ 10 ∷ drop (end + 1) left) (sym read.0) ∙ sym (regrouped kept (drop (end + 1) left));
      fits = read.1;
    }

-- one that spells none is no record's text
pub starts_bad : (left : List ℕ) (end : ℕ) → Cut 10 left end → record_of (words (take end left)) ≡ None → StartsBad left
starts_bad left end cut none = record {
  line = take end left;
  behind = drop (end + 1) left;
  parts = cut.parts;
  one_line = cut.front;
  none = no_record (take end left) cut.front none;
}

-- what the line is, where the bytes stayed before it
module _ {old same : List ℕ} {line : RecordLine} (new : List ℕ) (stays : same ≡ old) (handed : HandsLine same line new) where
  handed_as : (is : RecordLine) → line ≡ is → HandsLine old is new
  handed_as is e = subst (λ (l : List ℕ). HandsLine l is new) stays (subst (λ (l : RecordLine). HandsLine same l new) e handed)

  pub at_line : {r : Record} → line ≡ lines.Record r → IsRecordAt old r new
  at_line {r = r} e = handed_as (lines.Record r) e

  pub bad_at_line : line ≡ lines.NoRecord → StartsBad old × (new ≡ old)
  bad_at_line e = handed_as lines.NoRecord e

  pub end_at_line : line ≡ lines.End → HasNoLf old × (new ≡ old)
  end_at_line e = handed_as lines.End e

-- ---- many lines

pub begins_none : (bytes : List ℕ) → Begins bytes [] bytes
begins_none bytes = record { parts = refl; each = tt }

pub begins_more : (bytes : List ℕ) (rs : List Record) (left : List ℕ) (r : Record) (new : List ℕ) → Begins bytes rs left
    → IsRecordAt left r new → Begins bytes (rs ++ r ∷ []) new
begins_more bytes rs left r new so_far at = record {
  parts = so_far.parts ∙ ap (λ (l : List ℕ). flat_map text rs ++ l) at.parts ∙ sym (append_assoc (flat_map text rs) (text r) new)
      ∙ ap (λ (l : List ℕ). l ++ new) (sym (flat_push rs r));
  each = all_push rs r so_far.each at.fits;
}

-- how long the records' texts are
pub begins_size : (bytes : List ℕ) (rs : List Record) (left : List ℕ) → Begins bytes rs left
    → length bytes - length left ≡ length (flat_map text rs)
begins_size bytes rs left so_far = omega (arith, ap length so_far.parts, length-append (flat_map text rs) left)

-- no line ends in what is left
pub ends_there : (bytes : List ℕ) (rs : List Record) (left : List ℕ) (n : ℕ) → Begins bytes rs left → HasNoLf left
    → n ≡ length (flat_map text rs) → AreGoodRecords bytes rs n None
ends_there bytes rs left n so_far none size =
    let reads : Reads bytes rs n = are_read bytes rs left n so_far.parts size so_far.each none in
    (reads, only_log bytes rs n reads)

-- the next line is no record's text
pub bad_there : (bytes : List ℕ) (rs : List Record) (left : List ℕ) (n : ℕ) → Begins bytes rs left → StartsBad left
    → AreGoodRecords bytes rs n (Some (length rs + 1))
bad_there bytes rs left n so_far bad =
    let is : IsBadLine bytes (length rs + 1) = record {
      before = rs;
      line = bad.line;
      behind = bad.behind;
      place = refl;
      parts = so_far.parts ∙ ap (λ (l : List ℕ). flat_map text rs ++ l) bad.parts;
      each = so_far.each;
      one_line = bad.one_line;
      none = bad.none;
    } in
    (is, refl)
