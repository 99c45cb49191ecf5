-- The records in front of the first line that is none, as a log of their own.
use Rattle.std.proofs.Common.{◌≡◌, ℕ, ◌≤◌, ◌+◌, List, [], ◌∷◌, ◌++◌, length, take, drop, min, Option, Some, None, refl, sym, ap, subst, ◌∙◌, arith, length-append}
use Rattle.std.specs.Prelude.{unwrap_or}
use Rattle.std.specs.List.{flat_map, AllByRecursion}
use Rattle.std.proofs.Math.Seq.{take-append_seam}
use Rattle.std.proofs.lemmas.List.{append-nil, take-append-drop}
use Rattle.field_bounds.specs.Schema.{SchemaValue}
use Rattle.kept_records.specs.declared.record.Record.{Record}
use Rattle.kept_records.specs.declared.counting.LogCount.{LogCount}
use Rattle.kept_records.specs.Text.{text, IsRecord}
use Rattle.kept_records.specs.Logs.{IsLog, IsBadLine, Reads, AreGoodRecords}
use Rattle.kept_records.specs.Counting.{IsCountOf}
use Rattle.kept_records.specs.Stands.{Lawful, BreaksRule as IsFirstBroken}
use Rattle.kept_records.proofs.Lines.{no_log, cut_log}
use Rattle.log_replay.specs.declared.standing.Standing.{Standing}
use Rattle.log_replay.specs.declared.log_bytes.LogReplayed.{LogReplayed}
use Rattle.log_replay.specs.declared.log_bytes.LogReplayed.TheVariants as came
use Rattle.log_replay.specs.LogBytes.{ComesTo, BreaksAt, TellsLog}
use Rattle.folder_logs.specs.First.{IsFirstLine, BreaksFirst}

-- ---- the good records are the log of the bytes in front

cut_texts : (bytes : List ℕ) (rs : List Record) (rest : List ℕ) (n : ℕ) → bytes ≡ flat_map text rs ++ rest → n ≡ length (flat_map text rs)
    → take n bytes ≡ flat_map text rs
cut_texts bytes rs rest n parts size =
    ap (take n) parts
    ∙ (ap (λ (k : ℕ). take k (flat_map text rs ++ rest)) size ∙ take-append_seam (flat_map text rs) rest)

good_log : (bytes : List ℕ) (rs : List Record) (n : ℕ) (bad : Option ℕ) → AreGoodRecords bytes rs n bad → n ≡ length (flat_map text rs)
    → IsLog (take n bytes) rs []
good_log bytes rs n None good size = cut_log bytes rs n good.0
good_log bytes rs n (Some line) good size =
    let is = good.0 in
    let rest = is.line ++ 10 ∷ is.behind in
    let parts : bytes ≡ flat_map text rs ++ rest = is.parts ∙ ap (λ (l : List Record). flat_map text l ++ rest) good.1 in
    record {
      parts = cut_texts bytes rs rest n parts size ∙ sym (append-nil (flat_map text rs));
      each = subst (λ (l : List Record). AllByRecursion IsRecord l) good.1 is.each;
      no_lf = refl;
    }

good_within : (bytes : List ℕ) (rs : List Record) (n : ℕ) (bad : Option ℕ) → AreGoodRecords bytes rs n bad → n ≡ length (flat_map text rs)
    → n ≤ length bytes
good_within bytes rs n None good size = good.0.within
good_within bytes rs n (Some line) good size =
    let is = good.0 in
    let rest = is.line ++ 10 ∷ is.behind in
    let parts : bytes ≡ flat_map text rs ++ rest = is.parts ∙ ap (λ (l : List Record). flat_map text l ++ rest) good.1 in
    omega (arith, ap length parts, length-append (flat_map text rs) rest, size)

-- the bytes in front of what isn't counted
pub front_log : (bytes front : List ℕ) (count : LogCount) → (is : IsCountOf bytes count)
    → front ≡ take (min count.length (length bytes)) bytes → IsLog front is.records []
front_log bytes front count is cut =
    let within = good_within bytes is.records count.length count.bad_line is.good is.size in
    let least : min count.length (length bytes) ≡ count.length = omega (arith, within) in
    subst (λ (l : List ℕ). IsLog l is.records []) (sym (cut ∙ ap (λ (k : ℕ). take k bytes) least))
    (good_log bytes is.records count.length count.bad_line is.good is.size)

-- ---- what the front comes to

first_line : (schema : SchemaValue) (s : ℕ) (bytes : List ℕ) (line : ℕ) (rs : List Record) (n : ℕ) (bad : Option ℕ) → IsBadLine bytes line
    → AreGoodRecords bytes rs n bad → Lawful schema s rs → IsFirstLine schema s bytes (unwrap_or bad line)
first_line schema s bytes line rs n None is good lawful =
    let reads : Reads bytes rs n = good.0 in
    absurd (no_log bytes line is rs (drop n bytes) (record {
      parts = sym (take-append-drop n bytes) ∙ ap (λ (l : List ℕ). l ++ drop n bytes) reads.whole;
      each = reads.each;
      no_lf = reads.rest;
    }))
first_line schema s bytes line rs n (Some told) is good lawful =
    record { bad = good.0; lawful = subst (λ (l : List Record). Lawful schema s l) (sym good.1) lawful }

pub line_is_first : (schema : SchemaValue) (s : ℕ) (bytes front : List ℕ) (line : ℕ) (count : LogCount) (standing : Standing) (n : ℕ)
    → IsBadLine bytes line → IsCountOf bytes count → front ≡ take (min count.length (length bytes)) bytes
    → ComesTo schema s front standing n → IsFirstLine schema s bytes (unwrap_or count.bad_line line)
line_is_first schema s bytes front line count standing n bad is cut comes =
    let same = (comes.all.1 is.records [] (front_log bytes front count is cut)).0 in
    first_line schema s bytes line is.records count.length count.bad_line bad is.good
    (subst (λ (l : List Record). Lawful schema s l) same comes.lawful)

pub no_line_in_front : (bytes front : List ℕ) (count : LogCount) (m : ℕ) → IsCountOf bytes count
    → front ≡ take (min count.length (length bytes)) bytes → IsBadLine front m → ⊥
no_line_in_front bytes front count m is cut bad = no_log front m bad is.records [] (front_log bytes front count is cut)

pub rule_is_first : (schema : SchemaValue) (s : ℕ) (bytes front : List ℕ) (count : LogCount) (number : ℕ) → IsCountOf bytes count
    → front ≡ take (min count.length (length bytes)) bytes → BreaksAt schema s front number → BreaksFirst schema s bytes number
rule_is_first schema s bytes front count number is cut breaks =
    let same = (breaks.all.1 is.records [] (front_log bytes front count is cut)).0 in
    record {
      records = is.records;
      size = count.length;
      bad_line = count.bad_line;
      good = is.good;
      broken = subst (λ (l : List Record). IsFirstBroken schema s l number) same breaks.broken;
    }

-- ---- records of which each line is one

pub rule_of_all : (schema : SchemaValue) (s : ℕ) (bytes : List ℕ) (number : ℕ) → BreaksAt schema s bytes number
    → BreaksFirst schema s bytes number
rule_of_all schema s bytes number breaks =
    record { records = breaks.records; size = breaks.size; bad_line = None; good = breaks.all; broken = breaks.broken }

-- ---- what a replay of the front tells

pub line_told : (schema : SchemaValue) (s : ℕ) (bytes front : List ℕ) (line : ℕ) (count : LogCount) (replayed : LogReplayed)
    → IsBadLine bytes line → IsCountOf bytes count → front ≡ take (min count.length (length bytes)) bytes
    → TellsLog schema s front replayed → ((number : ℕ) → replayed ≡ came.BreaksRule number → ⊥)
    → IsFirstLine schema s bytes (unwrap_or count.bad_line line)
line_told schema s bytes front line count (came.Standing standing n) bad is cut tells other =
    line_is_first schema s bytes front line count standing n bad is cut tells
line_told schema s bytes front line count (came.BadLine number) bad is cut tells other =
    absurd (no_line_in_front bytes front count number is cut tells)
line_told schema s bytes front line count (came.BreaksRule number) bad is cut tells other = absurd (other number refl)
