-- The log itself: what it holds, and how much that is.
use Rattle.std.proofs.Common.{◌≡◌, ℕ, ◌+◌, ◌<◌, ◌^◌, List, ◌∷◌, ◌++◌, length, drop, Option, None, Some, refl, sym, ap, subst, ◌∙◌, arith, zero-add}
use Rattle.std.specs.Prelude.{IfNone, IfSome}
use Rattle.std.specs.List.{flat_map}
use Rattle.std.proofs.lemmas.List.{take-append-drop}
use Rattle.field_bounds.specs.Schema.{SchemaValue}
use Rattle.field_bounds.specs.declared.id.SiteNo.{SiteNo}
use Rattle.kept_records.specs.declared.record.Record.{Record}
use Rattle.kept_records.specs.declared.counting.LogCount.{LogCount}
use Rattle.kept_records.specs.Counting.{IsCountOf}
use Rattle.kept_records.specs.Logs.{IsLog, Reads, AreGoodRecords}
use Rattle.kept_records.specs.Stands.{plain}
use Rattle.kept_records.specs.Summary.{summary_record}
use Rattle.kept_records.specs.Text.{text}
use Rattle.kept_records.proofs.Lines.{no_log}
use Rattle.log_replay.specs.declared.standing.Standing.{Standing}
use Rattle.log_replay.specs.declared.log_bytes.LogReplayed.{LogReplayed}
use Rattle.log_replay.specs.declared.log_bytes.LogReplayed.TheVariants as came
use Rattle.log_stand.specs.declared.stand.Stand.{Stand}
use Rattle.log_stand.specs.Stand.{IsStandOf}
use Rattle.site_folder.specs.Identity.{IdentityValue}
use Rattle.log_head.specs.declared.gone.Gone.{Gone}
use Rattle.folder_logs.specs.First.{TellsFirst}
use Rattle.held_logs.specs.Behind.{TellsBehind}
use Rattle.held_logs.specs.Counts.{IsCountBehind, IsStandBehind, told_number}
use Rattle.log_archives.specs.Heads.{bytes_told, records_told}
use Rattle.log_archives.specs.Joints.{AreFrom, TellsHeld}
use Rattle.folder_archives.specs.declared.verifying.LogTotals.{LogTotals}
use Rattle.folder_archives.specs.Steps.{AreLogTotals, IsLastPart, AreTotalsOf}

-- ---- lawful to its end

record Whole (schema : SchemaValue) (s : ℕ) (gone : Option Gone) (bytes : List ℕ) : Type 0 where
  pub records : List Record
  pub rest : List ℕ
  pub log : IsLog bytes records rest
  pub from : AreFrom schema s gone records

reads_log : (bytes : List ℕ) (rs : List Record) (n : ℕ) → Reads bytes rs n → IsLog bytes rs (drop n bytes)
reads_log bytes rs n reads = record {
  parts = sym (take-append-drop n bytes) ∙ ap (λ (l : List ℕ). l ++ drop n bytes) reads.whole;
  each = reads.each;
  no_lf = reads.rest;
}

whole : (schema : SchemaValue) (s : ℕ) (gone : Option Gone) (bytes : List ℕ) (standing : Standing) (n : ℕ)
    → TellsHeld schema s gone bytes (came.Standing standing n) → Whole schema s gone bytes
whole schema s None bytes standing n comes = record {
  records = comes.records;
  rest = drop n bytes;
  log = reads_log bytes comes.records n comes.all.0;
  from = comes.lawful;
}
whole schema s (Some gone) bytes standing n comes = record {
  records = summary_record comes.base ∷ comes.records;
  rest = drop n bytes;
  log = reads_log bytes (summary_record comes.base ∷ comes.records) n comes.all.0;
  from = record { base = comes.base; behind = comes.records; first = refl; lawful = comes.lawful };
}

-- what is told of records, whatever is gone
as_held : (schema : SchemaValue) (s : ℕ) (gone : Option Gone) (bytes : List ℕ) (replayed : LogReplayed)
    → IfNone gone (TellsFirst schema s bytes replayed) → IfSome gone (λ _. TellsBehind schema s bytes replayed)
    → TellsHeld schema s gone bytes replayed
as_held schema s None bytes replayed first behind = first
as_held schema s (Some gone) bytes replayed first behind = behind

-- what comes to a standing is lawful to its end, and so much as is counted
pub last : (identity : IdentityValue) (schema : SchemaValue) (site : SiteNo) (gone : Option Gone) (bytes slice : List ℕ) (totals : LogTotals)
    (replayed : LogReplayed) (standing : Standing) (n : ℕ) → schema ≡ identity.schema → site ≡ identity.number → slice ≡ bytes
    → replayed ≡ came.Standing standing n → IfNone gone (TellsFirst schema site.0 slice replayed)
    → IfSome gone (λ _. TellsBehind schema site.0 slice replayed) → AreTotalsOf gone bytes totals → IsLastPart identity gone bytes totals
last identity schema site gone bytes slice totals replayed standing n same own is stands first behind amount =
    let told = as_held schema site.0 gone slice replayed first behind in
    let there = subst (λ (v : SchemaValue). TellsHeld v site.0 gone slice replayed) same told in
    let here = subst (λ (s : SiteNo). TellsHeld identity.schema s.0 gone slice replayed) own there in
    let of = subst (λ (l : List ℕ). TellsHeld identity.schema identity.number.0 gone l replayed) is here in
    let comes = subst (λ (r : LogReplayed). TellsHeld identity.schema identity.number.0 gone bytes r) stands of in
    let all = whole identity.schema identity.number.0 gone bytes standing n comes in
    record {
      records = all.records;
      rest = all.rest;
      log = all.log;
      from = all.from;
      amount = amount all.records all.rest all.log;
    }

-- ---- how much

all_good : (bytes : List ℕ) (read : List Record) (n : ℕ) (bad : Option ℕ) → AreGoodRecords bytes read n bad → (rs : List Record)
    (rest : List ℕ) → IsLog bytes rs rest → read ≡ rs
all_good bytes read n None good rs rest log = (good.1 rs rest log).0
all_good bytes read n (Some line) good rs rest log = absurd (no_log bytes line good.0 rs rest log)

counted_plain : (bytes : List ℕ) (count : LogCount) (rs : List Record) (rest : List ℕ) → IsCountOf bytes count → IsLog bytes rs rest
    → count.plain ≡ length (plain rs)
counted_plain bytes count rs rest counted log =
    counted.others
    ∙ ap (λ (l : List Record). length (plain l)) (all_good bytes counted.records count.length count.bad_line counted.good rs rest log)

counted_size : (bytes : List ℕ) (count : LogCount) (rs : List Record) (rest : List ℕ) → IsCountOf bytes count → IsLog bytes rs rest
    → count.length ≡ length (flat_map text rs)
counted_size bytes count rs rest counted log =
    counted.size
    ∙ ap (λ (l : List Record). length (flat_map text l))
    (all_good bytes counted.records count.length count.bad_line counted.good rs rest log)

as_told : (n : ℕ) → n < 2 ^ 64 → n ≡ told_number n
as_told n few = omega (arith, few)

counted_all : (gone : Option Gone) (bytes : List ℕ) (count : LogCount) (rs : List Record) (rest : List ℕ) → count.plain < 2 ^ 64
    → IfNone gone (IsCountOf bytes count) → IfSome gone (λ gone. IsCountBehind gone bytes count) → IsLog bytes rs rest
    → count.plain ≡ told_number (records_told gone + length (plain rs))
counted_all None bytes count rs rest few counted behind log =
    as_told count.plain few
    ∙ ap told_number (counted_plain bytes count rs rest counted log ∙ sym (zero-add (length (plain rs))))
counted_all (Some gone) bytes count rs rest few counted behind log =
    ap (λ (c : LogCount). c.plain) behind.count_is
    ∙ ap (λ (n : ℕ). told_number (gone.records + n)) (counted_plain bytes behind.held rs rest behind.counted log)

long_all : (gone : Option Gone) (bytes : List ℕ) (stand : Stand) (rs : List Record) (rest : List ℕ) → stand.length < 2 ^ 64
    → IfNone gone (IsStandOf bytes stand) → IfSome gone (λ gone. IsStandBehind gone bytes stand) → IsLog bytes rs rest
    → stand.length ≡ told_number (bytes_told gone + length (flat_map text rs))
long_all None bytes stand rs rest few stands behind log =
    as_told stand.length few
    ∙ ap told_number (stands.3 ∙ counted_size bytes stands.0 rs rest stands.1 log ∙ sym (zero-add (length (flat_map text rs))))
long_all (Some gone) bytes stand rs rest few stands behind log =
    behind.size ∙ ap (λ (n : ℕ). told_number (gone.bytes + n)) (counted_size bytes behind.count rs rest behind.counted log)

pub totals_are : (gone : Option Gone) (bytes : List ℕ) (count : LogCount) (stand : Stand) → count.plain < 2 ^ 64 → stand.length < 2 ^ 64
    → IfNone gone (IsCountOf bytes count) → IfSome gone (λ gone. IsCountBehind gone bytes count)
    → IfNone gone (IsStandOf bytes stand) → IfSome gone (λ gone. IsStandBehind gone bytes stand)
    → (rs : List Record) (rest : List ℕ) → IsLog bytes rs rest
    → AreLogTotals gone rs (record { records = count.plain; bytes = stand.length })
totals_are gone bytes count stand few short counted counted_behind stands stands_behind rs rest log = record {
  records = counted_all gone bytes count rs rest few counted counted_behind log;
  bytes = long_all gone bytes stand rs rest short stands stands_behind log;
}
