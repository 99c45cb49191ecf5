-- What is gone and what is held, as one log.
use Rattle.std.proofs.Common.{◌≡◌, ℕ, ◌+◌, max, not, List, [], ◌∷◌, ◌++◌, length, Option, Some, None, sym, ap, subst, ◌∙◌, arith, length-append}
use Rattle.std.specs.Prelude.{fold}
use Rattle.std.specs.List.{flat_map}
use Rattle.std.proofs.lemmas.List.Concat.{flat_map-append}
use Rattle.std.proofs.lemmas.List.Elements.{filter-append}
use Rattle.std.proofs.lemmas.List.Sums.{fold-append}
use Rattle.field_bounds.specs.Schema.{SchemaValue}
use Rattle.kept_records.specs.declared.record.Record.{Record}
use Rattle.kept_records.specs.declared.record.Record.TheVariants.{Commit, Gift, Accept, Tighten, Restart, Summary}
use Rattle.kept_records.specs.declared.counting.LogCount.{LogCount}
use Rattle.kept_records.specs.Counting.{IsCountOf}
use Rattle.kept_records.specs.Logs.{IsLog, AreGoodRecords}
use Rattle.kept_records.specs.Stands.{later, greatest, is_summary, plain, summary_of}
use Rattle.kept_records.specs.Summaries.{TellsOf}
use Rattle.kept_records.specs.Summary.{SummaryValue, summary_record}
use Rattle.kept_records.specs.Text.{text}
use Rattle.kept_records.proofs.Lines.{no_log}
use Rattle.kept_records.proofs.Told.{summary_equal, summary_tells}
use Rattle.log_stand.specs.declared.stand.Stand.{Stand}
use Rattle.log_bases.specs.Bases.{IsPast}
use Rattle.log_head.specs.declared.gone.Gone.{Gone}
use Rattle.held_logs.specs.Counts.{IsCountBehind, IsStandBehind, base_epoch, told_number}

-- ---- epochs

later_on : (n : ℕ) (r : Record) → later n r ≡ max n (later 0 r)
later_on n (Commit txn escrows) = omega arith
later_on n (Gift to field kind total) = omega arith
later_on n (Accept from field kind total) = omega arith
later_on n (Tighten field kind total) = omega arith
later_on n (Restart epoch) = omega arith
later_on n (Summary epoch rights gifts accepts tightenings) = omega arith

latest_on : (n : ℕ) (rs : List Record) → fold later n rs ≡ max n (fold later 0 rs)
latest_on n [] = omega arith
latest_on n (r ∷ rs) = omega (arith, latest_on (later n r) rs, latest_on (later 0 r) rs, later_on n r)

greatest_behind : (past rs : List Record) → greatest (past ++ rs) ≡ max (greatest past) (greatest rs)
unfolding greatest
greatest_behind past rs = fold-append later 0 past rs ∙ latest_on (fold later 0 past) rs

-- a base tells the epoch of its past
past_epoch : (schema : SchemaValue) (s : ℕ) (base : SummaryValue) (past : List Record) → IsPast schema s base past → base.epoch ≡ greatest past
past_epoch schema s base past is =
    let tells : TellsOf schema s base past =
    subst (λ (v : SummaryValue). TellsOf schema s v past) (sym (summary_equal base (summary_of schema s past) is.told)) (summary_tells schema s past) in
    tells.epoch

-- ---- counts

plain_behind : (past rs : List Record) → length (plain (past ++ rs)) ≡ length (plain past) + length (plain rs)
plain_behind past rs =
    ap length (filter-append (λ r. not (is_summary r)) past rs) ∙ length-append (plain past) (plain rs)

size_behind : (past rs : List Record) → length (flat_map text (past ++ rs)) ≡ length (flat_map text past) + length (flat_map text rs)
size_behind past rs = ap length (flat_map-append text past rs) ∙ length-append (flat_map text past) (flat_map text rs)

-- the records of a log are all counted
all_good : (bytes : List ℕ) (read : List Record) (n : ℕ) (bad : Option ℕ) → AreGoodRecords bytes read n bad → (rs : List Record) (rest : List ℕ)
    → IsLog bytes rs rest → read ≡ rs
all_good bytes read n None good rs rest log = (good.1 rs rest log).0
all_good bytes read n (Some line) good rs rest log = absurd (no_log bytes line good.0 rs rest log)

module _ (past rs : List Record) (rest held : List ℕ) (gone : Gone) (log : IsLog held rs rest) where
  counted_all : (count : LogCount) → (counted : IsCountOf held count) → counted.records ≡ rs
  counted_all count counted = all_good held counted.records count.length count.bad_line counted.good rs rest log

  pub stand_length : (stand : Stand) → IsStandBehind gone held stand → gone.bytes ≡ length (flat_map text past)
      → stand.length ≡ told_number (length (flat_map text (past ++ rs)))
  stand_length stand behind told =
      let same = counted_all behind.count behind.counted in
      let size : behind.count.length ≡ length (flat_map text rs) =
      behind.counted.size ∙ ap (λ (l : List Record). length (flat_map text l)) same in
      let sum : gone.bytes + behind.count.length ≡ length (flat_map text (past ++ rs)) = omega (arith, told, size, size_behind past rs) in
      behind.size ∙ ap told_number sum

  pub count_plain : (count : LogCount) → IsCountBehind gone held count → gone.records ≡ length (plain past)
      → count.plain ≡ told_number (length (plain (past ++ rs)))
  count_plain count behind told =
      let same = counted_all behind.held behind.counted in
      let others : behind.held.plain ≡ length (plain rs) = behind.counted.others ∙ ap (λ (l : List Record). length (plain l)) same in
      let sum : gone.records + behind.held.plain ≡ length (plain (past ++ rs)) = omega (arith, told, others, plain_behind past rs) in
      ap (λ (c : LogCount). c.plain) behind.count_is ∙ ap told_number sum

pub stand_epoch : (schema : SchemaValue) (s : ℕ) (base : SummaryValue) (past rs : List Record) (rest held : List ℕ) (gone : Gone) (stand : Stand)
    → IsPast schema s base past → IsLog held (summary_record base ∷ rs) rest → IsStandBehind gone held stand
    → stand.epoch ≡ greatest (past ++ (summary_record base ∷ rs))
stand_epoch schema s base past rs rest held gone stand is log behind =
    let all : List Record = summary_record base ∷ rs in
    let same : behind.counted.records ≡ all = counted_all past all rest held gone log behind.count behind.counted in
    let told : stand.epoch ≡ max (greatest all) base.epoch =
    behind.epoch ∙ ap (λ (l : List Record). max (greatest l) (base_epoch l)) same in
    omega (arith, told, past_epoch schema s base past is, greatest_behind past all)
