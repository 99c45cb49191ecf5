-- The records in front of the first line that is none.
use Rattle.std.proofs.Common.{◌≡◌, ℕ, ◌+◌, ◌-◌, List, [], ◌∷◌, ◌++◌, length, Option, Some, None, refl, sym, ap, subst, ◌∙◌}
use Rattle.std.specs.List.{flat_map}
use Rattle.kept_records.specs.declared.record.Record.{Record}
use Rattle.kept_records.specs.declared.record_lines.RecordLine.{RecordLine}
use Rattle.kept_records.specs.declared.record_lines.RecordLine.TheVariants as lines
use Rattle.kept_records.specs.Text.{text}
use Rattle.kept_records.specs.Logs.{IsLog, AreGoodRecords}
use Rattle.kept_records.specs.Stands.{greatest, later, plain}
use Rattle.kept_records.specs.Lines.{IsRecordAt, Begins, HandsLine}
use Rattle.kept_records.proofs.Lines.{no_log}
use Rattle.kept_records.proofs.Pushes.{greatest_push}
use Rattle.kept_records.proofs.Walks.{begins_more, begins_size, ends_there, bad_there}
use Rattle.log_stand.specs.declared.stand.Stand.{Stand}
use Rattle.log_stand.specs.Stand.{IsStandOf}

-- the records in front of what is left, of which this is the last epoch
abbrev pub Front : List ℕ → List ℕ → ℕ → Type 0
Front bytes left epoch = (rs : List Record) × Begins bytes rs left × (epoch ≡ greatest rs)

pub front_more : {bytes left new behind : List ℕ} {epoch after : ℕ} {r : Record} → Front bytes left epoch → IsRecordAt left r new
    → behind ≡ new → after ≡ later epoch r → Front bytes behind after
front_more {bytes = bytes} {left = left} {new = new} {r = r} (rs, front, last) at same is = (
  rs ++ r ∷ [],
  subst (λ (l : List ℕ). Begins bytes (rs ++ r ∷ []) l) (sym same) (begins_more bytes rs left r new front at),
  is ∙ ap (λ (n : ℕ). later n r) last ∙ sym (greatest_push rs r),
)

module _ (bytes : List ℕ) (records : List Record) (left : List ℕ) (so_far : Begins bytes records left) (stand : Stand)
    (last : stand.epoch ≡ greatest records) (new : List ℕ) (size : stand.length ≡ length bytes - length new) where
  whole : new ≡ left → stand.length ≡ length (flat_map text records)
  whole stays = size ∙ ap (λ (l : List ℕ). length bytes - length l) stays ∙ begins_size bytes records left so_far

  counted : (line : Option ℕ) → AreGoodRecords bytes records stand.length line → new ≡ left → IsStandOf bytes stand
  counted line good stays = (
    record { plain = length (plain records); length = stand.length; bad_line = line },
    record { records = records; good = good; others = refl; size = whole stays },
    last,
    refl,
  )

  -- all records were read that stand in front of a line that isn't one
  pub stopped : (line : RecordLine) → HandsLine left line new → ((r : Record) → line ≡ lines.Record r → ⊥) → IsStandOf bytes stand
  stopped (lines.Record r) handed apart = absurd (apart r refl)
  stopped lines.NoRecord (bad, stays) apart =
      counted (Some (length records + 1)) (bad_there bytes records left stand.length so_far bad) stays
  stopped lines.End (none, stays) apart = counted None (ends_there bytes records left stand.length so_far none (whole stays)) stays

-- where the bytes are a log, they are all of its records
all_there : (bytes : List ℕ) (records : List Record) (n : ℕ) (line : Option ℕ) → AreGoodRecords bytes records n line
    → (rs : List Record) (rest : List ℕ) → IsLog bytes rs rest → records ≡ rs
all_there bytes records n (Some line) good rs rest log = absurd (no_log bytes line good.0 rs rest log)
all_there bytes records n None good rs rest log = (good.1 rs rest log).0

pub stands_for_log : (bytes : List ℕ) (stand : Stand) → IsStandOf bytes stand → (rs : List Record) (rest : List ℕ) → IsLog bytes rs rest
    → (stand.epoch ≡ greatest rs) × (stand.length ≡ length (flat_map text rs))
stands_for_log bytes stand (count, counted, last, size) rs rest log =
    let same = all_there bytes counted.records count.length count.bad_line counted.good rs rest log in
    (last ∙ ap greatest same, size ∙ counted.size ∙ ap (λ (l : List Record). length (flat_map text l)) same)
