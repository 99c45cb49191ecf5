-- What the lines of a log that are read one after another come to, taken in or passed over.
use Rattle.std.proofs.Common.{◌≡◌, ℕ, ◌+◌, ◌-◌, true, false, List, [], ◌∷◌, ◌++◌, length, None, refl, sym, ap, subst, ◌∙◌, arith, append_assoc}
use Rattle.std.specs.List.{flat_map, AllByRecursion}
use Rattle.std.proofs.lemmas.List.{length-append}
use Rattle.std.proofs.lemmas.List.Concat.{flat_map-append}
use Rattle.field_bounds.specs.Schema.{SchemaValue}
use Rattle.kept_records.specs.declared.record.Record.{Record}
use Rattle.kept_records.specs.Text.{text, IsRecord}
use Rattle.kept_records.specs.Logs.{HasNoLf, IsLog, IsBadLine, AreGoodRecords}
use Rattle.kept_records.specs.Lines.{Begins, IsRecordAt}
use Rattle.kept_records.proofs.Pushes.{lawful_push}
use Rattle.kept_records.proofs.Walks.{begins_more, begins_size, ends_there}
use Rattle.log_replay.specs.declared.standing.Standing.{Standing}
use Rattle.log_replay.specs.declared.log_bytes.LogReplayed.{LogReplayed}
use Rattle.log_replay.specs.declared.log_bytes.LogReplayed.TheVariants as came
use Rattle.log_replay.specs.Standing.{TakesIn}
use Rattle.log_replay.specs.LogBytes.{ComesTo, TellsLog, TellsBehind, TakenIn}
use Rattle.log_replay.proofs.StandingLaws.{after_one}

-- ---- lines behind others

all_more : (rs more : List Record) → AllByRecursion IsRecord rs → AllByRecursion IsRecord more → AllByRecursion IsRecord (rs ++ more)
all_more [] more each others = others
all_more (r ∷ rs) more each others = (each.0, all_more rs more each.1 others)

-- records behind records
begins_all : (bytes : List ℕ) (rs more : List Record) (left rest : List ℕ) → Begins bytes rs left → left ≡ flat_map text more ++ rest
    → AllByRecursion IsRecord more → Begins bytes (rs ++ more) rest
begins_all bytes rs more left rest so_far parts each = record {
  parts = so_far.parts ∙ ap (λ (l : List ℕ). flat_map text rs ++ l) parts ∙ sym (append_assoc (flat_map text rs) (flat_map text more) rest)
      ∙ ap (λ (l : List ℕ). l ++ rest) (sym (flat_map-append text rs more));
  each = all_more rs more so_far.each each;
}

-- the first line behind records that is none is the first of all
bad_behind : (bytes : List ℕ) (rs : List Record) (left : List ℕ) (n : ℕ) → Begins bytes rs left → IsBadLine left n
    → IsBadLine bytes (length rs + n)
bad_behind bytes rs left n so_far bad =
    let all = begins_all bytes rs bad.before left (bad.line ++ 10 ∷ bad.behind) so_far bad.parts bad.each in
    record {
      before = rs ++ bad.before;
      line = bad.line;
      behind = bad.behind;
      place = omega (arith, bad.place, length-append rs bad.before);
      parts = all.parts;
      each = all.each;
      one_line = bad.one_line;
      none = bad.none;
    }

-- where there is none, these are all records
good_behind : (bytes : List ℕ) (rs : List Record) (left : List ℕ) (more : List Record) (rest : List ℕ) → Begins bytes rs left
    → IsLog left more rest → AreGoodRecords bytes (rs ++ more) (length (flat_map text (rs ++ more))) None
good_behind bytes rs left more rest so_far log =
    ends_there bytes (rs ++ more) rest (length (flat_map text (rs ++ more))) (begins_all bytes rs more left rest so_far log.parts log.each)
    log.no_lf refl

-- a record is passed over
pub passed_over : (bytes : List ℕ) (broken number : ℕ) (left new : List ℕ) (r : Record)
    → ((rs : List Record) × Begins bytes rs left × (number ≡ broken + length rs)) → IsRecordAt left r new
    → (rs : List Record) × Begins bytes rs new × (number + 1 ≡ broken + length rs)
passed_over bytes broken number left new r front at =
    let rs = front.0 in (
      rs ++ r ∷ [],
      begins_more bytes rs left r new front.1 at,
      omega (arith, front.2, length-append rs (r ∷ [])),
    )

-- ---- records taken in

module _ (schema : SchemaValue) (s : ℕ) (bytes : List ℕ) (standing : Standing) (number : ℕ) (left : List ℕ)
    (so_far : TakenIn schema s bytes standing number left) where
  -- one more
  pub taken_more : (r : Record) (new : List ℕ) (after : Standing) → IsRecordAt left r new → TakesIn schema standing r true after
      → TakenIn schema s bytes after (number + 1) new
  taken_more r new after at takes =
      let rs = so_far.records in
      record {
        records = rs ++ r ∷ [];
        begins = begins_more bytes rs left r new so_far.begins at;
        lawful = lawful_push schema s rs r so_far.lawful (sym (takes.answered s rs so_far.lawful so_far.stands));
        stands = after_one schema s rs r standing after so_far.lawful so_far.stands takes;
        count = omega (arith, so_far.count, length-append rs (r ∷ []));
      }

  -- a record that breaks a rule, and what lies behind it
  pub broken_tells : (r : Record) (new : List ℕ) (after : Standing) (replayed : LogReplayed) → IsRecordAt left r new
      → TakesIn schema standing r false after → TellsBehind (number + 1) new replayed → TellsLog schema s bytes replayed
  broken_tells r new after (came.Standing other size) at takes told = absurd told
  broken_tells r new after (came.BadLine line) at takes told =
      let rs = so_far.records in
      let is : line ≡ length (rs ++ r ∷ []) + told.0 = omega (arith, told.2, so_far.count, length-append rs (r ∷ [])) in
      subst (λ (n : ℕ). IsBadLine bytes n) (sym is)
      (bad_behind bytes (rs ++ r ∷ []) new told.0 (begins_more bytes rs left r new so_far.begins at) told.1)
  broken_tells r new after (came.BreaksRule line) at takes told =
      let rs = so_far.records in
      let more = told.1.0 in
      record {
        records = (rs ++ r ∷ []) ++ more;
        size = length (flat_map text ((rs ++ r ∷ []) ++ more));
        all = good_behind bytes (rs ++ r ∷ []) new more told.1.1 (begins_more bytes rs left r new so_far.begins at) told.1.2;
        broken = record {
          before = rs;
          breaking = r;
          behind = more;
          place = omega (arith, told.0, so_far.count);
          parts = append_assoc rs (r ∷ []) more;
          lawful = so_far.lawful;
          broken = sym (takes.answered s rs so_far.lawful so_far.stands);
        };
      }

  -- no line ends in what is left
  pub end_tells : (n : ℕ) → n ≡ length bytes - length left → HasNoLf left → ComesTo schema s bytes standing n
  end_tells n is none =
      record {
        records = so_far.records;
        all = ends_there bytes so_far.records left n so_far.begins none (is ∙ begins_size bytes so_far.records left so_far.begins);
        lawful = so_far.lawful;
        stands = so_far.stands;
      }
