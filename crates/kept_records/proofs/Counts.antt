-- What records that are counted one after another come to.
use Rattle.std.proofs.Common.{◌≡◌, ℕ, ◌+◌, List, [], ◌∷◌, ◌++◌, length, refl, sym, ap, subst, ◌∙◌, arith}
use Rattle.std.specs.Prelude.{not}
use Rattle.std.proofs.lemmas.List.{length-append}
use Rattle.std.proofs.lemmas.List.Elements.{filter-append}
use Rattle.field_bounds.specs.declared.entry.Escrow.{Escrow}
use Rattle.kept_records.specs.declared.record.Record.{Record}
use Rattle.kept_records.specs.declared.lent_records.CommonRecord.{CommonRecord}
use Rattle.kept_records.specs.declared.lent_records.CommonRecord.TheVariants as common
use Rattle.kept_records.specs.Stands.{is_summary, plain}
use Rattle.kept_records.specs.Lines.{IsRecordAt, Begins}
use Rattle.kept_records.specs.Lent.{record_told}
use Rattle.kept_records.proofs.Walks.{begins_none, begins_more}

-- ---- one record more

-- so many records, and so many summaries, stand in front of what is left
pub record Counted (bytes : List ℕ) (others summaries : ℕ) (left : List ℕ) : Type 0 where
  pub records : List Record
  pub front : Begins bytes records left
  pub plain_ones : others ≡ length (plain records)
  pub all : others + summaries ≡ length records

pub counted_none : (bytes : List ℕ) → Counted bytes 0 0 bytes
counted_none bytes = record { records = []; front = begins_none bytes; plain_ones = refl; all = refl }

pub plain_push : (rs : List Record) (r : Record) → length (plain (rs ++ r ∷ [])) ≡ length (plain rs) + length (plain (r ∷ []))
plain_push rs r = ap length (filter-append (λ s. not (is_summary s)) rs (r ∷ [])) ∙ length-append (plain rs) (plain (r ∷ []))

pub counted_more : {bytes : List ℕ} {others summaries more all : ℕ} {old new behind : List ℕ} {r : Record}
    → Counted bytes others summaries old → IsRecordAt old r new → behind ≡ new → more ≡ others + length (plain (r ∷ []))
    → more + all ≡ others + summaries + 1 → Counted bytes more all behind
counted_more {bytes = bytes} {old = old} {new = new} {r = r} so_far at same more_is all_is = record {
  records = so_far.records ++ r ∷ [];
  front = subst (λ (l : List ℕ). Begins bytes (so_far.records ++ r ∷ []) l) (sym same) (begins_more bytes so_far.records old r new so_far.front at);
  plain_ones = omega (arith, so_far.plain_ones, more_is, plain_push so_far.records r);
  all = omega (arith, so_far.all, all_is, length-append so_far.records (r ∷ []));
}

-- a record that is lent is no summary
pub lent_plain : (told : CommonRecord) (escrows : List Escrow) → length (plain (record_told told escrows ∷ [])) ≡ 1
lent_plain (common.Commit txn) escrows = refl
lent_plain (common.Gift to field kind total) escrows = refl
lent_plain (common.Accept from field kind total) escrows = refl
lent_plain (common.Tighten field kind total) escrows = refl
lent_plain (common.Restart epoch) escrows = refl
