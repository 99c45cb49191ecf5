-- Laws of summaries among records (this project).
use Rattle.std.specs.Prelude.{◌≡◌, ◌≢◌, ℕ, ◌<◌, ◌≤◌, List, [], ◌∷◌, ◌++◌, length}
use Rattle.field_bounds.specs.declared.kind.Kind.{Kind}
use Rattle.field_bounds.specs.Schema.{SchemaValue}
use Rattle.kept_records.specs.declared.record.Record.{Record}
use Rattle.kept_records.specs.Text.{text}
use Rattle.kept_records.specs.Logs.{IsLog}
use Rattle.kept_records.specs.Stands.{greatest, given_in, accepted_in, cut_in, committed_in, own_in}
use Rattle.kept_records.specs.declared.total.Total.{Total}
use Rattle.kept_records.specs.Summary.{SummaryValue, rights_told, total_told, cut_told}
use Rattle.std.specs.List.{AllByRecursion}

-- Two lists of records stand for the same.
pub record SameSums (as1 bs : List Record) : Type 0 where
  pub epoch : greatest as1 ≡ greatest bs
  pub given : (to f : ℕ) (k : Kind) → given_in as1 to f k ≡ given_in bs to f k
  pub accepted : (from f : ℕ) (k : Kind) → accepted_in as1 from f k ≡ accepted_in bs from f k
  pub cut : (f : ℕ) (k : Kind) → cut_in as1 f k ≡ cut_in bs f k
  pub committed : (f : ℕ) (k : Kind) → committed_in f k as1 ≡ committed_in f k bs

-- What an append of these records' texts leaves behind a log of some records, where the medium kept so many bytes: a front
-- of them, and behind it a rest in which no line ends. The first of them stands exactly where all bytes of its own text
-- were kept.
pub record LeavesPrefix (bytes : List ℕ) (rs added : List Record) (kept : ℕ) (new : List ℕ) : Type 0 where
  pub front : List Record
  pub behind : List Record
  pub rest : List ℕ
  pub parts : added ≡ front ++ behind
  pub log : IsLog new (rs ++ front) rest
  pub torn : (r : Record) (rs : List Record) → added ≡ r ∷ rs → kept < length (text r) → front ≡ []
  pub whole : (r : Record) (rs : List Record) → added ≡ r ∷ rs → length (text r) ≤ kept → (more : List Record) × (front ≡ r ∷ more)

-- The total is of another site of the schema, and of a field of it.
pub record IsWhereDue (schema : SchemaValue) (s : ℕ) (t : Total) : Type 0 where
  pub site_in : t.site.0 < schema.sites
  pub other : t.site.0 ≢ s
  pub field_in : t.field.0 < length schema.fields

-- What a summary tells is what these records stand for: its epoch, the rights of each field of the schema, and the totals of
-- each other site and field, and those given up of each field.
pub record TellsOf (schema : SchemaValue) (s : ℕ) (v : SummaryValue) (rs : List Record) : Type 0 where
  pub epoch : v.epoch ≡ greatest rs
  pub count : length v.rights ≡ length schema.fields
  pub rights : (f : ℕ) (k : Kind) → f < length schema.fields → rights_told v.rights f k ≡ own_in schema s rs f k
  pub given : (r f : ℕ) (k : Kind) → r < schema.sites → r ≢ s → f < length schema.fields → total_told v.gifts r f k ≡ given_in rs r f k
  pub accepted : (r f : ℕ) (k : Kind) → r < schema.sites → r ≢ s → f < length schema.fields
      → total_told v.accepts r f k ≡ accepted_in rs r f k
  pub cut : (f : ℕ) (k : Kind) → f < length schema.fields → cut_told v.tightenings f k ≡ cut_in rs f k
  pub gifts_placed : AllByRecursion (λ t. IsWhereDue schema s t) v.gifts
  pub accepts_placed : AllByRecursion (λ t. IsWhereDue schema s t) v.accepts
