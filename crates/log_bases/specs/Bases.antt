-- A base is the summary that a log begins with whose front was let go; its past is the records in front of it. When it has one
-- (this project; Balegas and others 2015 for the rights and the totals).
use Rattle.std.specs.Prelude.{◌≡◌, ℕ, ◌+◌, ◌<◌, ◌≤◌, List, length, true}
use Rattle.std.specs.List.{AllByRecursion}
use Rattle.field_bounds.specs.declared.kind.Kind.TheVariants.{Lower, Raise}
use Rattle.field_bounds.specs.Schema.{SchemaValue}
use Rattle.field_bounds.specs.Parts.{field_at, width_of, part_of, sum_below}
use Rattle.kept_records.specs.declared.record.Record.{Record}
use Rattle.kept_records.specs.Text.{IsRecord}
use Rattle.kept_records.specs.Summary.{SummaryValue, summary_record, rights_of, totals_of, cuts_of, rights_told, total_told, cut_told}
use Rattle.kept_records.specs.Stands.{given_in, accepted_in, cut_in, own_in, may_follow, Lawful}

-- Records that a summary may stand behind, and so is the summary of: each in range, and lawful together.
pub record IsPast (schema : SchemaValue) (s : ℕ) (base : SummaryValue) (past : List Record) : Type 0 where
  pub each : AllByRecursion IsRecord past
  pub lawful : Lawful schema s past
  pub told : may_follow schema s past (summary_record base) ≡ true

-- ---- a base by its numbers alone

-- What a summary tells to be guarded of a field's width: own rights and those given up, of both kinds.
abbrev pub guarded_told : SummaryValue → ℕ → ℕ
guarded_told base f =
    (rights_told base.rights f Lower + rights_told base.rights f Raise)
    + (cut_told base.tightenings f Lower + cut_told base.tightenings f Raise)

-- All that it tells to have been given on a field, to any site and of both kinds, and all that it tells to have been accepted.
abbrev pub given_told : SchemaValue → SummaryValue → ℕ → ℕ
given_told schema base f =
    sum_below schema.sites (λ to. total_told base.gifts to f Lower) + sum_below schema.sites (λ to. total_told base.gifts to f Raise)

abbrev pub accepted_told : SchemaValue → SummaryValue → ℕ → ℕ
accepted_told schema base f =
    sum_below schema.sites (λ from. total_told base.accepts from f Lower)
    + sum_below schema.sites (λ from. total_told base.accepts from f Raise)

-- The parts of a site on a field, of both kinds.
abbrev pub parts_of : SchemaValue → ℕ → ℕ → ℕ
parts_of schema s f = part_of schema s f Lower + part_of schema s f Raise

-- The canonical summary of the numbers that a summary tells.
abbrev pub told_again : SchemaValue → ℕ → SummaryValue → SummaryValue
told_again schema s base =
    record {
      epoch = base.epoch;
      rights = rights_of (rights_told base.rights) (length schema.fields);
      gifts = totals_of (total_told base.gifts) s (length schema.fields) schema.sites;
      accepts = totals_of (total_told base.accepts) s (length schema.fields) schema.sites;
      tightenings = cuts_of (cut_told base.tightenings) (length schema.fields);
    }

-- On a field: what is guarded is within the width; it and all that was given make up the parts and all that was accepted; and where
-- the field has no width, nothing was given.
pub record BalancesOn (schema : SchemaValue) (s : ℕ) (base : SummaryValue) (f : ℕ) : Type 0 where
  pub within : guarded_told base f ≤ width_of (field_at schema f)
  pub balanced : guarded_told base f + given_told schema base f ≡ parts_of schema s f + accepted_told schema base f
  pub still : width_of (field_at schema f) ≡ 0 → given_told schema base f ≡ 0

-- The numbers of a summary are those that some records lead to: they are in range, it is the canonical summary of its own numbers (so
-- it tells each field, and each total is of another site and of a field of the schema, and in its place), and it balances on each
-- field.
pub record IsBalanced (schema : SchemaValue) (s : ℕ) (base : SummaryValue) : Type 0 where
  pub in_range : IsRecord (summary_record base)
  pub form : base ≡ told_again schema s base
  pub fields : (f : ℕ) → f < length schema.fields → BalancesOn schema s base f

-- ---- the same of records

-- On each field: what records leave guarded, and all that they gave, make up the parts and all that they accepted.
abbrev pub Balances : SchemaValue → ℕ → List Record → Type 0
Balances schema s rs =
    (f : ℕ) → ((own_in schema s rs f Lower + own_in schema s rs f Raise) + (cut_in rs f Lower + cut_in rs f Raise))
    + (sum_below schema.sites (λ to. given_in rs to f Lower) + sum_below schema.sites (λ to. given_in rs to f Raise))
    ≡ parts_of schema s f
    + (sum_below schema.sites (λ from. accepted_in rs from f Lower) + sum_below schema.sites (λ from. accepted_in rs from f Raise))
