-- What a list of records stands for, and which lists a site may have kept. Records stand in order, the oldest first.
use Rattle.std.specs.Prelude.{◌≡◌, ℕ, ◌+◌, ◌-◌, ◌==◌, nat_lt, nat_le, max, Bool, true, false, not, ◌&&◌, if◌then◌else◌, List, [], ◌∷◌, ◌++◌, length, filter, fold, sum_by, Option, Some, None}
use Rattle.std.specs.List.{list_all}
use Rattle.field_bounds.specs.declared.kind.Kind.{Kind}
use Rattle.field_bounds.specs.declared.kind.Kind.TheVariants.{Lower, Raise}
use Rattle.field_bounds.specs.declared.entry.Escrow.{Escrow}
use Rattle.field_bounds.specs.Kind.{other, same_kind}
use Rattle.field_bounds.specs.Schema.{SchemaValue}
use Rattle.field_bounds.specs.Parts.{field_at, width_of, part_of, sum_below}
use Rattle.field_bounds.specs.Effects.{Base, takes}
use Rattle.kept_records.specs.declared.record.Record.{Record}
use Rattle.kept_records.specs.declared.record.Record.TheVariants.{Commit, Gift, Accept, Tighten, Restart, Summary}
use Rattle.kept_records.specs.Kinds.{restart_told}
use Rattle.kept_records.specs.Summary.{SummaryValue, summary_told, summary_record, totals_of, cuts_of, rights_of, same_summary}

-- ---- what records stand for

-- The greatest epoch of a restart, and 0 where there is none (this project).
abbrev pub later_of : ℕ → Option ℕ → ℕ
later_of epoch None = epoch
later_of epoch (Some new) = max epoch new

abbrev pub later : ℕ → Record → ℕ
later epoch r = later_of epoch (restart_told r)

unfoldable pub greatest : List Record → ℕ
greatest rs = fold later 0 rs

-- The greatest total given to a site, of a kind on a field (Balegas and others 2015).
abbrev pub given_more : ℕ → ℕ → Kind → ℕ → Record → ℕ
given_more to f k n (Commit txn escrows) = n
given_more to f k n (Gift site field kind total) =
    if (field.0 == f) && same_kind kind k && (site.0 == to) then max total n else n
given_more to f k n (Accept site field kind total) = n
given_more to f k n (Tighten field kind total) = n
given_more to f k n (Restart epoch) = n
given_more to f k n (Summary epoch rights gifts accepts tightenings) = n

unfoldable pub given_in : List Record → ℕ → ℕ → Kind → ℕ
given_in rs to f k = fold (given_more to f k) 0 rs

-- The greatest total accepted from a site, of a kind on a field (Balegas and others 2015).
abbrev pub accepted_more : ℕ → ℕ → Kind → ℕ → Record → ℕ
accepted_more from f k n (Commit txn escrows) = n
accepted_more from f k n (Gift site field kind total) = n
accepted_more from f k n (Accept site field kind total) =
    if (field.0 == f) && same_kind kind k && (site.0 == from) then max total n else n
accepted_more from f k n (Tighten field kind total) = n
accepted_more from f k n (Restart epoch) = n
accepted_more from f k n (Summary epoch rights gifts accepts tightenings) = n

unfoldable pub accepted_in : List Record → ℕ → ℕ → Kind → ℕ
accepted_in rs from f k = fold (accepted_more from f k) 0 rs

-- The greatest total given up for good, of a kind on a field (this project).
abbrev pub cut_more : ℕ → Kind → ℕ → Record → ℕ
cut_more f k n (Commit txn escrows) = n
cut_more f k n (Gift to field kind total) = n
cut_more f k n (Accept from field kind total) = n
cut_more f k n (Tighten field kind total) = if (field.0 == f) && same_kind kind k then max total n else n
cut_more f k n (Restart epoch) = n
cut_more f k n (Summary epoch rights gifts accepts tightenings) = n

unfoldable pub cut_in : List Record → ℕ → Kind → ℕ
cut_in rs f k = fold (cut_more f k) 0 rs

-- The sizes of the committed escrows of a kind on a field, added up (O'Neil 1986).
abbrev pub commits : ℕ → Kind → Record → ℕ
commits f k (Commit txn escrows) = sum_by (takes f k) escrows
commits f k (Gift to field kind total) = 0
commits f k (Accept from field kind total) = 0
commits f k (Tighten field kind total) = 0
commits f k (Restart epoch) = 0
commits f k (Summary epoch rights gifts accepts tightenings) = 0

unfoldable pub committed_in : ℕ → Kind → List Record → ℕ
committed_in f k rs = sum_by (commits f k) rs

-- What gave a site rights: its part, what was spent of the other kind, and what it accepted.
abbrev pub gained_in : SchemaValue → ℕ → List Record → ℕ → Kind → ℕ
gained_in schema s rs f k =
    part_of schema s f k + committed_in f (other k) rs + sum_below schema.sites (λ from. accepted_in rs from f k)

-- What took rights of a site: what was spent of the kind, what it gave, and what it gave up.
abbrev pub spent_in : SchemaValue → List Record → ℕ → Kind → ℕ
spent_in schema rs f k = committed_in f k rs + sum_below schema.sites (λ to. given_in rs to f k) + cut_in rs f k

-- The own rights that records stand for (Balegas and others 2015; this project for the two kinds).
unfoldable pub own_in : SchemaValue → ℕ → List Record → ℕ → Kind → ℕ
own_in schema s rs f k = gained_in schema s rs f k - spent_in schema rs f k

-- What is guarded of a field's width: the own rights of a kind, and what was given up of it.
abbrev pub guarded_in : SchemaValue → ℕ → List Record → ℕ → Kind → ℕ
guarded_in schema s rs f k = cut_in rs f k + own_in schema s rs f k

-- What a site stands on that has read these records (this project).
abbrev pub base_stood_for : SchemaValue → ℕ → Bool → List Record → Base
base_stood_for schema s up rs =
    record {
      up = up;
      epoch = greatest rs;
      rights = own_in schema s rs;
      cut = cut_in rs;
      given = given_in rs;
      accepted = accepted_in rs;
    }

-- ---- which records a site may have kept behind others (this project)

abbrev pub is_field : SchemaValue → ℕ → Bool
is_field schema f = nat_lt f (length schema.fields)

abbrev pub is_other_site : SchemaValue → ℕ → ℕ → Bool
is_other_site schema s site = nat_lt site schema.sites && not (site == s)

-- An escrow's field is in the schema, and what the commit spends there of either kind is owned.
abbrev pub may_commit : SchemaValue → ℕ → List Record → List Escrow → Escrow → Bool
may_commit schema s rs escrows e =
    is_field schema e.field.0
    && nat_le (sum_by (takes e.field.0 Lower) escrows) (own_in schema s rs e.field.0 Lower)
    && nat_le (sum_by (takes e.field.0 Raise) escrows) (own_in schema s rs e.field.0 Raise)

-- What is guarded of both kinds on a field leaves of its width.
abbrev pub room_in : SchemaValue → ℕ → List Record → ℕ → ℕ
room_in schema s rs f = width_of (field_at schema f) - (guarded_in schema s rs f Lower + guarded_in schema s rs f Raise)

-- The summary of records: what they stand for, field by field and, for each other site, total by total.
unfoldable pub summary_of : SchemaValue → ℕ → List Record → SummaryValue
summary_of schema s rs =
    record {
      epoch = greatest rs;
      rights = rights_of (own_in schema s rs) (length schema.fields);
      gifts = totals_of (given_in rs) s (length schema.fields) schema.sites;
      accepts = totals_of (accepted_in rs) s (length schema.fields) schema.sites;
      tightenings = cuts_of (cut_in rs) (length schema.fields);
    }

-- A commit is of the epoch of the last restart and spends what is owned; a gift's total is above the one before by
-- what is owned, and so is a tightening's, an acceptance's by what there is room for; a restart's epoch is above every
-- one before; a summary tells what the records before it stand for.
abbrev pub may_follow : SchemaValue → ℕ → List Record → Record → Bool
may_follow schema s rs (Commit txn escrows) =
    (txn.epoch == greatest rs) && list_all (may_commit schema s rs escrows) escrows
may_follow schema s rs (Gift to field kind total) =
    is_other_site schema s to.0 && is_field schema field.0
    && nat_lt (given_in rs to.0 field.0 kind) total
    && nat_le (total - given_in rs to.0 field.0 kind) (own_in schema s rs field.0 kind)
may_follow schema s rs (Accept from field kind total) =
    is_other_site schema s from.0 && is_field schema field.0
    && nat_lt (accepted_in rs from.0 field.0 kind) total
    && nat_le (total - accepted_in rs from.0 field.0 kind) (room_in schema s rs field.0)
may_follow schema s rs (Tighten field kind total) =
    is_field schema field.0
    && nat_lt (cut_in rs field.0 kind) total
    && nat_le (total - cut_in rs field.0 kind) (own_in schema s rs field.0 kind)
may_follow schema s rs (Restart epoch) = nat_lt (greatest rs) epoch
may_follow schema s rs (Summary epoch rights gifts accepts tightenings) =
    same_summary (summary_told epoch rights gifts accepts tightenings) (summary_of schema s rs)

-- Each of these records may stand behind those before it.
abbrev pub LawfulBehind : SchemaValue → ℕ → List Record → List Record → Type 0
LawfulBehind schema s front [] = Unit {0}
LawfulBehind schema s front (r ∷ rs) = (may_follow schema s front r ≡ true) × LawfulBehind schema s (front ++ r ∷ []) rs

abbrev pub Lawful : SchemaValue → ℕ → List Record → Type 0
Lawful schema s rs = LawfulBehind schema s [] rs

-- The record of this number, counted from 1, is the first that may not stand behind those before it.
pub record BreaksRule (schema : SchemaValue) (s : ℕ) (rs : List Record) (n : ℕ) : Type 0 where
  pub before : List Record
  pub breaking : Record
  pub behind : List Record
  pub place : n ≡ length before + 1
  pub parts : rs ≡ before ++ (breaking ∷ behind)
  pub lawful : Lawful schema s before
  pub broken : may_follow schema s before breaking ≡ false

-- ---- summaries among records (this project)

abbrev pub is_summary : Record → Bool
is_summary (Commit txn escrows) = false
is_summary (Gift to field kind total) = false
is_summary (Accept from field kind total) = false
is_summary (Tighten field kind total) = false
is_summary (Restart epoch) = false
is_summary (Summary epoch rights gifts accepts tightenings) = true

-- The records that are no summaries.
abbrev pub plain : List Record → List Record
plain rs = filter (λ r. not (is_summary r)) rs

-- How many records stand behind the last summary, or how many there are where there is none.
abbrev pub count_behind : ℕ → Record → ℕ
count_behind n r = if is_summary r then 0 else n + 1

unfoldable pub since_summary : List Record → ℕ
since_summary rs = fold count_behind 0 rs

-- The record that is, by count, this one after the last summary takes the next summary with it.
abbrev pub max_behind : ℕ
max_behind = 1000

-- What is appended for a record: itself, and the summary behind it where one is due.
abbrev pub piece : SchemaValue → ℕ → List Record → Record → List Record
piece schema s rs r =
    r ∷ (if nat_le max_behind (since_summary rs + 1) then summary_record (summary_of schema s (rs ++ r ∷ [])) ∷ [] else [])
