-- What a standing comes to with one record more, told without taking it in (this project).
use Rattle.std.specs.Prelude.{ℕ, ◌+◌, ◌-◌, ◌==◌, ◌≤◌, ◌<◌, ◌&&◌, if◌then◌else◌, true, false, List, Option, Some, None, length, sum_by}
use Rattle.field_bounds.specs.declared.kind.Kind.{Kind}
use Rattle.field_bounds.specs.Kind.{other, same_kind}
use Rattle.field_bounds.specs.Schema.{SchemaValue}
use Rattle.field_bounds.specs.Effects.{takes}
use Rattle.field_bounds.specs.Owed.{max_change}
use Rattle.kept_records.specs.declared.record.Record.{Record}
use Rattle.kept_records.specs.declared.record.Record.TheVariants.{Commit, Gift, Accept, Tighten, Restart, Summary}
use Rattle.kept_records.specs.declared.total.Total.{Total}
use Rattle.kept_records.specs.declared.total.Cut.{Cut}
use Rattle.kept_records.specs.Summary.{SummaryValue, rights_of, totals_of, cuts_of}
use Rattle.kept_records.specs.Stands.{later}
use Rattle.site_rights.specs.declared.field_rights.FieldRights.{FieldRights}
use Rattle.site_rights.specs.Rights.{own_at, cut_at}
use Rattle.gift_ledger.specs.Ledger.{total_at, accepted_at, IsSlot}
use Rattle.log_replay.specs.declared.standing.Standing.{Standing}
use Rattle.log_replay.specs.Telling.{side_with, cut_with}

-- The total given that a record tells, where it tells one.
abbrev pub gift_told : Record → Option Total
gift_told (Commit txn es) = None
gift_told (Gift to field kind total) = Some (record { site = to; field = field; kind = kind; total = total })
gift_told (Accept from field kind total) = None
gift_told (Tighten field kind total) = None
gift_told (Restart epoch) = None
gift_told (Summary epoch rights gifts accepts tightenings) = None

-- The total accepted that a record tells, where it tells one.
abbrev pub accept_told : Record → Option Total
accept_told (Commit txn es) = None
accept_told (Gift to field kind total) = None
accept_told (Accept from field kind total) = Some (record { site = from; field = field; kind = kind; total = total })
accept_told (Tighten field kind total) = None
accept_told (Restart epoch) = None
accept_told (Summary epoch rights gifts accepts tightenings) = None

-- The total given up that a record tells, where it tells one.
abbrev pub tightening_told : Record → Option Cut
tightening_told (Commit txn es) = None
tightening_told (Gift to field kind total) = None
tightening_told (Accept from field kind total) = None
tightening_told (Tighten field kind total) = Some (record { field = field; kind = kind; total = total })
tightening_told (Restart epoch) = None
tightening_told (Summary epoch rights gifts accepts tightenings) = None

-- The site and the field of the total that a record tells are in the standing.
abbrev pub HasSlotFor : Standing → Record → Type 0
HasSlotFor old (Commit txn es) = Unit {0}
HasSlotFor old (Gift to field kind total) = IsSlot old.ledger to.0 field.0
HasSlotFor old (Accept from field kind total) = IsSlot old.ledger from.0 field.0
HasSlotFor old (Tighten field kind total) = field.0 < length old.rights
HasSlotFor old (Restart epoch) = Unit {0}
HasSlotFor old (Summary epoch rights gifts accepts tightenings) = Unit {0}

-- How far the total that a record tells is above the one before.
abbrev pub rise_of : Standing → Record → ℕ
rise_of old (Commit txn es) = 0
rise_of old (Gift to field kind total) = total - total_at old.ledger to.0 field.0 kind
rise_of old (Accept from field kind total) = total - accepted_at old.ledger from.0 field.0 kind
rise_of old (Tighten field kind total) = total - cut_at old.rights field.0 kind
rise_of old (Restart epoch) = 0
rise_of old (Summary epoch rights gifts accepts tightenings) = 0

-- The rights of a kind on a field that a record adds, where its total rises by so much: what was spent of the other kind,
-- and what was accepted.
abbrev pub gained_by : Record → ℕ → ℕ → Kind → ℕ
gained_by (Commit txn es) rise f k = sum_by (takes f (other k)) es
gained_by (Gift to field kind total) rise f k = 0
gained_by (Accept from field kind total) rise f k = if (field.0 == f) && same_kind kind k then rise else 0
gained_by (Tighten field kind total) rise f k = 0
gained_by (Restart epoch) rise f k = 0
gained_by (Summary epoch rights gifts accepts tightenings) rise f k = 0

-- Those that it takes: what was spent of the kind, what was given, and what was given up.
abbrev pub spent_by : Record → ℕ → ℕ → Kind → ℕ
spent_by (Commit txn es) rise f k = sum_by (takes f k) es
spent_by (Gift to field kind total) rise f k = if (field.0 == f) && same_kind kind k then rise else 0
spent_by (Accept from field kind total) rise f k = 0
spent_by (Tighten field kind total) rise f k = if (field.0 == f) && same_kind kind k then rise else 0
spent_by (Restart epoch) rise f k = 0
spent_by (Summary epoch rights gifts accepts tightenings) rise f k = 0

-- What a record takes of a kind on a field is owned, and what it adds is within the greatest change.
abbrev pub CanMove : List FieldRights → Record → ℕ → ℕ → Kind → Type 0
CanMove rows next rise f k = (spent_by next rise f k ≤ own_at rows f k) × (gained_by next rise f k ≤ max_change)

-- The own rights of a kind on a field with one record more.
abbrev pub own_after : List FieldRights → Record → ℕ → ℕ → Kind → ℕ
own_after rows next rise f k = own_at rows f k + gained_by next rise f k - spent_by next rise f k

-- What a standing comes to with one record more, as a summary.
abbrev pub summary_then : SchemaValue → Standing → Record → SummaryValue
summary_then schema old next =
    record {
      epoch = later old.epoch next;
      rights = rights_of (own_after old.rights next (rise_of old next)) (length schema.fields);
      gifts = totals_of (side_with (gift_told next) true old.ledger) old.ledger.site (length schema.fields) schema.sites;
      accepts = totals_of (side_with (accept_told next) false old.ledger) old.ledger.site (length schema.fields) schema.sites;
      tightenings = cuts_of (cut_with (tightening_told next) old.rights) (length schema.fields);
    }
