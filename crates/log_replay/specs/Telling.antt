-- The summary of a standing (this project).
use Rattle.std.specs.Prelude.{ℕ, ◌==◌, if◌then◌else◌, Bool, true, false, List, [], ◌∷◌, Option, Some, None, length}
use Rattle.field_bounds.specs.declared.kind.Kind.{Kind}
use Rattle.field_bounds.specs.declared.id.SiteNo.{SiteNo}
use Rattle.field_bounds.specs.declared.id.FieldNo.{FieldNo}
use Rattle.field_bounds.specs.Schema.{SchemaValue}
use Rattle.kept_records.specs.declared.record.Record.{Record}
use Rattle.kept_records.specs.declared.total.Total.{Total}
use Rattle.kept_records.specs.declared.total.Cut.{Cut}
use Rattle.kept_records.specs.Kinds.{base_told}
use Rattle.kept_records.specs.Summary.{SummaryValue, same_summary, rights_of, totals_of, cuts_of, told_more, cut_told_more}
use Rattle.site_rights.specs.declared.field_rights.FieldRights.{FieldRights}
use Rattle.site_rights.specs.Rights.{own_at, cut_at}
use Rattle.gift_ledger.specs.declared.account.FieldAccounts.{FieldAccounts}
use Rattle.gift_ledger.specs.Ledger.{account_in, LedgerValue, total_at, accepted_at}
use Rattle.log_replay.specs.declared.standing.Standing.{Standing}

-- Whether a summary tells this; whether a record is the summary that does.
abbrev pub is_same : Option SummaryValue → SummaryValue → Bool
is_same None own = false
is_same (Some told) own = same_summary told own

abbrev pub tells_same : Record → SummaryValue → Bool
tells_same r own = is_same (base_told r) own

-- The totals given, or those accepted.
abbrev pub side : Bool → LedgerValue → ℕ → ℕ → Kind → ℕ
side true ledger r f k = total_at ledger r f k
side false ledger r f k = accepted_at ledger r f k

-- The same, of the accounts with one site.
abbrev pub side_in : Bool → List FieldAccounts → ℕ → Kind → ℕ
side_in true accounts f k = (account_in accounts f k).given
side_in false accounts f k = (account_in accounts f k).accepted

-- The totals, where one of them is told anew.
abbrev pub side_with : Option Total → Bool → LedgerValue → ℕ → ℕ → Kind → ℕ
side_with None given ledger r f k = side given ledger r f k
side_with (Some t) given ledger r f k = told_more r f k (side given ledger r f k) t

-- A total is told anew, and it is one of this site.
abbrev pub is_of_site : Option Total → ℕ → Bool
is_of_site None r = false
is_of_site (Some t) r = t.site.0 == r

-- The totals given up, where one of them is told anew.
abbrev pub cut_with : Option Cut → List FieldRights → ℕ → Kind → ℕ
cut_with None rows f k = cut_at rows f k
cut_with (Some t) rows f k = cut_told_more f k (cut_at rows f k) t

-- A total, where it is above 0.
abbrev pub told_if : SiteNo → FieldNo → Kind → ℕ → List Total
told_if site field kind total = if total == 0 then [] else record { site = site; field = field; kind = kind; total = total } ∷ []

-- A total given up, where it is above 0.
abbrev pub cut_if : FieldNo → Kind → ℕ → List Cut
cut_if field kind total = if total == 0 then [] else record { field = field; kind = kind; total = total } ∷ []

-- What a standing comes to, as a summary.
abbrev pub summary_now : SchemaValue → Standing → SummaryValue
summary_now schema standing =
    record {
      epoch = standing.epoch;
      rights = rights_of (own_at standing.rights) (length schema.fields);
      gifts = totals_of (side true standing.ledger) standing.ledger.site (length schema.fields) schema.sites;
      accepts = totals_of (side false standing.ledger) standing.ledger.site (length schema.fields) schema.sites;
      tightenings = cuts_of (cut_at standing.rights) (length schema.fields);
    }
