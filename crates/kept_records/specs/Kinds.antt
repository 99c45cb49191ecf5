-- What a record tells by its kind.
use Rattle.std.specs.Prelude.{ℕ, Option, Some, None}
use Rattle.field_bounds.specs.declared.id.TxnId.{TxnId}
use Rattle.kept_records.specs.declared.record.Record.{Record}
use Rattle.kept_records.specs.declared.record.Record.TheVariants.{Commit, Gift, Accept, Tighten, Restart, Summary}
use Rattle.kept_records.specs.Summary.{SummaryValue, summary_told}

-- The transaction that a record commits, where it commits one (O'Neil 1986).
abbrev pub commit_told : Record → Option TxnId
commit_told (Commit txn escrows) = Some txn
commit_told (Gift to field kind total) = None
commit_told (Accept from field kind total) = None
commit_told (Tighten field kind total) = None
commit_told (Restart epoch) = None
commit_told (Summary epoch rights gifts accepts tightenings) = None

-- The epoch in which the site restarted, where a record tells of a restart (this project).
abbrev pub restart_told : Record → Option ℕ
restart_told (Commit txn escrows) = None
restart_told (Gift to field kind total) = None
restart_told (Accept from field kind total) = None
restart_told (Tighten field kind total) = None
restart_told (Restart epoch) = Some epoch
restart_told (Summary epoch rights gifts accepts tightenings) = None

-- What the records before a record stand for, where it is a summary (this project).
abbrev pub base_told : Record → Option SummaryValue
base_told (Commit txn escrows) = None
base_told (Gift to field kind total) = None
base_told (Accept from field kind total) = None
base_told (Tighten field kind total) = None
base_told (Restart epoch) = None
base_told (Summary epoch rights gifts accepts tightenings) = Some (summary_told epoch rights gifts accepts tightenings)
