-- The totals of a judge, and what they are over a front of a trace, the newest entry first (this project).
use Rattle.std.specs.Prelude.{◌≡◌, ℕ, List, length, slice_get, Some}
use Rattle.field_bounds.specs.declared.entry.Entry.{Entry}
use Rattle.field_bounds.specs.Schema.{SchemaValue}
use Rattle.field_bounds.specs.Central.{own}
use Rattle.central_machine.specs.declared.site_totals.SiteTotals.{SiteTotals}
use Rattle.central_machine.specs.declared.totals.FrontTotals.{FrontTotals}
use Rattle.central_machine.specs.declared.running.Running.{Running}
use Rattle.central_machine.specs.Running.{IsSite}
use Rattle.central_machine.specs.Sums.{AreSums}
use Rattle.statement_set.specs.Issued.{HasIssued}

-- The totals are those of a front: the sums of the fields, and the totals of each site.
pub record AreTotals (schema : SchemaValue) (t : List Entry) (x : FrontTotals) : Type 0 where
  pub sums : AreSums schema t x.sums
  pub count : length x.sites.items ≡ schema.sites
  pub sites : (s : ℕ) (y : SiteTotals) → slice_get x.sites.items s ≡ Some y → IsSite schema s (own s t) y

-- The totals of a judge that goes over the entries: those of a front, with the statements issued.
pub record AreRunning (schema : SchemaValue) (t : List Entry) (x : Running) : Type 0 where
  pub totals : AreTotals schema t x.totals
  pub issued : HasIssued x.issued t
