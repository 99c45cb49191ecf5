use Rattle.std.proofs.Common.{◌≡◌, ℕ, [], length}
use Rattle.std.specs.Prelude.{slice_get, Some}
use Rattle.central_machine.specs.declared.site_totals.SiteTotals.{SiteTotals}
use Rattle.central_machine.specs.Running.{IsSite}
use Rattle.central_machine.proofs.totals.sites_of.Given as goal

abbrev pub invariant-loop-site : goal.invariant-loop-site
invariant-loop-site l = record {
  count : length l.sites.items ≡ l.site;
  each : (s : ℕ) (y : SiteTotals) → slice_get l.sites.items s ≡ Some y → IsSite l.schema s [] y;
}
