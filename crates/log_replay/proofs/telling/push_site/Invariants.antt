use Rattle.std.proofs.Common.{◌≡◌, ◌++◌}
use Rattle.kept_records.specs.Summary.{totals_of_site}
use Rattle.log_replay.specs.Telling.{side}
use Rattle.log_replay.proofs.telling.push_site.Given as goal

abbrev pub invariant-loop-number : goal.invariant-loop-number
invariant-loop-number l = l.totals.items ≡ l.fn.totals.items ++ totals_of_site (side l.given l.ledger) l.site.0 l.number
