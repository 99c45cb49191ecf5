use Rattle.std.proofs.Common.{◌≡◌, [], length}
use Rattle.site_workers.specs.Scripts.{scripts_of}
use Rattle.escrow_work.specs.Scripts.{scripts_from}
use Rattle.escrow_work.proofs.scripts.empty_rows.Given as goal

abbrev pub invariant-loop-site : goal.invariant-loop-site
invariant-loop-site l = record {
  none : scripts_of l.rows.items ≡ scripts_from l._site [];
  count : length l.rows.items ≡ l._site;
}
