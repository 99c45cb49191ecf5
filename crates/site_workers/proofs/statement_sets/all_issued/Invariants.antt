use Rattle.std.proofs.Common.{take}
use Rattle.site_workers.specs.Scripts.{histories_of}
use Rattle.site_workers.specs.Crossing.{AreIssued}
use Rattle.site_workers.proofs.statement_sets.all_issued.Given as goal

abbrev pub invariant-loop-history : goal.invariant-loop-history
invariant-loop-history l = AreIssued (histories_of (take l.history-index l.histories)) l.sets.items
