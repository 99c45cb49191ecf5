use Rattle.std.proofs.Common.{take}
use Rattle.site_workers.specs.Crossing.{IsLowest, LacksIn, TakesIn}
use Rattle.site_workers.proofs.crossing.lowest_lacking.Given as goal

abbrev pub invariant-loop-entry : goal.invariant-loop-entry
invariant-loop-entry l = IsLowest (LacksIn l.accepted (take l.entry-index l.history))
    (TakesIn l.accepted (take l.entry-index l.history)) l.lowest
