use Rattle.site_workers.specs.Scripts.{histories_of}
use Rattle.site_workers.specs.Crossing.{IsLowest, LacksBefore, TakesBefore}
use Rattle.site_workers.proofs.crossing.lost.Given as goal

abbrev pub invariant-loop-history : goal.invariant-loop-history
invariant-loop-history l =
    IsLowest (LacksBefore l.accepted.items (histories_of l.histories) l.history-index)
    (TakesBefore l.accepted.items (histories_of l.histories) l.history-index) l.lowest
