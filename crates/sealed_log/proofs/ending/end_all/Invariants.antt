use Rattle.std.specs.Prelude.{take, All}
use Rattle.sealed_log.proofs.ending.end_all.Given as goal

-- All in front were ended.
abbrev pub invariant-loop-at : goal.invariant-loop-at
invariant-loop-at g l = All g.T.Ends.is_ended (take l.at l.all)
