-- The numbers that are left rise where all do.
use Rattle.std.proofs.Common.{◌≡◌, drop}
use Rattle.log_head.specs.Horizons.{rises_from}
use Rattle.log_head.proofs.horizon.rise.Given as goal

abbrev pub invariant-loop-number : goal.invariant-loop-number
invariant-loop-number l = rises_from 0 l.most l.numbers ≡ rises_from l.last l.most (drop l.number-index l.numbers)
