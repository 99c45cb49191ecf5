use Rattle.std.proofs.Common.{◌-◌, ◌<◌, length}
use Rattle.central_machine.proofs.journal.guess.Given as goal

-- the place guessed is a row's
abbrev pub invariant-loop-low : goal.invariant-loop-low
invariant-loop-low l = l.high < length l.rows

abbrev pub decreases-loop-low : goal.decreases-loop-low
decreases-loop-low l = l.high - l.low
