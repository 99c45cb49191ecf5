-- The records in front of the lines that are left were looked at.
use Rattle.std.proofs.Common.{◌≤◌, length}
use Rattle.log_stand.proofs.Fronts.{Front}
use Rattle.log_stand.proofs.stand.stand_of.Given as goal

abbrev pub invariant-loop-of-by_line : goal.invariant-loop-of-by_line
invariant-loop-of-by_line l = record {
  within : length l.lines.left ≤ length l.bytes;
  front : Front l.bytes l.lines.left l.epoch;
}

abbrev pub decreases-loop-of-by_line : goal.decreases-loop-of-by_line
decreases-loop-of-by_line l = length l.lines.left
