-- The records in front of the lines that are left were taken in.
use Rattle.std.proofs.Common.{◌+◌, ◌≤◌, length}
use Rattle.held_logs.specs.Behind.{TakenBehind}
use Rattle.held_logs.proofs.behind.take_behind.Given as goal

abbrev pub invariant-loop-of-by_line : goal.invariant-loop-of-by_line
invariant-loop-of-by_line l = record {
  few : l.number + length l.lines.left ≤ length l.fn.bytes + 1;
  taken : TakenBehind l.fn.schema l.fn._site.0 l.fn.bytes l.standing l.number l.lines.left;
}

abbrev pub decreases-loop-of-by_line : goal.decreases-loop-of-by_line
decreases-loop-of-by_line l = length l.lines.left
