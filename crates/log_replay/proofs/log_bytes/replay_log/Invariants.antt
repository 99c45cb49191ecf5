use Rattle.std.proofs.Common.{◌+◌, ◌≤◌, length}
use Rattle.log_replay.specs.LogBytes.{TakenIn}
use Rattle.log_replay.proofs.log_bytes.replay_log.Given as goal

-- the records so far were taken in
abbrev pub invariant-loop-of-by_line : goal.invariant-loop-of-by_line
invariant-loop-of-by_line l = record {
  few : l.number + length l.lines.left ≤ length l.fn.bytes;
  taken : TakenIn l.fn.schema l.fn.site.0 l.fn.bytes l.standing l.number l.lines.left;
}

abbrev pub decreases-loop-of-by_line : goal.decreases-loop-of-by_line
decreases-loop-of-by_line l = length l.lines.left
