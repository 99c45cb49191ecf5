-- The records in front of the lines that are left were counted.
use Rattle.std.proofs.Common.{◌≤◌, ◌+◌, length}
use Rattle.kept_records.proofs.Counts.{Counted}
use Rattle.kept_records.proofs.counting.count_log.Given as goal

abbrev pub invariant-lines : goal.invariant-lines
invariant-lines l = record {
  few : (l.plain + l.summaries) + length l.lines.left ≤ length l.bytes;
  counted : Counted l.bytes l.plain l.summaries l.lines.left;
}

abbrev pub decreases-lines : goal.decreases-lines
decreases-lines l = length l.lines.left
