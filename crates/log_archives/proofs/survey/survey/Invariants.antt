-- The records in front of the lines that are left were looked at.
use Rattle.std.proofs.Common.{◌≤◌, ◌+◌, length}
use Rattle.log_archives.proofs.Surveys.{Looked}
use Rattle.log_archives.proofs.survey.survey.Given as goal

abbrev pub invariant-loop-of-by_line : goal.invariant-loop-of-by_line
invariant-loop-of-by_line l = record {
  few : l.plain + length l.lines.left ≤ length l.bytes;
  looked : Looked l.horizon l.bytes l.plain l.all_may_go l.lines.left;
}

abbrev pub decreases-loop-of-by_line : goal.decreases-loop-of-by_line
decreases-loop-of-by_line l = length l.lines.left
