use Rattle.std.proofs.Common.{length}
use Rattle.kept_records_tests.proofs.lent_tests.lent.Given as goal

abbrev pub invariant-loop-of-by_line : goal.invariant-loop-of-by_line
invariant-loop-of-by_line l = record {}

abbrev pub decreases-loop-of-by_line : goal.decreases-loop-of-by_line
decreases-loop-of-by_line l = length l.lines.left
