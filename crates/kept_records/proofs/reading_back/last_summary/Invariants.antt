use Rattle.std.proofs.Common.{◌≤◌}
use Rattle.kept_records.proofs.Windows.{NoneFrom}
use Rattle.kept_records.proofs.reading_back.last_summary.Given as goal

abbrev pub invariant-loop-at : goal.invariant-loop-at
invariant-loop-at l = record {
  within : l.end ≤ l.initial.end;
  none : NoneFrom l.bytes l.end;
}

abbrev pub decreases-loop-at : goal.decreases-loop-at
decreases-loop-at l = l.end
