use Rattle.std.proofs.Common.{◌≡◌}
use Rattle.kept_records.specs.Summary.{rights_of, cut_told}
use Rattle.log_replay.proofs.standing.cut_rows.Given as goal

abbrev pub invariant-loop-number : goal.invariant-loop-number
invariant-loop-number l = l.rows.items ≡ rights_of (cut_told l.cuts) l.number
