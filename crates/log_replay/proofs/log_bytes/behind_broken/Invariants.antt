use Rattle.std.proofs.Common.{◌≡◌, ◌+◌, ◌≤◌, List, length}
use Rattle.kept_records.specs.declared.record.Record.{Record}
use Rattle.kept_records.specs.Lines.{Begins}
use Rattle.log_replay.proofs.log_bytes.behind_broken.Given as goal

-- each line so far is a record
abbrev pub invariant-loop-of-by_line : goal.invariant-loop-of-by_line
invariant-loop-of-by_line l = record {
  few : l.line + length l.lines.left ≤ l.fn.broken + length l.fn.lines.left;
  front : (rs : List Record) × Begins l.fn.lines.left rs l.lines.left × (l.line ≡ l.fn.broken + length rs);
}

abbrev pub decreases-loop-of-by_line : goal.decreases-loop-of-by_line
decreases-loop-of-by_line l = length l.lines.left
