use Rattle.std.proofs.Common.{◌+◌, ◌≤◌, List, length}
use Rattle.kept_records.specs.declared.record.Record.{Record}
use Rattle.log_replay.specs.Resuming.{IsEnd, Walks}
use Rattle.log_replay.proofs.resuming.resume.Given as goal

-- the standing is for the records so far, and the reader has the others
abbrev pub invariant-loop-of-by_line : goal.invariant-loop-of-by_line
invariant-loop-of-by_line l = record {
  few : l.turns + length l.records.left ≤ length l.fn.end.lines;
  walks : (all : List Record) → (end_ : IsEnd l.fn.schema l.fn.site.0 all l.fn.end)
      → Walks l.fn.schema l.fn.site.0 all l.fn.end end_ l.standing l.turns l.records.left;
}

abbrev pub decreases-loop-of-by_line : goal.decreases-loop-of-by_line
decreases-loop-of-by_line l = length l.records.left
