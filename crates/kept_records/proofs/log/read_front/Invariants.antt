-- The records so far are those in front of the lines that are left.
use Rattle.std.proofs.Common.{◌≤◌, length}
use Rattle.kept_records.specs.Lines.{Begins}
use Rattle.kept_records.proofs.log.read_front.Given as goal

abbrev pub invariant-lines : goal.invariant-lines
invariant-lines l = record {
  within : length l.lines.left ≤ length l.bytes;
  front : Begins l.bytes l.records.items l.lines.left;
}

abbrev pub decreases-lines : goal.decreases-lines
decreases-lines l = length l.lines.left
