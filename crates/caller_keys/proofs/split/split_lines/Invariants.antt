use Rattle.std.proofs.Common.{length}
use Rattle.caller_keys.specs.Reading.{Gone}
use Rattle.caller_keys.proofs.split.split_lines.Given as goal

abbrev pub invariant-loop-line : goal.invariant-loop-line
invariant-loop-line l = Gone l.text l.left l.keys l.records.items

abbrev pub decreases-loop-line : goal.decreases-loop-line
decreases-loop-line l = length l.left
