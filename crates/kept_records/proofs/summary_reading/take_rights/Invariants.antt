use Rattle.std.proofs.Common.{◌≡◌, []}
use Rattle.kept_records.specs.Reading.{rights_from}
use Rattle.kept_records.proofs.summary_reading.take_rights.Given as goal

abbrev pub invariant-loop-left : goal.invariant-loop-left
invariant-loop-left l = rights_from l.left l.held.items l.words ≡ rights_from l.fn.count [] l.fn.words

abbrev pub decreases-loop-left : goal.decreases-loop-left
decreases-loop-left l = l.left
