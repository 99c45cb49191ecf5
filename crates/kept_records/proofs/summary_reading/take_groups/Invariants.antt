use Rattle.std.proofs.Common.{◌≡◌, length, []}
use Rattle.kept_records.specs.Reading.{groups_from}
use Rattle.kept_records.proofs.summary_reading.take_groups.Given as goal

abbrev pub invariant-loop-letter : goal.invariant-loop-letter
invariant-loop-letter l = groups_from l.gifts.items l.accepts.items l.tightenings.items l.words ≡ groups_from [] [] [] l.fn.words

abbrev pub decreases-loop-letter : goal.decreases-loop-letter
decreases-loop-letter l = length l.words
