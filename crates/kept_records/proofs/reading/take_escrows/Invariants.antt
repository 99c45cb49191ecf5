use Rattle.std.proofs.Common.{◌≡◌, length}
use Rattle.kept_records.specs.Reading.{escrows_from}
use Rattle.kept_records.proofs.Pairs.{with_front}
use Rattle.kept_records.proofs.reading.take_escrows.Given as goal

abbrev pub invariant-loop-first : goal.invariant-loop-first
invariant-loop-first l = with_front l.escrows.items (escrows_from l.words) ≡ escrows_from l.fn.words

abbrev pub decreases-loop-first : goal.decreases-loop-first
decreases-loop-first l = length l.words
