use Rattle.std.proofs.Common.{◌≤◌, length}
use Rattle.sealed_text.specs.Rests.{Taken}
use Rattle.sealed_text.proofs.reading.unseal.Given as goal

abbrev pub invariant-loop-batch : goal.invariant-loop-batch
invariant-loop-batch l = Taken l.text l.rest l.records.items × (length l.rest ≤ length l.text)

abbrev pub decreases-loop-batch : goal.decreases-loop-batch
decreases-loop-batch l = length l.rest
