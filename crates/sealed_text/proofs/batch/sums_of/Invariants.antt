use Rattle.std.proofs.Common.{◌≡◌, ◌%◌, ◌^◌, take}
use Rattle.std.specs.List.{sum}
use Rattle.sealed_text.specs.Seals.{weighted}
use Rattle.sealed_text.proofs.batch.sums_of.Given as goal

-- The two sums of the front that was gone over.
abbrev pub invariant-loop-byte : goal.invariant-loop-byte
invariant-loop-byte l =
    (l.total ≡ sum (take l.byte-index l.bytes) % 2 ^ 32) × (l.weighted ≡ weighted (take l.byte-index l.bytes) % 2 ^ 32)
