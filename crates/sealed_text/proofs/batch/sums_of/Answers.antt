use Rattle.std.proofs.Common.{◌^◌}
use Rattle.sealed_text.proofs.Sums.{next-sums}
use Rattle.sealed_text.proofs.batch.sums_of.Goals as goal

pub loop-byte-preserved : goal.loop-byte-preserved
loop-byte-preserved c =
    let next = next-sums (2 ^ 32) c.args.bytes.now c.loop-byte.byte-index c.loop-byte.total c.loop-byte.weighted
    c.loop-byte-test.true c.loop-byte.invariant.0 c.loop-byte.invariant.1 in
    rw c.from-total.ensures next
