use Rattle.std.proofs.Common.{arith}
use Rattle.world_logs.proofs.Totals.{sum_below-more}
use Rattle.world_logs.proofs.site_sum.sum_over.Goals as goal

pub loop-number-preserved : goal.loop-number-preserved
loop-number-preserved g c = λ of is. omega (
  arith,
  sum_below-more c.loop-number.number of,
  is (record { 0 = c.loop-number.number }) c.term.result c.loop-number-test.true c.term.ensures,
  c.loop-number.invariant of is,
  c.saturating_add-sum.ensures,
)
