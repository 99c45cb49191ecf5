use Rattle.std.proofs.Common.{arith, refl, rules}
use Rattle.site_desk.proofs.Sums.{calls_append, new_append}
use Rattle.site_desk.proofs.locked.make.Goals as goal

pub loop-i-preserved : goal.loop-i-preserved
loop-i-preserved g c = record {
  parts = omega arith;
  amount = omega arith;
  len = search rules;
  calls = rw (c.in_ok-push.ensures.items, calls_append) (omega arith);
  new = rw c.in_ok-push.ensures.items (new_append _ _ c.loop-i.invariant.new (refl, refl, tt));
}
