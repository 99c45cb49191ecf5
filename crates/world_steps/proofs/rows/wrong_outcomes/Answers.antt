use Rattle.std.proofs.Common.{true, arith}
use Rattle.std.specs.Prelude.{pos, neg_ℤ, ◌≤ℤ◌}
use Rattle.std.proofs.lemmas.Int.{ints}
use Rattle.world_steps.proofs.rows.wrong_outcomes.Goals as goal

pub returns : goal.returns
returns c = record {
  below = λ within. let low : pos 0 ≤ℤ neg_ℤ (pos 1) = (within 0 (λ s txn. true)).0 in omega (arith, ints, low);
  above = λ within. let high : pos 101 ≤ℤ pos 100 = (within 0 (λ s txn. true)).1 in omega (arith, ints, high);
  tightened = λ within. let low : pos 40 ≤ℤ pos 39 = (within 0 (λ s txn. true)).0 in omega (arith, ints, low);
  before = λ within. let low : pos 0 ≤ℤ neg_ℤ (pos 1) = (within.0.1 0 (λ s txn. true)).0 in omega (arith, ints, low);
}
