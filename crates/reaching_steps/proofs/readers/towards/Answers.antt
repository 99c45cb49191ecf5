use Rattle.std.proofs.Common.{◌≡◌, ◌∙◌, ℕ, zero, suc, min, ap, sym, arith}
use Rattle.std.proofs.lemmas.Int.{ints}
use Rattle.std.proofs.Math.Facts.{to_z-of_z}
use Rattle.std.specs.Prelude.{ℤ, pos, negsuc, neg_ℤ, ◌-ℤ◌}
use Rattle.reaching_steps.specs.Reach.{towards}
use Rattle.reaching_steps.specs.Body.{change_of}
use Rattle.reaching_steps.proofs.readers.towards.Goals as goal

lowered : (now target : ℤ) (lower raise d m : ℕ) → pos d ≡ (now -ℤ target) → m ≡ min d lower
    → change_of (neg_ℤ (pos m)) ≡ change_of (towards (target -ℤ now) lower raise)
lowered now target lower raise zero m gap is =
    let same : pos 0 ≡ (target -ℤ now) = omega (arith, ints, gap) in
    let none : m ≡ 0 = omega (arith, is) in
    let other : min 0 raise ≡ 0 = omega arith in
    ap (λ (n : ℕ). change_of (neg_ℤ (pos n))) none ∙ sym (ap (λ (n : ℕ). change_of (pos n)) other)
    ∙ ap (λ (z : ℤ). change_of (towards z lower raise)) same
lowered now target lower raise (suc d) m gap is =
    let same : negsuc d ≡ (target -ℤ now) = omega (arith, ints, gap) in
    ap (λ (n : ℕ). change_of (neg_ℤ (pos n))) is ∙ ap (λ (z : ℤ). change_of (towards z lower raise)) same

raised : (now target : ℤ) (lower raise d m : ℕ) → pos d ≡ (target -ℤ now) → m ≡ min d raise
    → change_of (pos m) ≡ change_of (towards (target -ℤ now) lower raise)
raised now target lower raise d m gap is =
    ap (λ (n : ℕ). change_of (pos n)) is ∙ ap (λ (z : ℤ). change_of (towards z lower raise)) gap

pub returns-then-target-now : goal.returns-then-target-now
returns-then-target-now c =
    let gap = rw (to_z-of_z c.ranges.now, to_z-of_z c.ranges.target) at c.gap.ensures.value in
    record {
      value = c.lowering_of.ensures.value
          ∙ lowered c.args.now c.args.target c.args.lower c.args.raise c.gap.result c.lesser.result gap
          c.lesser.ensures.value;
    }

pub returns-else-target-now : goal.returns-else-target-now
returns-else-target-now c =
    let gap = rw (to_z-of_z c.ranges.now, to_z-of_z c.ranges.target) at c.gap-else-target-now.ensures.value in
    record {
      value = c.raising_of.ensures.value
          ∙ raised c.args.now c.args.target c.args.lower c.args.raise c.gap-else-target-now.result c.lesser-else-target-now.result gap
          c.lesser-else-target-now.ensures.value;
    }
