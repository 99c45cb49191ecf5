use Rattle.std.proofs.Common.{rules}
use Rattle.std.proofs.Math.Facts.{to_z-of_z}
use mir.Syntax.{w64}
use mir.Val.{SFits}
use Rattle.reaching_steps.proofs.Firsts.{outside_is}
use Rattle.reaching_steps.proofs.faults.outside.Goals as goal

pub returns : goal.returns
returns c =
    let lo : SFits w64 c.raise_by.result = search rules in
    let hi : SFits w64 c.lower_by.result = search rules in
    let told = rw (to_z-of_z lo, to_z-of_z hi, to_z-of_z c.ranges.target) at c.told_outside.ensures.value in
    let low = rw (to_z-of_z c.ranges.floor) at c.raise_by.ensures.value in
    let high = rw (to_z-of_z c.ranges.ceiling) at c.lower_by.ensures.value in
    record { value = outside_is _ c.raise_by.result c.lower_by.result _ _ c.args.target low high told }
