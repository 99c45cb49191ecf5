use Rattle.std.proofs.Common.{rules}
use Rattle.std.proofs.Math.Facts.{to_z-of_z}
use Rattle.reaching_steps.proofs.Growing.{moves_start, moves_on}
use Rattle.reaching_steps.proofs.Fronts.{moves_front}
use Rattle.reaching_steps.proofs.steps.move_all.Goals as goal

pub loop-s-init : goal.loop-s-init
loop-s-init c =
    rw (to_z-of_z c.ranges.target) (moves_start c.args.trial.now c.args.taken.now.items c.args.named.0 c.args.field.0 c.args.target)

pub loop-s-preserved : goal.loop-s-preserved
loop-s-preserved c =
    let same = to_z-of_z c.ranges.target in
    let before = rw same at c.loop-s.invariant in
    let did = rw same at c.in_ok-move_field.ensures.grew in
    rw same (moves_on c.args.named.0 c.args.field.0 c.args.target c.loop-s.s before did)

pub returns-in_err-move_field : goal.returns-in_err-move_field
returns-in_err-move_field c =
    let same = to_z-of_z c.ranges.target in
    let before = rw same at c.loop-s.invariant in
    let did = rw same at c.in_err-move_field.ensures.grew in
    let t = moves_front c.args.named.0 c.args.field.0 c.args.target c.loop-s.s c.args.sites c.loop-s-test.true before did in
    search (rules, t)
