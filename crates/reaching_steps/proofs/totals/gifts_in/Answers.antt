use Rattle.std.proofs.Common.{arith}
use Rattle.reaching_steps.specs.Told.{passes}
use Rattle.reaching_steps.proofs.Walking.{gift_step}
use Rattle.reaching_steps.proofs.totals.gifts_in.Goals as goal

pub loop-effect-preserved : goal.loop-effect-preserved
loop-effect-preserved c =
    let l = c.loop-effect in (
      gift_step (passes c.args.receivers) c.args.field.0 c.args.kind c.args.told.now l.effect-index _ l.all c.gift_in.result
          c.from-all.result _ c.loop-effect-test.true c.gift_in.ensures.value c.from-all.ensures l.invariant.0,
      omega (arith, l.invariant.1, c.from-all.ensures, c.gift_in.type_inv),
    )
