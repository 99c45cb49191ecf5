use Rattle.log_replay.proofs.Told.{cut_told_none, cut_told_one}
use Rattle.log_replay.proofs.standing.cut_told.Goals as goal

pub loop-told-init : goal.loop-told-init
loop-told-init c = cut_told_none c.args.field.0 c.args.kind

pub loop-told-preserved : goal.loop-told-preserved
loop-told-preserved c =
    let ts = c.args.cuts.now in
    let i = c.loop-told.told-index in
    cut_told_one ts i c.args.field.0 c.args.kind c.loop-told.total _ c.loop-told-test.true c.loop-told.invariant
    c.cut_or-total.ensures.value
